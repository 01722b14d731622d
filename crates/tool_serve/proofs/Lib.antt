mod SessionLists
mod SessionTexts
mod NextSession
mod ServingOn
mod ServingLoop
mod Listening
