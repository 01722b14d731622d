mod EndsShort
mod SentFrames
mod OneReceived
mod SendThenReceive
mod LookingUp
