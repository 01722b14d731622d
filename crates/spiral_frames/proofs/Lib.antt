pub mod FrameLaws
pub mod Bodies
pub mod SetupBodies
pub mod DatabaseFrames
pub mod SpelledDatabases
pub mod SameMessages
pub mod SameKeys
mod Examples
