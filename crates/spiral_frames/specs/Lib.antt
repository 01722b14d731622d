pub use Rattle.frame_headers.specs.Kinds
pub use Rattle.frame_headers.specs.Headers
pub use Rattle.frame_headers.specs.Refusals
pub use Rattle.frame_headers.specs.Checks
pub mod Frames
pub mod FrameChecks
pub mod FrameLaws
