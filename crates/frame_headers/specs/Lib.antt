pub use Rattle.spiral_sets.specs.Sets
pub use Rattle.spiral_sets.specs.Counts
pub mod Kinds
pub mod Headers
pub mod Refusals
pub mod Checks
