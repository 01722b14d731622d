pub mod Cuts
pub mod RoundPowers
pub mod HalfRows
pub mod Rounds
pub mod SetRounds
pub mod Expansions
