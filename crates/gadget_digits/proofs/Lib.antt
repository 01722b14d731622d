pub mod DigitRows
