pub mod SumsSoFar
pub mod RowNoises
pub mod LiftNoises
pub mod ReportRows
pub mod SideBounds
pub mod FittingRows
