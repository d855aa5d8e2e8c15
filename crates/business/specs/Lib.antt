pub mod TargetDays
pub mod BusinessDays
