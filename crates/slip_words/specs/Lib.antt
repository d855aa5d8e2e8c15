pub mod Spelled
pub mod Tagged
pub mod Faults
