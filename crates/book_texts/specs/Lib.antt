pub mod Positions
pub mod Lines
