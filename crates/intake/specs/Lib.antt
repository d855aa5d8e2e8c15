pub mod Places
pub mod Intake
