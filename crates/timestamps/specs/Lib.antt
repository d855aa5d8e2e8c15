pub mod Times
pub mod Timestamps
pub mod Checks
pub mod Laws
