pub mod Checks
pub mod Laws
pub mod Values
