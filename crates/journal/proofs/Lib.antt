pub mod Inverse
pub mod Wording
