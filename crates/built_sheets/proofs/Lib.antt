pub mod Reading
pub mod Agreeing
