pub mod Running
pub mod Saying
