pub mod Again
pub mod Judged
