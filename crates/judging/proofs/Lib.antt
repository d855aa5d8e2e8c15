pub mod Registered
pub mod Lined
pub mod Placed
pub mod Judged
pub mod Shown
