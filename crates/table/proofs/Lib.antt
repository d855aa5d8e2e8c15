pub mod Searching
pub mod Entering
pub mod Leaving
