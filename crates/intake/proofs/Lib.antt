pub mod Placing
pub mod Stored
pub mod Answering
