pub mod Parsed
pub mod Reading
pub mod Told
pub mod Closes
