pub mod Bytes
pub mod Lines
pub mod Escapes
pub mod Errors
pub mod Words
