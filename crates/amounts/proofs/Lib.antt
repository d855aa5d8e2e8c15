pub mod Parts
pub mod Units
pub mod Fraction
pub mod Spelling
pub mod Reading
pub mod Shortest
pub mod Laws
