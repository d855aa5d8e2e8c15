pub mod Gregorian
pub mod Dates
pub mod Text
pub mod Easter
pub mod Laws
