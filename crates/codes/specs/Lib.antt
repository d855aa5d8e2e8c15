pub mod Alphabets
pub mod Rules
pub mod Values
pub mod Codes
pub mod Laws
pub mod Hosts
