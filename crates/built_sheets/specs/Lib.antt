pub mod Published
pub mod Kdpw
pub mod Rules
pub mod Rows
pub mod Tabled
pub mod Chosen
pub mod Laws
