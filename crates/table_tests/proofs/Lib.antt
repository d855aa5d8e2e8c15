pub mod Desk
pub mod Front
