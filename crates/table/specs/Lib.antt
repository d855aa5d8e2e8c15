pub mod Order
pub mod Changes
pub mod Register
