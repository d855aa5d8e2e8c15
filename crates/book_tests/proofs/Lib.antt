pub mod Behind
pub mod Chain
