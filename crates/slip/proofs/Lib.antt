pub mod Cutting
pub mod Laid
pub mod Written
pub mod Drafting
