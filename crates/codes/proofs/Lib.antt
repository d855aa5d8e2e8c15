pub mod Filled
pub mod Ordered
pub mod CodeLaws
