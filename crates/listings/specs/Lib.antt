pub mod Slips
pub mod Rewritten
pub mod Compared
