pub mod Judging
pub mod Settling
pub mod Listing
pub mod Ending
