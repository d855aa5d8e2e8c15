pub mod Entries
pub mod Keys
pub mod Shown
pub mod Days
