pub mod Lists
pub mod Judging
pub mod Books
pub mod Slices
