pub mod Numbers
pub mod Lists
pub mod Refused
pub mod Openings
pub mod Running
pub mod Told
