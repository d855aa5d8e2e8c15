pub mod Exchanged
pub mod Filling
pub mod Named
pub mod Told
