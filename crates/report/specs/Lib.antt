pub mod Texts
pub mod Judging
pub mod Needs
pub mod Values
pub mod Named
pub mod Laws
