pub mod Letters
pub mod Fields
pub mod Parties
pub mod Laws
