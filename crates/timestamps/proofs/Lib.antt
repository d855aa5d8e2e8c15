pub mod Instants
pub mod Form
