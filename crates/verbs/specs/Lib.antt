pub mod Verbs
pub mod Faults
pub mod Words
pub mod Settings
pub mod Shelves
pub mod Answers
pub mod Chosen
