pub mod Words
pub mod Laying
