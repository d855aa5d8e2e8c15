pub mod Steps
pub mod Pairs
pub mod Marks
pub mod Said
pub mod Waits
pub mod Alone
pub mod Stand
pub mod Goes
