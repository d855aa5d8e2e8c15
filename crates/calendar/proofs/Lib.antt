pub mod Spans
pub mod Parts
pub mod Civil
pub mod EasterRule
pub mod Form
