pub mod Numerals
pub mod ThreeNumbers
pub mod Buffers
