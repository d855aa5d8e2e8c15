pub mod Powers
pub mod Decimal
pub mod Padded
pub mod ThreeNumbers
