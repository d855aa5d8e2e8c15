pub mod SetOut
pub mod OwnTexts
pub mod Accepted
pub mod RoundTrip
pub mod Front
pub mod NextField
pub mod SameTexts
