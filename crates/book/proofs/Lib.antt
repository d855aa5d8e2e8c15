pub mod Runs
pub mod Reporting
pub mod Looking
pub mod Opening
pub mod Closing
