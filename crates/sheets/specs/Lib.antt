pub mod Findings
pub mod Sheets
pub mod Laws
