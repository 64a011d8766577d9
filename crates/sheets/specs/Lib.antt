pub mod Filled
pub mod Sheets
