pub mod Ascending
pub mod Changes
pub mod Finding
pub mod Rows
