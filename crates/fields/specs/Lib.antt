pub mod Dues
pub mod Fields
pub mod Reading
