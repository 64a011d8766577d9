pub mod Changes
pub mod Last
pub mod Sets
pub mod Shift
pub mod Unions
pub mod Walks
