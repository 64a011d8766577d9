pub mod Determined
pub mod Meaning
