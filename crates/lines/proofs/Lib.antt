pub mod Keeps
pub mod Knows
pub mod Members
pub mod Readings
pub mod Told
