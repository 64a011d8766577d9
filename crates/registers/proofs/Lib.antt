pub mod Changes
pub mod Outcomes
pub mod Spares
