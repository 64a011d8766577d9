pub mod Links
pub mod Spots
pub mod Walk
