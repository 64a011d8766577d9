pub mod Alls
pub mod Pasts
pub mod Splits
pub mod Values
