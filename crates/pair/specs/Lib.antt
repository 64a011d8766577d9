pub mod Lesser
pub mod Parted
