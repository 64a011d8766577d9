pub mod NameBytes
pub mod NameWalks
