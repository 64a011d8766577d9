pub mod Declares
pub mod Refusals
pub mod Refused
pub mod Texts
pub mod Verdicts
