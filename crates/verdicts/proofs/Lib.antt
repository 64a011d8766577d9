pub mod Bytes
pub mod Conditions
pub mod LineFields
pub mod LineRefused
pub mod OneAnswer
pub mod RefusedFirst
pub mod TextDeclared
