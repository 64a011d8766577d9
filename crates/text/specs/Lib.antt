pub mod Pieces
pub mod Spelling
pub mod Split
pub mod Tokens
