pub mod TextLines
pub mod WholeText
