pub mod Duties
pub mod Ranges
pub mod Sets
pub mod DutyLaws
