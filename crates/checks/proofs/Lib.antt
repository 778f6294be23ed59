pub mod Sections
pub mod Estimates
pub mod Passing
pub mod Unique
