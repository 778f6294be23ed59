pub mod Causes
pub mod Limits
