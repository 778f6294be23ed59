pub mod Format
pub mod Layout
pub mod Checks
pub mod Checking
pub mod Laws
