pub mod Lines
pub mod Making
pub mod Choosing
pub mod Walking
pub mod Stepping
