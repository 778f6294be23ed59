pub mod Refusals
pub mod Plan
pub mod Steps
pub mod Answer
pub mod Policies
pub mod Promises
