pub mod Completion
pub mod Example
