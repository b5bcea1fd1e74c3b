pub mod Answers
pub mod Data
