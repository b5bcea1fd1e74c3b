pub mod Choices
pub mod Cliques
pub mod Examples
pub mod Joins
pub mod Marks
pub mod Rows
pub mod Law
