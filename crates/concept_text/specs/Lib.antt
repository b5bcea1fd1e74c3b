pub mod Adding
pub mod Nodes
pub mod Placed
pub mod Reading
pub mod Words
