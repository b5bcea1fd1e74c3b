pub mod Lines
pub mod Nodes
