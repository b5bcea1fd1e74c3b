pub mod Assembly
pub mod Beside
pub mod Cells
pub mod Embedding
pub mod Example
pub mod Garden
pub mod Neighbours
