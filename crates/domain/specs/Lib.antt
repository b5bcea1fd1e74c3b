pub mod Forms
pub mod Meaning
pub mod Refusals
pub mod Solving
