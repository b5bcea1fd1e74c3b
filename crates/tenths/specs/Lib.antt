pub mod Differences
pub mod Examples
pub mod Relaxing
pub mod Rows
pub mod Tenths
pub mod Laws
pub mod Forms
