pub mod Paired
pub mod Rule
pub mod Split
pub mod Laws
