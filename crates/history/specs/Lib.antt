pub mod Histories
pub mod Playing
pub mod Runs
pub mod Steps
pub mod Tokens
pub mod Views
