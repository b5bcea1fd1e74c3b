pub mod Advance
pub mod Performing
pub mod Running
pub mod Stamps
pub mod Trials
