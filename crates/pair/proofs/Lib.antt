pub mod Choosing
pub mod Dealing
pub mod Following
pub mod Having
pub mod Putting
pub mod Rests
pub mod Sharing
pub mod Sifting
