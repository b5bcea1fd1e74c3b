pub mod Accepting
pub mod Complements
pub mod Failing
