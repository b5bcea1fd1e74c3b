pub mod Adding
pub mod Answers
pub mod Grammar
pub mod Limits
pub mod Listing
pub mod Spelling
pub mod Words
