pub mod Bytes
pub mod Lines
pub mod Numerals
pub mod Words
