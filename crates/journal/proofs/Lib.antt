pub mod Words
pub mod Digits
pub mod Hex
pub mod Reading
pub mod Parts
