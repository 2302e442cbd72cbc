-- The definitions that the contracts of this crate cite.
pub mod Ring
pub mod Waiting
pub mod Column
pub mod Held
pub mod Scratch
pub mod Reach
pub mod Search
pub mod Taking
