-- The definitions that the contracts of this crate cite.
pub mod Arrows
pub mod Ask
