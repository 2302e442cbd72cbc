-- What the contracts of this crate cite.
pub mod Iteration
pub mod Members
