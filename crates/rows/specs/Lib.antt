-- What the contracts of this crate cite.
pub mod Arrows
pub mod Columns
pub mod Followers
pub mod Highest
pub mod Linked
pub mod Marking
pub mod States
pub mod Steps
pub mod Tables
