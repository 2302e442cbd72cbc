-- The lemmas of this crate.
mod Rings
mod Columns
pub mod Scratches
mod Searches
mod Takings
