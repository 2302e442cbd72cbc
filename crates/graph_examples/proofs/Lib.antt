-- The lemmas of this crate.
mod Leasts
