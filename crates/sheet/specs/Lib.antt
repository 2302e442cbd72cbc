-- What the contracts of this crate cite.
pub mod Graphs
pub mod Parts
pub mod SheetOf
pub mod Candidates
pub mod Calls
pub mod Tickets
pub mod Asked
pub mod Reports
pub mod Lent
pub mod Happenings
pub mod Runs
pub mod Summaries
pub mod Listings
pub mod Fields
