-- The definitions that the laws of this crate cite.
pub mod Search
pub mod Chart
pub mod Rows
pub mod Rollback
pub mod Sheet
pub mod Calls
pub mod Report
pub mod Run
pub mod Book
pub mod Relations
pub mod Sheets
pub mod Listings
pub mod Replies
pub mod Histories
pub mod Summaries
pub mod Examples
pub mod Laws
