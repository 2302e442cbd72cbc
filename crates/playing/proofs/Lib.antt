pub mod Records
pub mod Steps
pub mod Playing
