pub mod Summaries
pub mod Spelled
pub mod Played
pub mod Playing
pub mod Names
pub mod Outcomes
pub mod Run
