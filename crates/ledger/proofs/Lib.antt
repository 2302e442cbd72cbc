pub mod Last
pub mod Sums
pub mod Added
pub mod Fees
pub mod Shows
pub mod Written
