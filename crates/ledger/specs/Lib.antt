pub mod Lines
pub mod Fees
pub mod Book
pub mod Laws
