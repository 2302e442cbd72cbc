pub mod Arrays
pub mod Bits
pub mod Iteration
pub mod Loops
pub mod Members
