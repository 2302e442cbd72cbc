pub mod Placed
pub mod Shows
pub mod Turned
pub mod Growing
