pub mod Commands
pub mod Hosts
