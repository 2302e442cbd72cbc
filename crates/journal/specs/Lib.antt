pub mod Text
pub mod Calls
pub mod Settings
pub mod Wrongs
