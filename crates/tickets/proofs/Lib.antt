pub mod Lending
pub mod Undoing
pub mod Downward
pub mod Ending
pub mod Beginning
