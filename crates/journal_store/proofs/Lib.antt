pub mod Charges
pub mod Pushes
pub mod Replaces
