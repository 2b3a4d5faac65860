pub mod Histories
pub mod Inside
pub mod Ports
pub mod Turns
pub mod Words
