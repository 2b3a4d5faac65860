pub mod Inside
pub mod Ports
pub mod Words
