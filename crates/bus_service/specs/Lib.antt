pub mod Inside
pub mod Lending
pub mod Ports
pub mod Words
