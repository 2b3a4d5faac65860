pub mod Borrows
pub mod Fields
pub mod Steps
pub mod Threads
pub mod Tokens
