pub mod Accounts
pub mod Keeps
pub mod Places
pub mod Returns
pub mod Rows
