pub mod Settings
pub mod Accounts
