pub mod Accounts
pub mod Places
pub mod Calls
pub mod Validations
pub mod LoadBars
