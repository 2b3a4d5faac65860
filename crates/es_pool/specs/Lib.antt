pub mod Account
pub mod Inside
pub mod Kept
pub mod Places
pub mod Pool
pub mod Runs
