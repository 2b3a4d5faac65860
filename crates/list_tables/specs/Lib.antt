pub mod Kept
pub mod Access
pub mod Inside
