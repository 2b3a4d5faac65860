pub mod Inside
pub mod Messages
pub mod Sends
pub mod Tied
