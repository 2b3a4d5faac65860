pub mod Inside
pub mod Locks
pub mod Ports
