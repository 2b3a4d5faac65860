pub mod Dests
pub mod Inside
pub mod Routing
