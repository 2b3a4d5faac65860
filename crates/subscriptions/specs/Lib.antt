pub mod Inside
pub mod Subs
