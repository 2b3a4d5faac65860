pub mod Map
pub mod Inside
