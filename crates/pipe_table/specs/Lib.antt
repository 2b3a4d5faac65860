pub mod Inside
pub mod Table
