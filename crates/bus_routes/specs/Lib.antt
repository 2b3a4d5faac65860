pub mod Missed
pub mod Rows
pub mod Tables
pub mod Inside
pub mod Uses
