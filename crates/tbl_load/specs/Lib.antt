pub mod Bags
pub mod Core
pub mod Inside
pub mod InsideNoted
pub mod Notes
