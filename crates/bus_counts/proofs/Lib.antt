pub mod Leaves
pub mod Misses
