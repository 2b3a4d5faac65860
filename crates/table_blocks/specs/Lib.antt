pub mod Blocks
pub mod Contents
pub mod Held
pub mod Inside
pub mod Memory
pub mod Versions
