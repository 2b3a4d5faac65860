pub mod Bag
pub mod Blocks
pub mod Inside
pub mod Store
pub mod Words
