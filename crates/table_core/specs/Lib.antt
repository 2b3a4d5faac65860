pub mod Answers
pub mod Blocks
pub mod Core
pub mod Inside
pub mod Refusals
pub mod Views
