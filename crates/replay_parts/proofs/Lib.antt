pub mod Fronts
pub mod Heads
pub mod LineTexts
pub mod Lists
pub mod Passing
mod LineEnds
