pub mod Booleans
pub mod FileReadings
pub mod ReadLines
pub mod ReadTexts
pub mod ReadWords
pub mod ReadingLaws
pub mod Trims
