pub mod Text
pub mod Readings
pub mod Lists
pub mod Counts
pub mod Numbers
pub mod Content
