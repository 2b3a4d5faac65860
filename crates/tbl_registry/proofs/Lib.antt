pub mod HandleDrops
pub mod HandleNumbers
pub mod Keeps
pub mod Listings
pub mod Places
pub mod Shelves
pub mod Ties
