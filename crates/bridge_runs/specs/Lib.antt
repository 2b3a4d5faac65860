pub mod Sides
pub mod Bridge
pub mod Bridged
pub mod Lefts
