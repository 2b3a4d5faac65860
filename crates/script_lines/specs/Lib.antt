pub mod BusLines
pub mod MemoryLines
pub mod EventLines
pub mod TableLines
pub mod CallLines
pub mod Ranges
pub mod FileLines
