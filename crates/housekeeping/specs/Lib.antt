pub mod Counters
pub mod Inside
pub mod Packet
pub mod Peaks
pub mod Statistics
