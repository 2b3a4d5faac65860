pub mod Lines
pub mod TableLines
pub mod Openings
pub mod Received
pub mod Runners
pub mod Inside
pub mod Turns
pub mod Rounds
