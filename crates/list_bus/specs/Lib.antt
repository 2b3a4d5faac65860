pub mod Decided
pub mod Inside
pub mod Played
pub mod Standings
