pub mod Threads
pub mod BetweenTurns
pub mod FirstTurns
pub mod Joins
pub mod Numbers
pub mod Ways
pub mod FreshPorts
pub mod Wholes
