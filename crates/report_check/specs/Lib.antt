pub mod Parts
pub mod Tails
pub mod Verdicts
