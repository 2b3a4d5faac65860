pub mod Audit
pub mod Copies
pub mod Parts
