pub mod Callers
pub mod TableCallers
pub mod Buffers
