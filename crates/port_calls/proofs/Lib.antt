pub mod Buffers
pub mod PortAnswers
mod BufferMessages
