pub mod BufferBytes
pub mod BufferCalls
pub mod CoreAnswers
pub mod TableAnswers
