pub mod Image
pub mod FaultNames
pub mod Inside
