pub mod Parts
pub mod Routes
pub mod Sides
pub mod Plan
pub mod Faults
pub mod Grammar
pub mod Sends
pub mod Inside
