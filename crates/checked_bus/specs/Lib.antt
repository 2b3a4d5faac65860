pub mod Answers
pub mod Asked
pub mod Box
pub mod Classes
pub mod Inside
pub mod Lent
