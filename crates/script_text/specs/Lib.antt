pub mod Spelling
pub mod ReadsBack
pub mod ScriptSpelling
pub mod Draws
pub mod Generated
pub mod Inside
