pub mod CopyLaws
pub mod Figures
pub mod TableCopyLaws
pub mod TwoTexts
