pub mod Digits
pub mod ListTexts
pub mod PieceTexts
