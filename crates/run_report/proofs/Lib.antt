pub mod Accounts
pub mod LegalAnswers
pub mod LegalTableAnswers
pub mod ReportLines
pub mod Splits
pub mod TableLines
pub mod Versions
pub mod Words
