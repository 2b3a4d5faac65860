pub mod Loan
pub mod Inside
