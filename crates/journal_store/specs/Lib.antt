pub mod Budgets
pub mod Inside
pub mod Store
