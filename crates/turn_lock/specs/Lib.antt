pub mod Rule
pub mod Seats
pub mod Lending
pub mod Views
pub mod Steps
pub mod Inside
