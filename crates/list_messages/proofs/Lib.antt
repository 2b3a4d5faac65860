pub mod Deliveries
pub mod NamesGone
pub mod NameCounts
pub mod Outs
pub mod Account
pub mod HeldNumbers
pub mod Ties
pub mod NamedNumbers
