mod Allowances
mod EmptyBags
mod Laws
mod Openings
mod OthersCalls
mod PermitTests
mod Standings
pub mod Threads
mod Visits
