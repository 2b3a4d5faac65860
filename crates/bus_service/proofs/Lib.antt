mod ActiveStandings
mod EmptyBags
mod Laws
mod LentBuffers
mod Looks
mod Openings
pub mod OthersCalls
mod PermitTests
mod Refusals
pub mod Threads
mod Visits
