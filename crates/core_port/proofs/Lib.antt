mod ApplicationCounts
pub mod Histories
mod Mains
mod Meetings
mod TurnFinds
mod TurnsAfterSleep
mod Visits
