mod Deliveries
mod Offers
mod OffersLists
mod OffersRows
mod OffersSubs
mod Takes
pub mod Endings
pub mod EndingsLists
pub mod Removals
mod PipePlaces
mod Ties
mod Routes
mod PipeChanges
mod NewSubscriptions
mod Readers
pub mod UseCounts
mod FirstOf
