pub mod BagViews
pub mod Budgets
pub mod CallEffects
pub mod CoreBags
pub mod Dues
pub mod EntryLemma
pub mod Journals
pub mod NoteRoom
pub mod Notes
mod OpeningBags
pub mod OthersBags
pub mod OwnHandles
pub mod PermitTests
mod TablePlaces
mod Versions
