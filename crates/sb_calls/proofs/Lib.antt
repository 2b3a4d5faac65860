pub mod Budgets
pub mod BufferEffects
pub mod CallEffects
pub mod CoreBags
pub mod CoreBlocks
pub mod EntryLemma
pub mod Fares
pub mod Grants
pub mod Holds
pub mod Looks
pub mod NoteRoom
pub mod Notes
mod OpeningBags
pub mod OthersBags
pub mod PermitTests
pub mod PipeMessages
pub mod UnsentBuffers
