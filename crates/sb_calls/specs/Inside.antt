-- What contracts see of the core's fields, and what is always true of them.
use Rattle.std.specs.Prelude.{◌≡◌, ℕ, ◌+◌, ◌^◌, ◌<◌, true, length, is_some}
use Rattle.bus_words.specs.Acts.{whole_after}
use Rattle.bus_words.specs.Held.{is_unsent}
use Rattle.bus_words.specs.Log.{left_of}
use Rattle.journal_store.specs.Budgets.{entries_left}
use Rattle.bus_words.specs.Pipes.{last_on}
use Rattle.bus_messages.specs.Words.{loan_of, desc_of}
use Rattle.sb_calls.specs.declared.journalled.BusCore.TheInside.{Inside}
use Rattle.sb_calls.specs.Core.{Core, IsLegalCore, IsNoted}
use Rattle.sb_calls.specs.Notes.{noted, noted_desc}

-- the core as its callers see it
abbrev pub core_of : Inside → Core
core_of a = record { limits = a.core.limits; log = a.noted.log; notes = a.noted.notes }

-- What is always true of a core: its history is one that the bus can have, each entry has the note
-- that is due, its state is the one that the history leaves, the last message of each pipe is lent
-- by the loan that was noted, each unsent buffer's block has the descriptor that was noted, and a
-- number is left for every entry that may come.
pub record Stands (a : Inside) : Type 0 where
  pub legal : IsLegalCore (core_of a)
  pub due : IsNoted (core_of a)
  pub whole : a.core.whole ≡
      whole_after a.core.limits (length a.noted.log.budgets) a.noted.log.entries
  pub loans : (pipe : ℕ) → is_some (last_on a.core.whole.bus.pipes pipe) ≡ true →
      loan_of a.core.loans pipe ≡ noted pipe a.noted.log.entries a.noted.notes
  pub descs : (number : ℕ) → is_unsent a.core.whole.bus.unsent number ≡ true →
      desc_of a.core.descs number ≡ noted_desc number a.noted.log.entries a.noted.notes
  pub few : length a.noted.log.entries + entries_left (left_of a.noted.log) < 2 ^ 32
