-- What the lock knows of a core: what never changes, and its history, each call with its answer and
-- note beside its application.
use Rattle.std.specs.Prelude.{ℕ, ◌==◌, List, [], ◌∷◌, map, filter, Option, Some, None}
use Rattle.fsw_base.specs.Limits.{usual_limits}
use Rattle.lend_block.specs.declared.note.Note.{Note}
use Rattle.core_port.specs.Words.{Fixed, Words}
use Rattle.core_port.specs.declared.history.NotedCall.{NotedCall}

-- what never changes; if nothing is known of it, the usual limits and no budgets
abbrev pub the_fixed : Option Fixed → Fixed
the_fixed None = record { limits = usual_limits; budgets = [] }
the_fixed (Some fixed) = fixed

module _ {S N C A L : Type 0} (w : Words S N C A L) where
  -- entries with their notes, each beside its application
  abbrev pub with_notes : List N → List Note → List (ℕ × NotedCall C A)
  with_notes (e ∷ entries) (note ∷ notes) =
      (w.caller e, record { call = w.call e; answer = w.answer e; note = note })
      ∷ with_notes entries notes
  with_notes entries notes = []

  -- the core's history, as the lock has it
  abbrev pub history_of : S → List (ℕ × NotedCall C A)
  history_of s = with_notes (w.entries s) (w.notes s)

  -- the entry again
  abbrev pub entry_in : ℕ × NotedCall C A → N
  entry_in p = w.entry p.0 p.1.call p.1.answer

  -- its note
  abbrev pub note_in : ℕ × NotedCall C A → Note
  note_in p = p.1.note

  -- the entries of a history
  abbrev pub entries_in : List (ℕ × NotedCall C A) → List N
  entries_in pairs = map entry_in pairs

  -- the notes of a history, in the order of its entries
  abbrev pub notes_in : List (ℕ × NotedCall C A) → List Note
  notes_in pairs = map note_in pairs

  -- the core with this fixed part and this history
  abbrev pub core_with : Option Fixed → List (ℕ × NotedCall C A) → S
  core_with fixed pairs = w.core (the_fixed fixed) (entries_in pairs) (notes_in pairs)

  -- the entries of one application, in order
  abbrev pub own_entries : ℕ → List N → List N
  own_entries app entries = filter (λ e. w.caller e == app) entries
