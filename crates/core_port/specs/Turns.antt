-- A turn of an application at the lock: what its seat finds, and what it leaves.
use Rattle.std.specs.Prelude.{◌≡◌, [], ◌∷◌, ◌++◌, Some}
use Rattle.turn_lock.specs.Views.{entries_of}
use Rattle.turn_lock.specs.Seats.{Known}
use Rattle.core_port.specs.Words.{Fixed, Words}
use Rattle.core_port.specs.Histories.{history_of}
use Rattle.core_port.specs.declared.history.NotedCall.{NotedCall}
use mathlib.Core.List.{IsPrefix}

module _ {S N C A L : Type 0} (w : Words S N C A L) where
  -- the core found has the fixed part of the opening, a history that extends the one seen and has
  -- just the seat's own entries of its application, and what is always true of it
  pub record Entered (v : Known Fixed (NotedCall C A)) (core : S) : Type 0 where
    pub opening : Some (w.fixed core) ≡ v.fixed
    pub extends : IsPrefix v.seen (history_of w core)
    pub mine : entries_of v.app (history_of w core) ≡ v.mine
    pub sound : w.sound core

  -- the core left has the fixed part of the opening, and one entry more, of the seat's application
  pub record MadeOne (v : Known Fixed (NotedCall C A)) (core : S) : Type 0 where
    pub opening : Some (w.fixed core) ≡ v.fixed
    pub call : NotedCall C A
    pub entry : history_of w core ≡ v.seen ++ (v.app, call) ∷ []
