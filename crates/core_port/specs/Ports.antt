-- What is seen of a port and of the main part, and what a port's calls answer.
use Rattle.std.specs.Prelude.{◌≡◌, ℕ, ◌⊎◌, Bool, true, false, List, [], ◌∷◌, ◌++◌}
use Rattle.atomic_table.specs.Seated.{TableId}
use Rattle.core_port.specs.Words.{Words}
use mathlib.Core.List.{IsPrefix}

-- A port: the lock that it is of, its application, the core with the history that it has seen, and
-- the entries that it made.
pub record PortView (S N : Type 0) : Type 0 where
  pub lock : TableId
  pub app : ℕ
  pub seen : S
  pub mine : List N

-- The main part: the lock that it is of, the core with the history that it has seen, the
-- applications whose ports were made, and those whose ports were joined, each with its entries.
pub record MainView (S N : Type 0) : Type 0 where
  pub lock : TableId
  pub seen : S
  pub apps : List ℕ
  pub ended : List (ℕ × List N)

module _ {S N C A L : Type 0} (w : Words S N C A L) where
  -- Answers. --

  -- The call was made after the history that the port had seen and entries of others alone, and was
  -- answered as the core answers it there. Its entry is the last that the port has seen now, and
  -- the last of its own.
  pub record Answers (old new : PortView S N) (call : C) (answer : A) : Type 0 where
    pub between : S
    pub others : w.others old.seen between old.app
    pub does : w.does between new.seen old.app call answer
    pub mine : new.mine ≡ old.mine ++ w.entry old.app call answer ∷ []
    pub sound : w.sound new.seen
    pub lock : new.lock ≡ old.lock
    pub app : new.app ≡ old.app

  -- The same for a look that found this, and made these entries: one, or none if it was in
  -- vain.
  pub record AnswersLook (old new : PortView S N) (finds : S → S → Type 0) (made : List N) :
      Type 0 where
    pub between : S
    pub others : w.others old.seen between old.app
    pub looks : finds between new.seen
    pub mine : new.mine ≡ old.mine ++ made
    pub sound : w.sound new.seen
    pub lock : new.lock ≡ old.lock
    pub app : new.app ≡ old.app

  -- the entry of a look; one in vain makes none
  abbrev pub look_entries : ℕ → C → A → Bool → List N
  look_entries app call answer true = []
  look_entries app call answer false = w.entry app call answer ∷ []

  -- Joins and the close. --

  -- the history of the one begins that of the other, and so do the notes
  pub record Begins (one other : S) : Type 0 where
    pub entries : IsPrefix (w.entries one) (w.entries other)
    pub notes : IsPrefix (w.notes one) (w.notes other)

  -- this core, with the history of that one
  abbrev pub with_history : S → S → S
  with_history core other = w.core (w.fixed core) (w.entries other) (w.notes other)

  -- one of the two histories begins the other, and the longer one is kept
  abbrev pub KeepsLongerOf : S → S → S → Type 0
  KeepsLongerOf one other kept =
      (Begins one other × (kept ≡ with_history one other)) ⊎ (Begins other one × (kept ≡ one))
