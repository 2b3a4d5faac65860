-- How a text reaches a sink: in pieces, over a page that is written out if it is full, and not
-- at all after a failure.
use Rattle.std.specs.Prelude.{◌≡◌, ℕ, ◌≤◌, true, false, List, ◌++◌, Option}
use Rattle.std.specs.Option.{option_map}
use Rattle.fsw_base.specs.Guards.{GuardedSink}
use Rattle.fsw_base.specs.Outside.{Rose}

-- The sink has a text behind what it had, if it shows its bytes.
abbrev pub Grew : Option (List ℕ) → Option (List ℕ) → List ℕ → Type 0
Grew old new text = new ≡ option_map (λ before. before ++ text) old

-- A piece is put behind what waits: the sink takes a front of both; what is left waits, or is lost
-- at a failure, which the count of faults shows.
pub record GoesOn (old new : GuardedSink) (before after text : List ℕ) : Type 0 where
  pub sent : List ℕ
  pub left : List ℕ
  pub whole : before ++ text ≡ sent ++ left
  pub bytes : Grew old.written new.written sent
  pub waits : new.failed ≡ false → left ≡ after
  pub cause : new.failed ≡ true → Rose old.faults new.faults
  pub never_falls : old.faults ≤ new.faults

-- What putting a piece does to a sink and to what waits for it; after a failure it leaves the sink
-- as it is.
pub record Puts (old new : GuardedSink) (before after text : List ℕ) : Type 0 where
  pub stays : old.failed ≡ true → new ≡ old
  pub goes : old.failed ≡ false → GoesOn old new before after text
  pub same_sink : new.sink ≡ old.sink

-- the sink took a front of the text alone
pub record CutShort (old new : Option (List ℕ)) (text : List ℕ) : Type 0 where
  pub sent : List ℕ
  pub left : List ℕ
  pub whole : text ≡ sent ++ left
  pub bytes : Grew old new sent
