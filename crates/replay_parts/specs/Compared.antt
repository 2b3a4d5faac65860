-- A report that is compared, from its front, with what has to be there.
use Rattle.std.specs.Prelude.{◌≡◌, ℕ, ◌+◌, Bool, true, false, List, ◌++◌}
use Rattle.run_check.specs.Fronts.{line_ends}
use Rattle.run_check.specs.Judged.{Begins}

-- What wasn't compared yet, and how many lines end in what was.
pub record Compared : Type 0 where
  pub rest : List ℕ
  pub lines : ℕ

-- it is past this text
pub record GoesPast (old new : Compared) (text : List ℕ) : Type 0 where
  pub rest : old.rest ≡ text ++ new.rest
  pub lines : new.lines ≡ old.lines + line_ends text

-- past this text, if it was there, and past nothing else
abbrev pub Takes : Bool → Compared → Compared → List ℕ → Type 0
Takes true old new text = GoesPast old new text
Takes false old new text = (¬ Begins old.rest text) × (new ≡ old)

-- Text that is kept, and how often memory ran out for it.
pub record Kept : Type 0 where
  pub text : List ℕ
  pub faults : ℕ
