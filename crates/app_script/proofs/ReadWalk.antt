-- What every line keeps holds of a text that was read whole.
use Rattle.std.proofs.Common.{◌≡◌, ℕ, ◌+◌, ◌≤◌, Bool, true, false, cond, nat_lt, List, [], ◌∷◌, length, Result, Ok, Err, refl, sym, ap, ◌∙◌, subst}
use Rattle.std.proofs.lemmas.Bool.{ltb-false}
use Rattle.fsw_base.specs.declared.script_faults.FaultKind.TheVariants.{TooLarge, NoApp}
use Rattle.fsw_base.specs.declared.script_faults.ScriptFault.{ScriptFault}
use Rattle.script_words.specs.Text.{lines_of}
use Rattle.script_lines.proofs.ReadingLaws.{Holds}
use Rattle.app_script.specs.Grammar.{Progress, opening, after_line, after_lines, at_line, whole_fault, progress_of, ◌>=>◌}

-- lines from any number on
pub lines_keep : (P : Progress → Type 0) → ((s : Progress) (line : List ℕ) → P s → Holds P (after_line s line)) → (n : ℕ) (s t : Progress) (lines : List (List ℕ)) → P s → after_lines n s lines ≡ Ok t → P t
unfolding after_lines
lines_keep P step n s t [] kept e =
    let same : s ≡ t = cc in
    subst P same kept
lines_keep P step n s t (line ∷ lines) kept e =
    elim (after_line s line) as (λ r. Holds P r → (at_line n r >=> λ u. after_lines (n + 1) u lines) ≡ Ok t → P t) [
      | Ok u ↦ λ after h. lines_keep P step (n + 1) u t lines after h
      | Err fault ↦ λ after h. absurd cc
    ] (step s line kept) e

-- what is read whole has an application
started_well : (b : Bool) (s t : Progress) (fault : ScriptFault) → cond {A = Result Progress ScriptFault} b (Ok s) (Err fault) ≡ Ok t → (s ≡ t) × (b ≡ true)
started_well true s t fault h = (cc, refl)
started_well false s t fault h = absurd cc

ended_well : (r : Result Progress ScriptFault) (t : Progress) (fault : ScriptFault) → (r >=> λ s. cond s.started (Ok s) (Err fault)) ≡ Ok t → (r ≡ Ok t) × (t.started ≡ true)
ended_well (Ok s) t fault e = let well = started_well s.started s t fault e in (ap Ok well.0, ap (λ u. u.started) (sym well.0) ∙ well.1)
ended_well (Err other) t fault e = absurd cc

-- it is not too long, and all its lines are read
pub whole_read : (bytes : List ℕ) (t : Progress) → progress_of bytes ≡ Ok t → (length bytes ≤ 1048576) × (after_lines 1 opening (lines_of bytes) ≡ Ok t) × (t.started ≡ true)
unfolding progress_of
whole_read bytes t e = decide (nat_lt 1048576 (length bytes)) refl (whole_fault TooLarge) (whole_fault NoApp) e
  where
    decide : (b : Bool) → nat_lt 1048576 (length bytes) ≡ b → (large fault : ScriptFault) → cond b (Err large) (after_lines 1 opening (lines_of bytes) >=> λ s. cond s.started (Ok s) (Err fault)) ≡ Ok t
        → (length bytes ≤ 1048576) × (after_lines 1 opening (lines_of bytes) ≡ Ok t) × (t.started ≡ true)
    decide true size large fault h = absurd cc
    decide false size large fault h =
        let well = ended_well (after_lines 1 opening (lines_of bytes)) t fault h in
        (ltb-false 1048576 (length bytes) size, well.0, well.1)
