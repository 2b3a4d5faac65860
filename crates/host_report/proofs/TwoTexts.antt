-- One text behind another, each written in a call of its own; and the texts of both sides of a bridge.
use Rattle.std.proofs.Common.{◌≡◌, ℕ, List, ◌++◌, Option, Result, Ok, Err, OnErr, codes, refl, ap, sym, ◌∙◌, append_assoc}
use Rattle.app_run.specs.declared.rotating.Finished.{Finished}
use Rattle.text_page.specs.Pieces.{Grew, CutShort}
use Rattle.text_page.proofs.PieceTexts.{grew_then}
use Rattle.host_report.specs.Parts.{both_shown, part_shown, side_shown}
use Rattle.host_report.specs.declared.reporting.Part.TheVariants.{Whole}

-- both texts
pub grew_both : (a b c : Option (List ℕ)) (s t : List ℕ) → Grew a b s → Grew b c t → Grew a c (s ++ t)
grew_both a b c s t first second = grew_then a {b = b} {c = c} s t first second

-- a front of the first text is one of both
pub cut_first : (a b : Option (List ℕ)) (s t : List ℕ) → CutShort a b s → CutShort a b (s ++ t)
cut_first a b s t cut = record {
  sent = cut.sent;
  left = cut.left ++ t;
  whole = ap (λ l. l ++ t) cut.whole ∙ append_assoc cut.sent cut.left t;
  bytes = cut.bytes;
}

-- the first text and a front of the second
pub cut_second : (a b c : Option (List ℕ)) (s t : List ℕ) → Grew a b s → CutShort b c t → CutShort a c (s ++ t)
cut_second a b c s t grew cut = record {
  sent = s ++ cut.sent;
  left = cut.left;
  whole = ap (λ l. s ++ l) cut.whole ∙ sym (append_assoc s cut.sent cut.left);
  bytes = grew_both a b c s cut.sent grew cut.bytes;
}

-- what holds anyway holds of a failure
pub on_err_any : {T E P : Type 0} (r : Result T E) → P → OnErr r P
on_err_any (Ok x) holds = tt
on_err_any (Err e) holds = holds

pub side_is : (line : List ℕ) (side : Finished) → side_shown line side ≡ line ++ part_shown Whole side.bus side.tables side.receipts.items
unfolding side_shown
side_is line side = refl

pub both_are : (one two : Finished) → both_shown one two ≡ side_shown (codes "side 1\n") one ++ side_shown (codes "side 2\n") two
unfolding both_shown
both_are one two = refl
