use Rattle.std.proofs.Common.{◌≡◌, ℕ, ◌==◌, false, List, [], ◌∷◌, length, refl, sym, ◌∙◌}
use Rattle.run_report.specs.EventText.{behind_blank}
use Rattle.text_page.proofs.PieceTexts.{◌▸◌, puts_as}
use Rattle.run_report.proofs.events.put_behind_blank.Goals as goal

pub returns-then-not-is_empty : goal.returns-then-not-is_empty
returns-then-not-is_empty g c =
    puts_as _ (some c.args.text.now (sym c.if-not-is_empty.true ∙ c.is_empty.ensures)) (c.put.ensures ▸ c.put-then-not-is_empty.ensures)
  where
    some : (text : List ℕ) → false ≡ (length text == 0) → 32 ∷ text ≡ behind_blank text
    some [] filled = absurd (cc filled)
    some (byte ∷ bytes) filled = refl
