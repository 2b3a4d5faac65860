use Rattle.std.proofs.Common.{◌≡◌, ◌++◌, ◌∷◌, [], List, true, map, ap, sym, ◌∙◌, subst, arith, append_assoc}
use Rattle.std.specs.List.{All}
use Rattle.std.proofs.lemmas.List.{map_push}
use Rattle.std.proofs.lemmas.List.Elements.{All-tail}
use Rattle.bus_words.specs.ReceiptLists.{Receipts}
use Rattle.bus_words.specs.declared.receipts.Receipt.{Receipt}
use Rattle.app_run.specs.Runners.{Progress}
use Rattle.app_run.proofs.rotating.receipts_of.Goals as goal

pub loop-runner-preserved : goal.loop-runner-preserved
loop-runner-preserved c =
    let at = c.loop-runner.invariant in
    let step = c.in-Some.ensures.steps in
    let told : Receipts → List Receipt = λ list. list.receipts in
    let left : Progress → List Receipt = λ p. p.receipts in
    let rest = c.next.new.self.rest.items in
    let Ended : List Progress → Type 0 = λ l. All (λ (p : Progress). p.ended ≡ true) l in (
      ap (λ l. map told l ++ map left rest) c.push_reserved.ensures.items
          ∙ ap (λ l. l ++ map left rest) (map_push told c.loop-runner.receipts.items c.finish.result)
          ∙ append_assoc (map told c.loop-runner.receipts.items) (c.finish.result.receipts ∷ []) (map left rest)
          ∙ ap (λ r. map told c.loop-runner.receipts.items ++ (r ∷ map left rest)) c.finish.ensures
          ∙ ap (λ l. map told c.loop-runner.receipts.items ++ map left l) (sym step.0)
          ∙ at.0,
      All-tail (λ (p : Progress). p.ended ≡ true) c.in-Some.runner rest (subst Ended step.0 at.1),
      omega (arith, at.2, step.1, c.push_reserved.ensures.len),
      c.push_reserved.ensures.capacity ∙ at.3,
    )
