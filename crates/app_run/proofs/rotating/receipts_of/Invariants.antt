use Rattle.std.proofs.Common.{◌≡◌, ◌+◌, ◌++◌, true, map, vec_len, vec_capacity}
use Rattle.std.specs.List.{All}
use Rattle.bus_words.specs.ReceiptLists.{Receipts}
use Rattle.app_run.specs.Runners.{Progress}
use Rattle.app_run.proofs.rotating.receipts_of.Given as goal

-- the receipts so far and those of the applications left are all of them
abbrev pub invariant-loop-runner : goal.invariant-loop-runner
invariant-loop-runner l =
    (map (λ (list : Receipts). list.receipts) l.receipts.items ++ map (λ (p : Progress). p.receipts) l.runner-iterator.rest.items ≡ map (λ (p : Progress). p.receipts) l.fn.runners.items)
    × All (λ (p : Progress). p.ended ≡ true) l.runner-iterator.rest.items
    × (vec_len l.receipts + l.runner-iterator.rest.len ≡ vec_len l.fn.runners)
    × (vec_capacity l.receipts ≡ vec_capacity l.fn.room)
