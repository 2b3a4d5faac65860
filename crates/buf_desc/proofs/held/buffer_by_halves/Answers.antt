use Rattle.std.proofs.Common.{rules}
use Rattle.std.proofs.lemmas.List.Sorted.{answers_always}
use Rattle.buf_desc.specs.Block.{Unsent}
use Rattle.buf_desc.proofs.RisingKeys.{searched}
use Rattle.buf_desc.proofs.held.buffer_by_halves.Goals as goal

pub returns : goal.returns
returns g c =
    let facts = c.binary_search_by_key.ensures in
    let by_key = facts.position (λ (block : Unsent). block.number) (answers_always _ _ _ (λ f a r h called. search rules)) in
    rw (← c.deref.ensures.value) (searched (λ (block : Unsent). block.number) _ (rw c.deref.ensures.value c.requires.rising) c.args.number _ facts.bound by_key)
