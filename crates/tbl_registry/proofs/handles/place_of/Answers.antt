-- The closure tells a handle's number, so the search by halves finds the handle, or tells that it isn't there.
use Rattle.std.proofs.Common.{rules}
use Rattle.std.proofs.lemmas.List.Sorted.{answers_always}
use Rattle.tbl_registry.proofs.HandleNumbers.{search_finds, search_misses}
use Rattle.tbl_registry.proofs.handles.place_of.Goals as goal

pub returns-in-Ok-clause-some : goal.returns-in-Ok-clause-some
returns-in-Ok-clause-some c =
    let facts = c.binary_search_by_key.ensures in
    let by_key = facts.position (λ handle. handle.number) (answers_always _ _ _ (λ f a r g called. search rules)) in
    search_finds c.args.handles.now c.requires c.args.number c.binary_search_by_key.result c.in-Ok.place c.in-Ok.is facts.bound by_key

pub returns-in-Err-clause-none : goal.returns-in-Err-clause-none
returns-in-Err-clause-none c =
    let facts = c.binary_search_by_key.ensures in
    let by_key = facts.position (λ handle. handle.number) (answers_always _ _ _ (λ f a r g called. search rules)) in
    λ _. search_misses c.args.handles.now c.requires c.args.number c.binary_search_by_key.result c.in-Err.field-0 c.in-Err.is facts.bound by_key
