use Rattle.std.proofs.Common.{◌≡◌, ◌-◌, ◌≤◌, length, vec_capacity, ap, sym, ◌∙◌, subst, arith}
use Rattle.std.proofs.lemmas.List.{length-map}
use Rattle.journal_store.specs.Store.{Store}
use Rattle.journal_store.specs.Inside.{stored_of}
use Rattle.journal_store.proofs.Replaces.{IsKept-renewed, stored_in-renewed}
use Rattle.journal_store.proofs.store.JournalStore.replace_last.Goals as goal

pub invariant_of-self : goal.invariant_of-self
invariant_of-self g c =
    let a = c.self.inside in
    let some : 1 ≤ length a.rows.items =
    subst (λ n. 1 ≤ n) (ap (λ (s : Store g.row.R.Denot). length s.rows) (sym c.self.view_is) ∙ length-map a.rows.items (stored_of a.bytes.items)) c.requires in
    let many : c.len-last.result ≡ length a.rows.items = omega (arith, a.rows.ok) in
    IsKept-renewed a.rows.items a.bytes.items (c.len-last.result - 1) c.index_mut.result.now c.args.row (vec_capacity a.rows) (vec_capacity a.bytes) a.budgets.items a.left.items
    c.self.invariant (omega (arith, some, many)) c.index_mut.ensures.value

pub returns-clause-rows : goal.returns-clause-rows
returns-clause-rows g c front last is =
    let a = c.self.inside in
    let some : 1 ≤ length a.rows.items =
    subst (λ n. 1 ≤ n) (ap (λ (s : Store g.row.R.Denot). length s.rows) (sym c.self.view_is) ∙ length-map a.rows.items (stored_of a.bytes.items)) c.requires in
    let many : c.len-last.result ≡ length a.rows.items = omega (arith, a.rows.ok) in
    stored_in-renewed a.rows.items a.bytes.items (c.len-last.result - 1) c.index_mut.result.now c.args.row front last
    (omega (arith, some, many)) c.index_mut.ensures.value (ap (λ (s : Store g.row.R.Denot). s.rows) c.self.view_is ∙ is)
