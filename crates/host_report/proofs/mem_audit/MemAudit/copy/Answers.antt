use Rattle.std.proofs.Common.{◌≡◌, ◌-◌, ◌≤◌, true, List, [], ◌∷◌, ◌++◌, map, Some, sym, ap, ◌∙◌, arith, vec_len}
use Rattle.std.proofs.lemmas.List.{map_push}
use Rattle.std.proofs.lemmas.List.Elements.{All-pop}
use Rattle.script_runs.specs.Histories.{Histories}
use Rattle.fsw_base.specs.declared.config.Budget.{Budget}
use Rattle.host_report.specs.declared.mem_audit.Pair.{Pair}
use Rattle.host_report.specs.Copies.{Copies, are_within, with_copy}
use Rattle.host_report.proofs.CopyLaws.{one_more}
use Rattle.host_report.proofs.mem_audit.MemAudit.copy.Goals as goal

abbrev both : Pair → Histories
both pair = record { bus = pair.bus.entries; tables = pair.tables.entries }

abbrev empty_bus : List Budget → Pair → Type 0
empty_bus budgets pair = pair.bus ≡ record { budgets = budgets; entries = [] }

abbrev empty_table : List Budget → Pair → Type 0
empty_table budgets pair = pair.tables ≡ record { budgets = budgets; entries = [] }

pub invariant_of-self : goal.invariant_of-self
invariant_of-self c =
    let a = c.self.inside in
    let popped = Some c.in-Some.pair in
    record {
      tells = λ some. c.self.invariant.tells (omega (arith, c.in-Some.ensures.len));
      empty = (All-pop (empty_bus a.budgets.items) a.spare.items c.pop.new.self.items popped c.in-Some.ensures.items c.self.invariant.empty).0;
      empty_tables = (All-pop (empty_table a.budgets.items) a.spare.items c.pop.new.self.items popped c.in-Some.ensures.items c.self.invariant.empty_tables).0;
      fits = omega (arith, c.in-Some.ensures.len, c.push_reserved.ensures.len, c.push_reserved.ensures.capacity, c.self.invariant.fits);
      few = omega (arith, c.in-Some.ensures.len, c.push_reserved.ensures.len, c.self.invariant.few);
    }

pub returns-then-copy_pair-clause-copies : goal.returns-then-copy_pair-clause-copies
returns-then-copy_pair-clause-copies c =
    let a = c.self.inside in
    let histories : Histories = record { bus = c.args.bus.now.entries; tables = c.args.tables.now.entries } in
    let before : Copies = record { told = a.told; copies = map both a.copies.items; room = vec_len a.spare; budgets = a.budgets.items } in
    let popped = (All-pop (empty_bus a.budgets.items) a.spare.items c.pop.new.self.items (Some c.in-Some.pair) c.in-Some.ensures.items c.self.invariant.empty).1 in
    let within : are_within a.budgets.items histories ≡ true =
    ap (λ journal. are_within journal.budgets histories) (sym popped) ∙ sym c.copy_pair.ensures.fits ∙ c.if-copy_pair.true in
    let copied : both c.copy_pair.new.target ≡ histories =
    λ i. record { bus = c.copy_pair.ensures.copied c.if-copy_pair.true i; tables = c.copy_pair.ensures.tables_copied c.if-copy_pair.true i } in
    let copies : map both c.push_reserved.new.self.items ≡ before.copies ++ histories ∷ [] =
    ap (map both) c.push_reserved.ensures.items
    ∙ map_push both a.copies.items c.copy_pair.new.target
    ∙ ap (λ h. before.copies ++ h ∷ []) copied in
    let some : 1 ≤ vec_len a.spare = omega (arith, c.in-Some.ensures.len) in
    let room : vec_len c.pop.new.self ≡ vec_len a.spare - 1 = omega (arith, c.in-Some.ensures.len) in
    let now : record { told = a.told; copies = map both c.push_reserved.new.self.items; room = vec_len c.pop.new.self; budgets = a.budgets.items }
    ≡ (let b : Copies = record before { copies = before.copies ++ histories ∷ []; room = before.room - 1 } in b) =
    λ i. record { told = a.told; copies = copies i; room = room i; budgets = a.budgets.items } in
    now ∙ sym (one_more before histories some within) ∙ ap (λ v. with_copy v histories) c.self.view_is
