use Rattle.std.proofs.Common.{◌≡◌, List, [], ◌∷◌, ◌++◌, All, subst, sym, arith}
use Rattle.std.proofs.lemmas.List.Elements.{All-push}
use Rattle.fsw_base.specs.declared.config.Budget.{Budget}
use Rattle.host_report.specs.declared.mem_audit.Pair.{Pair}
use Rattle.host_report.proofs.mem_audit.empty_pairs.Goals as goal

abbrev empty_bus : List Budget → Pair → Type 0
empty_bus budgets pair = pair.bus ≡ record { budgets = budgets; entries = [] }

abbrev empty_table : List Budget → Pair → Type 0
empty_table budgets pair = pair.tables ≡ record { budgets = budgets; entries = [] }

pub loop-preserved : goal.loop-preserved
loop-preserved c =
    let budgets = c.args.budgets.now in
    let pair : Pair = record { bus = c.in_ok-bus.bus; tables = c.in_ok-tables.tables } in
    let more : c.push_reserved.new.self.items ≡ c.loop.pairs.items ++ pair ∷ [] = c.push_reserved.ensures.items in
    record {
      count = omega (arith, c.push_reserved.ensures.len);
      room = omega (arith, c.push_reserved.ensures.capacity);
      empty = subst (All (empty_bus budgets)) (sym more) (All-push (empty_bus budgets) c.loop.pairs.items pair c.loop.invariant.empty c.in_ok-bus.ensures);
      empty_tables = subst (All (empty_table budgets)) (sym more) (All-push (empty_table budgets) c.loop.pairs.items pair c.loop.invariant.empty_tables c.in_ok-tables.ensures);
    }
