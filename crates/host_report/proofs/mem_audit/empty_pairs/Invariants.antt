use Rattle.std.proofs.Common.{◌≡◌, ◌≤◌, [], All, vec_len, vec_capacity}
use Rattle.host_report.proofs.mem_audit.empty_pairs.Given as goal

abbrev pub invariant-loop : goal.invariant-loop
invariant-loop l = record {
  count : vec_len l.pairs ≡ l.counter;
  room : l.count ≤ vec_capacity l.pairs;
  empty : All (λ pair. pair.bus ≡ record { budgets = l.budgets; entries = [] }) l.pairs.items;
  empty_tables : All (λ pair. pair.tables ≡ record { budgets = l.budgets; entries = [] }) l.pairs.items;
}
