use Rattle.std.proofs.Common.{◌≤◌, length, ap, sym, ◌∙◌, subst, arith}
use Rattle.journal_store.specs.Budgets.{entries_left}
use Rattle.sb_calls.specs.Notes.{NotedLog}
use Rattle.sb_calls.proofs.NoteRoom.{as_many, as_much_left}
use Rattle.sb_calls.proofs.noted.NotedJournal.set_answer.Goals as goal

pub invariant_of-self : goal.invariant_of-self
invariant_of-self c =
    let old = c.self.inside.journal in
    let new = c.set_answer.new.self in
    let some : 1 ≤ length old.entries = subst (λ (n : NotedLog). 1 ≤ length n.log.entries) (sym c.self.view_is) c.requires in
    let many = as_many old new c.args.answer some c.set_answer.ensures.budgets c.set_answer.ensures.entries in
    let left = ap entries_left (as_much_left old new c.args.answer some c.set_answer.ensures.budgets c.set_answer.ensures.entries) in
    record {
      even = c.self.invariant.even ∙ sym many;
      room = omega (arith, many, left, c.self.invariant.room);
    }
