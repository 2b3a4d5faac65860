use Rattle.std.proofs.Common.{◌+◌, List, [], ◌∷◌, ◌++◌, length, ap, sym, subst, arith}
use Rattle.std.specs.Vec.{vec_capacity}
use Rattle.lend_block.specs.declared.note.Note.{Note}
use Rattle.journal_store.specs.Budgets.{HasRoom, entries_left}
use Rattle.tbl_words.specs.declared.history.Entry.{Entry}
use Rattle.tbl_words.specs.Entries.{call_bytes, entry_of}
use Rattle.tbl_words.specs.Log.{Log, left_of}
use Rattle.tbl_load.specs.Notes.{NotedLog, AreDue}
use Rattle.tbl_load.proofs.Notes.{due-push, even-due}
use Rattle.tbl_load.proofs.NoteRoom.{place_left, room_left}
use Rattle.tbl_load.proofs.noted.NotedJournal.push.Goals as goal

pub push_reserved-requires : goal.push_reserved-requires
push_reserved-requires c =
    let e = entry_of c.args.entry.now in
    let left = subst (λ (l : Log). HasRoom (left_of l) e.app (call_bytes e.call)) (sym (ap (λ (n : NotedLog). n.log) c.self.view_is)) c.requires.room in
    let place = place_left c.self.inside.journal e (vec_capacity c.self.inside.notes) left c.self.invariant.room (length c.self.inside.notes.items) (even-due c.self.inside.journal.entries c.self.inside.notes.items c.self.invariant.due) in
    omega (arith, place, c.self.inside.notes.ok)

pub invariant_of-self : goal.invariant_of-self
invariant_of-self c =
    let e = entry_of c.args.entry.now in
    let left = subst (λ (l : Log). HasRoom (left_of l) e.app (call_bytes e.call)) (sym (ap (λ (n : NotedLog). n.log) c.self.view_is)) c.requires.room in
    let room = room_left c.self.inside.journal e (vec_capacity c.self.inside.notes) left c.self.invariant.room in
    let entered = ap (λ (l : Log). length l.entries + entries_left (left_of l)) c.push.ensures in
    let P : List Entry → List Note → Type 0 = λ es notes. AreDue es notes in
    record {
      due = subst (λ (l : Log). P l.entries c.push_reserved.new.self.items) (sym c.push.ensures)
          (subst (λ notes. P (c.self.inside.journal.entries ++ e ∷ []) notes) (sym c.push_reserved.ensures.items)
          (due-push c.self.inside.journal.entries e c.self.inside.notes.items c.args.note c.self.invariant.due c.requires.due));
      room = omega (arith, room, entered, c.push_reserved.ensures.capacity);
    }

pub returns-clause-due : goal.returns-clause-due
returns-clause-due c = (invariant_of-self c).due
