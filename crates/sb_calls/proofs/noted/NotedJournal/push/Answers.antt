use Rattle.std.proofs.Common.{◌+◌, length, ap, sym, ◌∙◌, subst, arith}
use Rattle.std.specs.Vec.{vec_capacity}
use Rattle.std.proofs.lemmas.List.{length_push}
use Rattle.journal_store.specs.Budgets.{HasRoom, entries_left}
use Rattle.bus_words.specs.Entries.{call_bytes, entry_of}
use Rattle.bus_words.specs.Log.{Log, left_of}
use Rattle.sb_calls.specs.Notes.{NotedLog}
use Rattle.sb_calls.proofs.NoteRoom.{place_left, room_left}
use Rattle.sb_calls.proofs.noted.NotedJournal.push.Goals as goal

pub push_reserved-requires : goal.push_reserved-requires
push_reserved-requires c =
    let e = entry_of c.args.entry.now in
    let left = subst (λ (l : Log). HasRoom (left_of l) e.app (call_bytes e.call)) (sym (ap (λ (n : NotedLog). n.log) c.self.view_is)) c.requires in
    let place = place_left c.self.inside.journal e (vec_capacity c.self.inside.notes) left c.self.invariant.room (length c.self.inside.notes.items) c.self.invariant.even in
    omega (arith, place, c.self.inside.notes.ok)

pub invariant_of-self : goal.invariant_of-self
invariant_of-self c =
    let e = entry_of c.args.entry.now in
    let left = subst (λ (l : Log). HasRoom (left_of l) e.app (call_bytes e.call)) (sym (ap (λ (n : NotedLog). n.log) c.self.view_is)) c.requires in
    let room = room_left c.self.inside.journal e (vec_capacity c.self.inside.notes) left c.self.invariant.room in
    let entered = ap (λ (l : Log). length l.entries + entries_left (left_of l)) c.push.ensures in
    let notes = ap (λ xs. length xs) c.push_reserved.ensures.items ∙ length_push c.self.inside.notes.items c.args.note in
    let entries = ap (λ (l : Log). length l.entries) c.push.ensures ∙ length_push c.self.inside.journal.entries e in
    record {
      even = omega (arith, notes, entries, c.self.invariant.even);
      room = omega (arith, room, entered, c.push_reserved.ensures.capacity);
    }
