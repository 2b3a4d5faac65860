use Rattle.std.proofs.Common.{◌<◌, Some, length, refl, ap, sym, ◌∙◌, arith}
use Rattle.std.specs.List.{slice_get}
use Rattle.std.proofs.lemmas.Option.{slice_get_read}
use Rattle.tbl_load.specs.Notes.{NotedLog}
use Rattle.tbl_load.proofs.Notes.{due_at, even-due}
use Rattle.tbl_load.proofs.noted.NotedJournal.note.Goals as goal

pub index-requires : goal.index-requires
index-requires c =
    let a = c.self.inside in
    omega (arith, even-due a.journal.entries a.notes.items c.self.invariant.due, ap (λ (n : NotedLog). length n.log.entries) c.self.view_is, c.requires)

pub returns-clause-note : goal.returns-clause-note
returns-clause-note c =
    let a = c.self.inside in
    let within : c.args.i < length a.notes.items = omega (arith, even-due a.journal.entries a.notes.items c.self.invariant.due, ap (λ (n : NotedLog). length n.log.entries) c.self.view_is, c.requires) in
    ap Some c.again.ensures.same
    ∙ sym (slice_get_read a.notes.items (length a.notes.items) c.args.i c.index.result.now refl within c.index.ensures)
    ∙ ap (λ (n : NotedLog). slice_get n.notes c.args.i) c.self.view_is

pub returns-clause-due : goal.returns-clause-due
returns-clause-due c = λ e is.
    let a = c.self.inside in
    due_at a.journal.entries a.notes.items c.args.i e c.again.result c.self.invariant.due
    (ap (λ (n : NotedLog). slice_get n.log.entries c.args.i) c.self.view_is ∙ sym is)
    (ap (λ (n : NotedLog). slice_get n.notes c.args.i) c.self.view_is ∙ sym (returns-clause-note c))
