use Rattle.std.proofs.Common.{ℕ, sym, ◌∙◌, subst, arith}
use Rattle.tbl_words.specs.declared.calls.TblAnswer.TheVariants.{Number}
use Rattle.tbl_words.specs.declared.history.Call.TheVariants.{Share}
use Rattle.table_core.specs.Core.{Acts}
use Rattle.table_core.specs.Inside.{plain_of}
use Rattle.table_core.proofs.Shares.{share_unnamed, share_full, share_there, share_keeps, share_acts, number_left}
use Rattle.table_core.proofs.plain.PlainTables.share.Goals as goal

pub returns-in_default : goal.returns-in_default
returns-in_default c =
    share_unnamed c.self.inside c.args.self.now c.self.view_is c.recall_ties.ensures c.args.app c.args.name.now (sym c.by_name.ensures ∙ c.in_default.is)

pub returns-then-handles-self : goal.returns-then-handles-self
returns-then-handles-self c =
    share_full c.self.inside c.args.self.now c.self.view_is c.recall_ties.ensures c.args.app c.args.name.now c.in-Some.key (sym c.by_name.ensures ∙ c.in-Some.is)
    (omega (arith, c.handles.ensures, c.if-handles-self.true))

pub add_handle-requires-clause-there : goal.add_handle-requires-clause-there
add_handle-requires-clause-there c = share_there c.self.inside c.recall_ties.ensures c.args.name.now c.in-Some.key (sym c.by_name.ensures ∙ c.in-Some.is)

pub add_handle-requires-clause-number : goal.add_handle-requires-clause-number
add_handle-requires-clause-number c = number_left c.self.inside c.args.self.now c.self.view_is c.requires.number

pub invariant_of-self : goal.invariant_of-self
invariant_of-self c =
    share_keeps c.self.inside c.args.self.now c.self.view_is c.recall_ties.ensures c.args.app c.args.name.now c.in-Some.key (sym c.by_name.ensures ∙ c.in-Some.is)
    c.add_handle.new.self c.add_handle.ensures.after c.self.invariant

pub returns : goal.returns
returns c =
    let P : ℕ → Type 0 = λ number. Acts c.args.self.now (plain_of (record c.self.inside { registry = c.add_handle.new.self })) c.args.app (Share c.args.name.now) (Number number) in
    subst P (sym c.add_handle.ensures.number)
    (share_acts c.self.inside c.args.self.now c.self.view_is c.recall_ties.ensures c.args.app c.args.name.now c.in-Some.key (sym c.by_name.ensures ∙ c.in-Some.is)
    c.add_handle.new.self c.add_handle.ensures.after c.self.invariant (omega (arith, c.handles.ensures, c.if-handles-self.false)))
