use Rattle.std.proofs.Common.{count_by, ap, sym, ◌∙◌, arith}
use Rattle.tbl_words.specs.Tables.{State}
use Rattle.tbl_words.specs.Machine.{without_handles}
use Rattle.table_core.proofs.Ends.{of_app, first_is, none_first, one_leaves, all_alike, one_fewer, none_of_app, still_may}
use Rattle.table_core.proofs.plain.PlainTables.unregister_all.Goals as goal

pub unwrap-requires : goal.unwrap-requires
unwrap-requires g c =
    let s = c.loop-handle.self.state in
    let first = first_is s c.args.app c.in-Some.handle (sym c.first_of.ensures ∙ c.in-Some.is) in
    (one_leaves s c.args.app c.in-Some.handle first.h first.first first.number c.loop-handle.self.limits c.unregister.result c.unregister.new.self.state c.unregister.ensures.does.made).0

pub loop-handle-smaller : goal.loop-handle-smaller
loop-handle-smaller g c =
    let s = c.loop-handle.self.state in
    let first = first_is s c.args.app c.in-Some.handle (sym c.first_of.ensures ∙ c.in-Some.is) in
    let left = (one_leaves s c.args.app c.in-Some.handle first.h first.first first.number c.loop-handle.self.limits c.unregister.result c.unregister.new.self.state c.unregister.ensures.does.made).1 in
    omega (arith, ap (λ (x : State). count_by (of_app c.args.app) x.handles) left, one_fewer s c.args.app c.in-Some.handle first.h first.first first.number)

pub loop-handle-preserved : goal.loop-handle-preserved
loop-handle-preserved g c =
    let s = c.loop-handle.self.state in
    let first = first_is s c.args.app c.in-Some.handle (sym c.first_of.ensures ∙ c.in-Some.is) in
    let left = (one_leaves s c.args.app c.in-Some.handle first.h first.first first.number c.loop-handle.self.limits c.unregister.result c.unregister.new.self.state c.unregister.ensures.does.made).1 in
    let before = c.loop-handle.invariant in
    record {
      all = ap (without_handles (of_app c.args.app)) left ∙ all_alike s c.args.app c.in-Some.handle first.h first.first first.number c.recall_handles.ensures.rise ∙ before.all;
      limits = c.unregister.ensures.does.limits ∙ before.limits;
      may = still_may c.loop-handle.self c.unregister.new.self c.args.app c.in-Some.handle left before.may;
      bag = c.unregister.ensures.bag;
      room = c.unregister.ensures.room ∙ before.room;
      others = λ other bag apart holds. c.unregister.ensures.does.bags other bag (λ changes. apart) (before.others other bag apart holds);
      cost =
          omega (
            arith,
            before.cost,
            c.unregister.ensures.cost,
            ap (λ (x : State). count_by (of_app c.args.app) x.handles) left,
            one_fewer s c.args.app c.in-Some.handle first.h first.first first.number,
          );
    }

pub returns-clause-after : goal.returns-clause-after
returns-clause-after g c =
    sym (none_of_app c.loop-handle.self.state c.args.app (none_first c.loop-handle.self.state c.args.app (sym c.first_of.ensures ∙ c.in_default.is)) c.recall_handles-2.ensures.still)
    ∙ c.loop-handle.invariant.all
