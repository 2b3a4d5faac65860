use Rattle.std.proofs.Common.{◌+◌, length, IfSome, subst, sym}
use Rattle.std.proofs.lemmas.Option.{IfSome_then}
use Rattle.thread_run.specs.Whole.{whole}
use Rattle.thread_run.specs.Works.{MayWork, Numbered}
use Rattle.thread_run.proofs.Numbers.{numbered-taken}
use Rattle.thread_run.proofs.lists.take_last.Goals as goal

taken : (c : goal.After-pop) → IfSome c.pop.result (λ x. Numbered (MayWork (whole c.args._shared) c.args._shared.bus.now c.args._shared.tables.now) 1 c.pop.new.self.items
    × MayWork (whole c.args._shared) c.args._shared.bus.now c.args._shared.tables.now (1 + length c.pop.new.self.items) x)
taken c =
    numbered-taken (MayWork (whole c.args._shared) c.args._shared.bus.now c.args._shared.tables.now) 1 c.args.works.now.items c.pop.new.self.items c.pop.result c.pop.ensures.items c.requires.works

pub returns-clause-number : goal.returns-clause-number
returns-clause-number c = IfSome_then c.pop.result (taken c) (λ x is. is.1.between.app_is)

pub returns-clause-may : goal.returns-clause-may
returns-clause-may c =
    let May = MayWork (whole c.args._shared) c.args._shared.bus.now c.args._shared.tables.now in
    IfSome_then c.pop.result (taken c) (λ x is. subst (λ n. May n x) (sym is.1.between.app_is) is.1)

pub returns-clause-others : goal.returns-clause-others
returns-clause-others c = IfSome_then c.pop.result (taken c) (λ x is. is.0)
