use Rattle.std.proofs.Common.{◌+◌, length, IfSome}
use Rattle.std.proofs.lemmas.Option.{IfSome_then}
use Rattle.thread_run.specs.Whole.{whole}
use Rattle.thread_run.specs.Kept.{IsBegun}
use Rattle.thread_run.specs.Works.{Numbered}
use Rattle.thread_run.proofs.Numbers.{numbered-taken}
use Rattle.thread_run.proofs.lists.take_last_begun.Goals as goal

taken : (c : goal.After-pop) → IfSome c.pop.result (λ x. Numbered (IsBegun (whole c.args._shared) c.args._shared.bus.now c.args._shared.tables.now) 1 c.pop.new.self.items
    × IsBegun (whole c.args._shared) c.args._shared.bus.now c.args._shared.tables.now (1 + length c.pop.new.self.items) x)
taken c =
    numbered-taken (IsBegun (whole c.args._shared) c.args._shared.bus.now c.args._shared.tables.now) 1 c.args.begun.now.items c.pop.new.self.items c.pop.result c.pop.ensures.items c.requires.begun

pub returns-clause-is : goal.returns-clause-is
returns-clause-is c = IfSome_then c.pop.result (taken c) (λ x is. is.1)

pub returns-clause-others : goal.returns-clause-others
returns-clause-others c = IfSome_then c.pop.result (taken c) (λ x is. is.0)
