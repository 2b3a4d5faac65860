use Rattle.std.proofs.Common.{sym, subst}
use Rattle.thread_run.specs.Whole.{whole}
use Rattle.thread_run.specs.Kept.{IsBegun}
use Rattle.thread_run.specs.Works.{Numbered}
use Rattle.thread_run.proofs.Numbers.{numbered-push}
use Rattle.thread_run.proofs.lists.note_begun.Goals as goal

pub returns-clause-begun : goal.returns-clause-begun
returns-clause-begun c =
    let P = IsBegun (whole c.args._shared) c.args._shared.bus.now c.args._shared.tables.now in
    subst (λ l. Numbered P 1 l) (sym c.push_reserved.ensures.items)
    (numbered-push P 1 c.args.begun.now.items c.args.one c.requires.begun (subst (λ n. P n c.args.one) c.requires.number c.requires.one))
