use Rattle.std.proofs.Common.{sym, subst}
use Rattle.thread_run.specs.Whole.{whole}
use Rattle.thread_run.specs.Works.{MayWork, Numbered}
use Rattle.thread_run.proofs.Numbers.{numbered-push}
use Rattle.thread_run.proofs.opening.note_work.Goals as goal

pub returns-clause-works : goal.returns-clause-works
returns-clause-works c =
    let P = MayWork (whole c.args._shared) c.args._shared.bus.now c.args._shared.tables.now in
    subst (λ l. Numbered P 1 l) (sym c.push_reserved.ensures.items) (numbered-push P 1 c.args.works.now.items c.args.work c.requires.works c.requires.work)
