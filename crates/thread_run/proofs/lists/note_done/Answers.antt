use Rattle.std.proofs.Common.{sym, subst}
use Rattle.thread_run.specs.Whole.{whole}
use Rattle.thread_run.specs.Works.{IsDone, Numbered}
use Rattle.thread_run.proofs.Numbers.{numbered-push}
use Rattle.thread_run.proofs.lists.note_done.Goals as goal

pub returns-clause-dones : goal.returns-clause-dones
returns-clause-dones c =
    let P = IsDone (whole c.args._shared) c.args._shared.bus.now c.args._shared.tables.now in
    subst (λ l. Numbered P 1 l) (sym c.push_reserved.ensures.items) (numbered-push P 1 c.args.dones.now.items c.args.done c.requires.dones c.requires.one)
