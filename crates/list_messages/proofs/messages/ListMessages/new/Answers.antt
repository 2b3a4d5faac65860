use Rattle.list_messages.proofs.NamedNumbers.{kept_none}
use Rattle.list_messages.proofs.messages.ListMessages.new.Goals as goal

pub returns-clause-kept : goal.returns-clause-kept
returns-clause-kept c = rw (c.in_ok-sends.ensures, c.in_ok-unsent.ensures, c.new-2.ensures.items) (kept_none c.args.apps)
