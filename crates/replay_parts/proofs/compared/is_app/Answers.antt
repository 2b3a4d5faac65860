use Rattle.std.proofs.Common.{rules, decimal}
use Rattle.replay_parts.proofs.Fronts.{blank_behind}
use Rattle.replay_parts.proofs.compared.is_app.Goals as goal

pub returns-in-Some : goal.returns-in-Some
returns-in-Some c = rw c.is_some.ensures (blank_behind c.args.text.now (decimal c.args.number) c.in-Some.text.now _ (search rules) c.behind-in-Some.ensures)
