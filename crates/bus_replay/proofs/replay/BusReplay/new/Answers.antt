use Rattle.std.proofs.Common.{rules}
use Rattle.bus_replay.proofs.Opening.{first_replayed}
use Rattle.bus_replay.proofs.replay.BusReplay.new.Goals as goal

pub returns-clause-first : goal.returns-clause-first
returns-clause-first c = first_replayed _ (search rules) (search rules) (search rules) (search rules) (search rules)
