use Rattle.std.proofs.Common.{rules}
use Rattle.table_replay.proofs.Opening.{first_replayed}
use Rattle.table_replay.proofs.replay.TableReplay.new.Goals as goal

pub returns-clause-first : goal.returns-clause-first
returns-clause-first c = first_replayed _ (search rules) (search rules) (search rules) (search rules) (search rules)
