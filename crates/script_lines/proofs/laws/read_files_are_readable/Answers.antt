use Rattle.script_lines.proofs.FileReadings.{readable_share, readable_stage}
use Rattle.script_lines.proofs.laws.read_files_are_readable.Goals as goal

pub returns-clause-share : goal.returns-clause-share
returns-clause-share c = readable_share

pub returns-clause-stage : goal.returns-clause-stage
returns-clause-stage c = readable_stage
