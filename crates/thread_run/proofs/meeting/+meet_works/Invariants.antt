use Rattle.std.proofs.Common.{length}
use Rattle.thread_run.proofs.meeting.+meet_works.Given as goal

abbrev pub decreases-meet_works : goal.decreases-meet_works
decreases-meet_works g l = length l.works.now.items
