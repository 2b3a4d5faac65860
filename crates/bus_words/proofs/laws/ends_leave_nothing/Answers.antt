use Rattle.bus_words.specs.Machine.{state_after}
use Rattle.bus_words.proofs.HeldBlocks.{holds_nothing}
use Rattle.bus_words.proofs.Owners.{AreOwned-after, AreHanded-after, owns_none, none_left, none_handed, all_ended}
use Rattle.bus_words.proofs.Steps.{length-standings}
use Rattle.bus_words.proofs.laws.ends_leave_nothing.Goals as goal

pub returns : goal.returns
returns c = record {
  owners = λ limits apps app pipe history legal over.
      let s = state_after limits apps history in
      owns_none s app pipe s.pipes (AreOwned-after limits apps history legal) over;
  buffers = λ limits apps app history legal some over. AreHanded-after limits apps history legal app some over;
  nothing = λ limits apps history legal over.
      let s = state_after limits apps history in
      let all = all_ended s apps (length-standings limits apps history) over in
      holds_nothing limits s
      (none_left s s.pipes (AreOwned-after limits apps history legal) all)
      (none_handed s (AreHanded-after limits apps history legal) all);
}
