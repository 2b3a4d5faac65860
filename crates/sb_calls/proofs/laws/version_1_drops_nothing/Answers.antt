use Rattle.bus_words.specs.Bus.{any_send, route}
use Rattle.bus_words.specs.Machine.{state_after}
use Rattle.bus_words.proofs.VersionBits.{none_in_version_1}
use Rattle.sb_calls.proofs.laws.version_1_drops_nothing.Goals as goal

pub returns : goal.returns
returns c = λ limits apps history app id first.
    none_in_version_1 limits apps history (any_send app) (route (state_after limits apps history).subscriptions id) first
