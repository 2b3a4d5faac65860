use Rattle.bus_messages.proofs.SharedViews.{one_view}
use Rattle.bus_messages.proofs.held.receivers_share_views.Goals as goal

pub returns : goal.returns
returns c = one_view
