-- What the fields of the rows stand for.
use Rattle.std.specs.Prelude.{◌<◌, ◌≤◌, ◌^◌, length}
use Rattle.list_pipes.specs.Subscribed.{Subscribed}
use Rattle.list_pipes.specs.declared.subscriptions.ListSubscriptions.TheInside as subs

-- what the subscriptions are
abbrev pub subscribed_in : subs.Inside → Subscribed
subscribed_in s =
    record { subscriptions = s.subscriptions.items; made = s.made; routed = s.routed.items }

-- there are no more than were made, and their numbers have 32 bits
pub record AreFew (s : subs.Inside) : Type 0 where
  pub live : length s.subscriptions.items ≤ s.made
  pub routed : length s.routed.items ≤ s.made
  pub top : s.made < 2 ^ 32
