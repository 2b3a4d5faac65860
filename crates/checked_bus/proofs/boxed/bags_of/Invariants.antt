use Rattle.std.proofs.Common.{◌≡◌, [], vec_len, vec_capacity, replicate}
use Rattle.checked_bus.proofs.boxed.bags_of.Given as goal

-- the bags so far, and the room for those to come
abbrev pub invariant-loop-app : goal.invariant-loop-app
invariant-loop-app l =
    (l.bags.items ≡ replicate l._app (record { views = []; buffers = []; view_room = l.views; buffer_room = l.buffers }))
    × (vec_len l.bags ≡ l._app)
    × (vec_capacity l.bags ≡ l.apps)
