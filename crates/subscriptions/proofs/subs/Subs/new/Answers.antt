-- No slot was used yet.
use Rattle.std.proofs.Common.{[], length, sym, ap, subst, arith}
use Rattle.subscriptions.specs.Inside.{AreKept}
use Rattle.subscriptions.proofs.NewSlots.{kept_opened}
use Rattle.subscriptions.proofs.subs.Subs.new.Goals as goal

pub invariant_of-result : goal.invariant_of-result
invariant_of-result c = (
  subst (λ xs. AreKept xs c.in_ok-free.free.items 0) (sym c.in_ok-slots.ensures.items) (subst (λ fs. AreKept [] fs 0) (sym c.in_ok-free.ensures.items) kept_opened),
  omega (arith, ap length c.in_ok-slots.ensures.items),
  omega (arith, c.in_ok-free.ensures.exact),
  omega (arith, c.in_ok-slots.ensures.exact),
  c.ranges.room.fits,
)
