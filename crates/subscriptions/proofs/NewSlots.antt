-- No slot was used yet.
use Rattle.std.proofs.Common.{[], arith}
use Rattle.subscriptions.specs.Inside.{AreKept}

pub kept_opened : AreKept [] [] 0
kept_opened = record {
  positive = λ k is. absurd cc;
  distinct = λ j k used same. absurd (omega (arith, used));
  unused = record { empty = λ i h. absurd (omega (arith, h)); once = λ i j h k e. absurd (omega (arith, h)) };
  numbers = λ k. omega arith;
  full = omega arith;
}
