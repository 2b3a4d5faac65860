-- A number is left: by what the core shows, and by the counts that its store keeps.
use Rattle.std.proofs.Common.{◌≡◌, ℕ, ◌+◌, ◌^◌, ◌<◌, true, ltb, IsTrue, sym, subst, arith}
use Rattle.std.proofs.lemmas.Bool.Decides.{nat_tests}
use Rattle.bus_core.specs.declared.plain.PlainBus.TheInside.{Inside}
use Rattle.bus_core.specs.Core.{Plain, has_pipe_number, has_subscription_number, has_send_number}
use Rattle.bus_core.specs.Inside.{plain_of}

small : (n : ℕ) → ltb n 4294967295 ≡ true → n + 1 < 2 ^ 32
small n lt = grind (arith, nat_tests)

small_send : (n : ℕ) → ltb n 18446744073709551615 ≡ true → n + 1 < 2 ^ 64
small_send n lt = grind (arith, nat_tests)

module _ (a : Inside) (core : Plain) (viewed : plain_of a ≡ core) where
  pub pipe_left : IsTrue (has_pipe_number core.whole.bus) → a.store.pipes_created + 1 < 2 ^ 32
  pipe_left left = small a.store.pipes_created (subst (λ (p : Plain). IsTrue (has_pipe_number p.whole.bus)) (sym viewed) left)

  pub subscription_left : IsTrue (has_subscription_number core.whole.bus) → a.store.subscriptions_made + 1 < 2 ^ 32
  subscription_left left = small a.store.subscriptions_made (subst (λ (p : Plain). IsTrue (has_subscription_number p.whole.bus)) (sym viewed) left)

  pub send_left : has_send_number core.whole.bus ≡ true → a.store.numbers_given + 1 < 2 ^ 64
  send_left left = small_send a.store.numbers_given (subst (λ (p : Plain). has_send_number p.whole.bus ≡ true) (sym viewed) left)
