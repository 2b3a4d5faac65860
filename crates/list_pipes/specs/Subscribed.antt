-- Subscriptions by themselves, as the bus keeps them.
use Rattle.std.specs.Prelude.{ℕ, ◌+◌, List, [], ◌∷◌, ◌++◌, if◌then◌else◌}
use Rattle.fsw_base.specs.declared.config.Scope.{Scope}
use Rattle.bus_words.specs.Bus.{Subscription, is_subscribed, has_route}

-- The live subscriptions, how many were made, and the ids that have a route.
pub record Subscribed : Type 0 where
  pub subscriptions : List Subscription
  pub made : ℕ
  pub routed : List ℕ

-- no subscription was made
abbrev pub no_subscriptions : Subscribed
no_subscriptions = record { subscriptions = []; made = 0; routed = [] }

-- the subscriptions once a pair was subscribed; a live pair changes nothing
abbrev pub subscribed : Subscribed → ℕ → ℕ → ℕ → Scope → Subscribed
subscribed s id pipe limit scope =
    if is_subscribed s.subscriptions id pipe then s
    else (record {
      subscriptions =
          s.subscriptions ++
          record { number = s.made + 1; id = id; pipe = pipe; limit = limit; scope = scope } ∷ [];
      made = s.made + 1;
      routed = (if has_route s.routed id then s.routed else s.routed ++ id ∷ []);
    })
