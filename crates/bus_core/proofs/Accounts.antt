-- The account of the bus's pool is what the state says of it, and so is what is in use.
use Rattle.std.proofs.Common.{◌≡◌, ℕ, List, length, ap, sym, ◌∙◌}
use Rattle.std.proofs.lemmas.List.{length-map}
use Rattle.fsw_base.specs.Limits.{limits_of}
use Rattle.fsw_base.specs.PoolAccounts.{Account}
use Rattle.housekeeping.specs.declared.in_use.InUse.{InUse}
use Rattle.bus_words.specs.Held.{held, blocks_held, account_of, bytes_in_use, in_use}
use Rattle.bus_routes.specs.Rows.{RouteRow}
use Rattle.bus_messages.specs.Store.{Store}
use Rattle.bus_messages.specs.Words.{with_held}
use Rattle.bus_core.specs.declared.plain.PlainBus.TheInside.{Inside}
use Rattle.bus_core.specs.Inside.{means, IsPoolOf}
use Rattle.bus_core.specs.Rows.{in_use_at}

-- as many blocks are out as numbers are held
abbrev pub IsHeld : Store → Type 0
IsHeld store = store.account ≡ with_held store.account store.pipes store.unsent store.numbers_given

module _ (a : Inside) (pool : IsPoolOf (limits_of a.config) a.store.account) (holds : IsHeld a.store) where
  pub account_is : a.store.account ≡ account_of (limits_of a.config) (means a).bus
  account_is =
      let now = a.store.account in
      let limits = limits_of a.config in
      let told : ℕ → List ℕ → ℕ → Account = λ bytes sizes errors. record {
        bytes = bytes;
        sizes = sizes;
        made = now.made;
        out = blocks_held sizes a.store.pipes a.store.unsent a.store.numbers_given;
        requests = now.requests;
        errors = errors;
      } in
      holds
      ∙ ap (λ n. told n now.sizes now.errors) pool.bytes
      ∙ ap (λ l. told limits.pool l now.errors) pool.sizes
      ∙ ap (told limits.pool limits.sizes) pool.errors

  pub in_use_is : in_use (limits_of a.config) (means a).bus ≡ in_use_at a.store
  in_use_is =
      let s = a.store in
      let so_much : ℕ → ℕ → InUse = λ msgids bytes. record {
        msgids = msgids;
        pipes = length s.pipes;
        subs = length s.subscriptions;
        buffers = length (held s.pipes s.unsent s.numbers_given);
        bytes = bytes;
      } in
      ap (λ n. so_much n (bytes_in_use (account_of (limits_of a.config) (means a).bus))) (length-map s.routes (λ (r : RouteRow). r.id))
      ∙ ap (λ (c : Account). so_much (length s.routes) (bytes_in_use c)) (sym account_is)
