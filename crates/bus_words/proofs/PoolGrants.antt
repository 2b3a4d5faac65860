-- The memory pools after every history: as the limits say, counted, and with no more grants given than there are entries.
use Rattle.std.proofs.Common.{ℕ, ◌+◌, ◌≤◌, List, [], ◌∷◌, ◌++◌, length, append-nil, append_assoc, refl, sym, ◌∙◌, subst, arith}
use Rattle.std.proofs.lemmas.List.{length_push}
use Rattle.std.proofs.lemmas.List.Elements.{All-nil}
use Rattle.fsw_base.specs.Limits.{Limits}
use Rattle.fsw_base.specs.Grants.{PoolGrants, Pools, IsNumbered, all_after_end}
use Rattle.fsw_base.proofs.GrantCalls.{Follow, follows_same, follows_end}
use Rattle.bus_words.specs.declared.history.Call.{Call}
use Rattle.bus_words.specs.declared.history.Entry.{Entry}
use Rattle.bus_words.specs.Bus.{State, ArePools, opening}
use Rattle.bus_words.specs.Machine.{step, state_from, state_after}
use Rattle.bus_words.proofs.Steps.{after_step}

-- pools that follow those of so many entries are those of one more
one_more : (limits : Limits) (entries : ℕ) (s next : Pools) → ArePools limits entries s → Follow s next → ArePools limits (entries + 1) next
one_more limits entries s next are follows = record {
  most = follows.most ∙ are.most;
  sizes = follows.sizes ∙ are.sizes;
  few = follows.few are.few;
  numbered = follows.numbered are.numbered;
  given = follows.given entries are.given;
}

-- and so are those that a step leaves
pub ArePools-step : (limits : Limits) (history : List Entry) (s : State) (app : ℕ) (call : Call) (entries : ℕ) →
    ArePools limits entries s.pools → ArePools limits (entries + 1) ((step limits history s app call).1).pools
ArePools-step limits history s app call entries are =
    let same = one_more limits entries s.pools s.pools are (follows_same s.pools) in
    after_step (λ t. ArePools limits (entries + 1) t.pools) limits history s app call (record {
      same = same;
      creates = λ depth name none. same;
      subscribes = λ id pipe limit scope none other. same;
      sends = λ sending id who number room. same;
      receives = λ pipe. same;
      deletes = λ pipe none. same;
      sets = λ pipe bits none. same;
      unsubscribes = λ id pipe none. same;
      stands = λ pipe standing going. same;
      ends = one_more limits entries s.pools (all_after_end app s.pools) are (follows_end s.pools app);
      pools = λ next follows. one_more limits entries s.pools next are follows;
      allocates = λ size none. same;
      leaves = λ buf has. same;
      records = λ t desk statistics is. is;
      passes = λ sending id who has asked. same;
    })

pools_from : (limits : Limits) (history : List Entry) (s : State) (es : List Entry) → ArePools limits (length history) s.pools →
    ArePools limits (length (history ++ es)) (state_from limits history s es).pools
pools_from limits history s [] are = subst (λ (h : List Entry). ArePools limits (length h) s.pools) (sym (append-nil history)) are
pools_from limits history s (e ∷ es) are =
    let next = (step limits history s e.app e.call).1 in
    let now = subst (λ n. ArePools limits n next.pools) (sym (length_push history e)) (ArePools-step limits history s e.app e.call (length history) are) in
    subst (λ (h : List Entry). ArePools limits (length h) (state_from limits (history ++ e ∷ []) next es).pools) (append_assoc history (e ∷ []) es)
    (pools_from limits (history ++ e ∷ []) next es now)

-- if the bus opens there is no pool
pub ArePools-opening : (limits : Limits) (apps : ℕ) → ArePools limits 0 (opening limits apps).pools
ArePools-opening limits apps = record {
  most = refl;
  sizes = refl;
  few = omega arith;
  numbered = All-nil IsNumbered;
  given = All-nil (λ (pool : PoolGrants). pool.given ≤ 0);
}

-- after every history
pub ArePools-after : (limits : Limits) (apps : ℕ) (history : List Entry) → ArePools limits (length history) (state_after limits apps history).pools
ArePools-after limits apps history =
    pools_from limits [] (opening limits apps) history (ArePools-opening limits apps)
