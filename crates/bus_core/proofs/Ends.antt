-- What an application's end leaves.
use Rattle.std.proofs.Common.{◌≡◌, ℕ, ◌+◌, ◌-◌, ◌≤◌, Bool, true, false, ◌&&◌, not, cond, eqb, List, [], ◌∷◌, length, map, filter, set, is_some, refl, ap, sym, ◌∙◌, subst, zero-add, Vec, Global}
use Rattle.std.proofs.lemmas.List.{map-set, length-set, nil_from_length}
use Rattle.std.proofs.lemmas.List.Elements.{All-filter}
use Rattle.std.proofs.lemmas.List.Sums.{sum_by-cons}
use Rattle.fsw_base.specs.Limits.{limits_of}
use Rattle.fsw_base.specs.PoolAccounts.{Account}
use Rattle.fsw_base.specs.Grants.{Pools, all_after_end}
use Rattle.lend_block.specs.Loan.{LentBytes}
use Rattle.buf_desc.specs.Held.{Holding}
use Rattle.bus_words.specs.declared.calls.BusAnswer.TheVariants.{Done}
use Rattle.bus_words.specs.declared.history.Call.TheVariants.{End}
use Rattle.bus_words.specs.Bus.{Pipe, Standing, Subscription, owns, without_all_unsent}
use Rattle.bus_words.specs.Machine.{ended}
use Rattle.bus_routes.specs.Rows.{has_way}
use Rattle.bus_messages.specs.Bag.{views_due}
use Rattle.bus_messages.specs.Store.{Store, LastLoan, BufferDesc}
use Rattle.bus_words.specs.Pipes.{IsRising}
use Rattle.bus_messages.specs.Words.{with_held}
use Rattle.bus_core.specs.declared.plain.PlainBus.TheInside.{Inside}
use Rattle.bus_core.specs.declared.activities.Activity.{Activity}
use Rattle.bus_core.specs.declared.activities.Activity.TheVariants as activities
use Rattle.bus_core.specs.Inside.{means, AreInOrder, AreReady}
use Rattle.bus_core.specs.Rows.{standing_in}
use Rattle.bus_core.proofs.CallLaws.{bare}
use Rattle.bus_core.proofs.Bags.{HasViews, SameBuffers}
use Rattle.bus_core.proofs.WaitingApplications.{ready_set, ready_left}
use Rattle.bus_core.proofs.Releases.{OutAlone}

-- the store without the application's pipes, their subscriptions, and its buffers
abbrev pub without : Store → ℕ → Account → List LastLoan → List BufferDesc → Store
without store app account loans descs = record store {
  pipes = filter (λ pipe. not (eqb pipe.owner app)) store.pipes;
  subscriptions = filter (λ sub. not (owns store.pipes app sub.pipe)) store.subscriptions;
  unsent = without_all_unsent store.unsent app;
  account = account;
  loans = loans;
  descs = descs;
}

module _ (a : Inside) (acts : Vec Activity Global) (next : Store) (pools : Pools) (app : ℕ)
    (ends : acts.items ≡ set a.activities.items (app - 1) activities.Ended) (is : next ≡ without a.store app next.account next.loans next.descs) (out : OutAlone a.store.account next.account) where
  left : next ≡ without a.store app (record a.store.account { out = next.account.out }) next.loans next.descs
  left = is ∙ ap (λ (c : Account). without a.store app c next.loans next.descs) out

  pub ended_keeps : AreInOrder a → IsRising 0 a.store.pipes → 1 ≤ app → app ≤ length a.activities.items → AreInOrder (record a { activities = acts; store = next; pools = pools })
  ended_keeps keeps rises first within =
      let pipes = filter (λ (pipe : Pipe). not (eqb pipe.owner app)) a.store.pipes in
      subst (λ s. AreInOrder (record a { activities = acts; store = s; pools = pools })) (sym left)
      (record {
        room = keeps.room;
        pool = record { bytes = keeps.pool.bytes; sizes = keeps.pool.sizes; errors = keeps.pool.errors };
        ways = All-filter (λ (sub : Subscription). not (owns a.store.pipes app sub.pipe)) (λ sub. has_way a.store.routes sub.id ≡ true) a.store.subscriptions keeps.ways;
        once = keeps.once;
        ready = subst (AreReady pipes) (sym ends)
            (ready_set a.store.pipes pipes a.activities.items keeps.ready app activities.Ended first within (λ number wrong. absurd (cc (wrong)))
            (λ other number apart ready. ready_left a.store.pipes other number ready app apart rises));
        places =
            length-set a.store.unsent (app - 1) [] ∙ keeps.places
            ∙ sym (ap length ends ∙ length-set a.activities.items (app - 1) activities.Ended);
      })

  pub ended_made : pools ≡ all_after_end app a.pools → bare (limits_of a.config) (means a) app End ≡ (Done, means (record a { activities = acts; store = next; pools = pools }))
  ended_made back =
      let s = (means a).bus in
      sym
      (ap (λ n. (Done, means (record a { activities = acts; store = n; pools = pools }))) left
      ∙ ap (λ (q : Pools). (Done, record (means a) { bus = record (ended s app) { standings = map standing_in acts.items; pools = q } })) back
      ∙ ap (λ (st : List Standing). (Done, record (means a) { bus = record (ended s app) { standings = st } }))
      (ap (map standing_in) ends ∙ map-set standing_in a.activities.items (app - 1) activities.Ended))

-- Its bag has no view then. --

none_due : (pipes : List Pipe) (app : ℕ) → views_due (filter (λ (pipe : Pipe). not (eqb pipe.owner app)) pipes) app ≡ 0
none_due [] app = refl
none_due (pipe ∷ pipes) app = by_owner (eqb pipe.owner app) refl (none_due pipes app)
  where
    rest : List Pipe
    rest = filter (λ (p : Pipe). not (eqb p.owner app)) pipes

    by_owner : (b : Bool) → eqb pipe.owner app ≡ b → views_due rest app ≡ 0 → views_due (cond {A = List Pipe} (not b) (pipe ∷ rest) rest) app ≡ 0
    by_owner true e ih = ih
    by_owner false e ih =
        sum_by-cons (λ (p : Pipe). cond {A = ℕ} (eqb p.owner app && is_some p.last) 1 0) pipe rest
        ∙ ap (λ b. cond {A = ℕ} (b && is_some pipe.last) 1 0 + views_due rest app) e
        ∙ zero-add (views_due rest app)
        ∙ ih

pub no_view : (store next : Store) (app : ℕ) (bag : Holding LentBytes) → next.pipes ≡ filter (λ (pipe : Pipe). not (eqb pipe.owner app)) store.pipes → HasViews next app bag → bag.views ≡ []
no_view store next app bag is has = nil_from_length bag.views (has.counted ∙ ap (λ (l : List Pipe). views_due l app) is ∙ none_due store.pipes app)

-- Its pipes leave, and then its buffers. --

module _ (store mid next : Store) (app : ℕ)
    (pipes : mid ≡ record store {
      pipes = filter (λ (pipe : Pipe). not (eqb pipe.owner app)) store.pipes;
      subscriptions = filter (λ (sub : Subscription). not (owns store.pipes app sub.pipe)) store.subscriptions;
      account = mid.account;
      loans = mid.loans;
    }) (out : OutAlone store.account mid.account)
    (buffers : next ≡ record mid { unsent = without_all_unsent mid.unsent app; account = with_held mid.account mid.pipes next.unsent mid.numbers_given; descs = next.descs }) where
  pub both_left : next ≡ without store app next.account next.loans next.descs
  both_left =
      buffers
      ∙ ap (λ (c : Account). let v : Store = record mid { unsent = without_all_unsent mid.unsent app; account = c; descs = next.descs } in v) (sym (ap (λ (s : Store). s.account) buffers))
      ∙ ap (λ (s : Store). let v : Store = record s { unsent = without_all_unsent s.unsent app; account = next.account; descs = next.descs } in v) pipes
      ∙ ap (λ l. without store app next.account l next.descs) (sym (ap (λ (s : Store). s.loans) buffers))

  pub both_out : OutAlone store.account next.account
  both_out =
      let is = ap (λ (s : Store). s.account) buffers in
      is
      ∙ ap (λ (l : List ℕ). let v : Account = record mid.account { out = l } in v) (sym (ap (λ (c : Account). c.out) is))
      ∙ ap (λ (c : Account). let v : Account = record c { out = next.account.out } in v) out

  pub both_sizes : next.account.sizes ≡ store.account.sizes
  both_sizes = ap (λ (c : Account). c.sizes) both_out

  pub both_room : next.room ≡ store.room
  both_room = ap (λ (s : Store). s.room) both_left

  -- the buffers of the others are as they were when the pipes left
  pub first_same : SameBuffers store mid
  first_same = record { unsent = ap (λ (s : Store). s.unsent) pipes; descs = ap (λ (s : Store). s.descs) pipes; sizes = ap (λ (c : Account). c.sizes) out }

  -- views are what they were when the pipes left
  pub then_views : (user : ℕ) (bag : Holding LentBytes) → HasViews mid user bag → HasViews next user bag
  then_views user bag =
      subst (λ (s : Store). HasViews mid user bag → HasViews s user bag) (sym buffers) (λ has. record { seen = has.seen; counted = has.counted; room = has.room })
