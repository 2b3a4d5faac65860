-- Changes of the core's fields that keep what is always true of them.
use Rattle.std.proofs.Common.{◌≡◌, ℕ, Bool, true, not, eqb, [], ◌∷◌, ◌++◌, length, filter, refl, sym, ◌∙◌, subst, Vec, Global}
use Rattle.std.proofs.lemmas.List.Elements.{All-filter}
use Rattle.bus_words.specs.Bus.{Pipe, Subscription, owns, with_pipe, with_bits, after_receive}
use Rattle.bus_routes.specs.Rows.{has_way}
use Rattle.bus_messages.specs.Store.{Store, LastLoan}
use Rattle.bus_words.specs.Pipes.{IsRising}
use Rattle.bus_messages.specs.Words.{with_held}
use Rattle.bus_core.specs.declared.plain.PlainBus.TheInside.{Inside}
use Rattle.bus_core.specs.declared.activities.Activity.{Activity}
use Rattle.bus_core.specs.declared.activities.Activity.TheVariants as activities
use Rattle.bus_core.specs.Inside.{AreInOrder, AreReady}
use Rattle.bus_core.specs.Rows.{activity_at}
use Rattle.bus_core.proofs.WaitingApplications.{ready_all, ready_others, ready_pushed, ready_set_bits, ready_received, ready_without}

module _ (a : Inside) (next : Store) (keeps : AreInOrder a) where
  -- a pipe more
  pub created_keeps : (pipe : Pipe) (created : ℕ) (loan : LastLoan) →
      next ≡ record a.store { pipes = a.store.pipes ++ pipe ∷ []; pipes_created = created; loans = a.store.loans ++ loan ∷ [] } → AreInOrder (record a { store = next })
  created_keeps pipe created loan is =
      subst (λ s. AreInOrder (record a { store = s })) (sym is)
      (record {
        room = keeps.room;
        pool = keeps.pool;
        ways = keeps.ways;
        once = keeps.once;
        ready = ready_all a.store.pipes (a.store.pipes ++ pipe ∷ []) a.activities.items keeps.ready
            (λ app number ready. ready_pushed a.store.pipes app number ready pipe);
        places = keeps.places;
      })

  -- other option bits
  pub set_keeps : (pipe bits : ℕ) → next ≡ record a.store { pipes = with_pipe (with_bits bits) pipe a.store.pipes } → AreInOrder (record a { store = next })
  set_keeps pipe bits is =
      subst (λ s. AreInOrder (record a { store = s })) (sym is)
      (record {
        room = keeps.room;
        pool = keeps.pool;
        ways = keeps.ways;
        once = keeps.once;
        ready = ready_all a.store.pipes (with_pipe (with_bits bits) pipe a.store.pipes) a.activities.items keeps.ready
            (λ app number ready. ready_set_bits a.store.pipes app number ready bits pipe);
        places = keeps.places;
      })

  -- subscriptions that leave
  pub unsubscribed_keeps : (stays : Subscription → Bool) → next ≡ record a.store { subscriptions = filter stays a.store.subscriptions } → AreInOrder (record a { store = next })
  unsubscribed_keeps stays is =
      subst (λ s. AreInOrder (record a { store = s })) (sym is)
      (record {
        room = keeps.room;
        pool = keeps.pool;
        ways = All-filter stays (λ sub. has_way a.store.routes sub.id ≡ true) a.store.subscriptions keeps.ways;
        once = keeps.once;
        ready = keeps.ready;
        places = keeps.places;
      })

  -- a receive, whatever the applications do then
  pub received_keeps : (pipe : ℕ) (acts : Vec Activity Global) →
      next ≡ record a.store { pipes = with_pipe after_receive pipe a.store.pipes; account = with_held a.store.account next.pipes a.store.unsent a.store.numbers_given; loans = next.loans } →
      length acts.items ≡ length a.activities.items → AreReady (with_pipe after_receive pipe a.store.pipes) acts.items → AreInOrder (record a { store = next; activities = acts })
  received_keeps pipe acts is many ready =
      subst (λ s. AreInOrder (record a { store = s; activities = acts })) (sym is)
      (record {
        room = keeps.room;
        pool = record { bytes = keeps.pool.bytes; sizes = keeps.pool.sizes; errors = keeps.pool.errors };
        ways = keeps.ways;
        once = keeps.once;
        ready = ready;
        places = keeps.places ∙ sym many;
      })

  module _ (app pipe : ℕ) (rises : IsRising 0 a.store.pipes) (own : owns a.store.pipes app pipe ≡ true) where
    -- a receive of an active application
    pub taken_keeps : next ≡ record a.store { pipes = with_pipe after_receive pipe a.store.pipes; account = with_held a.store.account next.pipes a.store.unsent a.store.numbers_given; loans = next.loans } →
        activity_at a.activities.items app ≡ activities.Active → AreInOrder (record a { store = next })
    taken_keeps is active =
        received_keeps pipe a.activities is refl
        (ready_others a.store.pipes (with_pipe after_receive pipe a.store.pipes) a.activities.items keeps.ready app active
        (λ other number apart ready. ready_received a.store.pipes other number ready app pipe rises own apart))

    -- its pipe leaves
    pub deleted_keeps :
        next ≡ record a.store {
          pipes = filter (λ (p : Pipe). not (eqb p.number pipe)) a.store.pipes;
          subscriptions = filter (λ (sub : Subscription). not (eqb sub.pipe pipe)) a.store.subscriptions;
          account = with_held a.store.account next.pipes a.store.unsent a.store.numbers_given;
          loans = next.loans;
        } → activity_at a.activities.items app ≡ activities.Active → AreInOrder (record a { store = next })
    deleted_keeps is active =
        subst (λ s. AreInOrder (record a { store = s })) (sym is)
        (record {
          room = keeps.room;
          pool = record { bytes = keeps.pool.bytes; sizes = keeps.pool.sizes; errors = keeps.pool.errors };
          ways = All-filter (λ (sub : Subscription). not (eqb sub.pipe pipe)) (λ sub. has_way a.store.routes sub.id ≡ true) a.store.subscriptions keeps.ways;
          once = keeps.once;
          ready = ready_others a.store.pipes (filter (λ (p : Pipe). not (eqb p.number pipe)) a.store.pipes) a.activities.items keeps.ready app active
              (λ other number apart ready. ready_without a.store.pipes other number ready app pipe rises own apart);
          places = keeps.places;
        })
