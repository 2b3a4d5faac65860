-- The unsent buffers after every history: each application has its list, no two buffers have one number, and each has a number that
-- was given and that no pipe names, and a size that a message may have.
use Rattle.std.proofs.Common.{◌≡◌, ℕ, zero, suc, ◌+◌, ◌-◌, ◌<◌, ◌≤◌, ◌⊎◌, inl, inr, ◌==◌, ◌||◌, not, Bool, true, false, cond, true≢false, eqb-true, ne_eqb, List, [], ◌∷◌, ◌++◌, length, filter, refl, ap, sym, ◌∙◌, subst, arith}
use Rattle.std.specs.Prelude.{count_by, All}
use Rattle.std.specs.List.{list_any}
use Rattle.std.proofs.lemmas.Bool.{cases_lt}
use Rattle.std.proofs.lemmas.List.{length-replicate, length-set}
use Rattle.std.proofs.lemmas.List.Elements.{All-nil, All-cons}
use Rattle.fsw_base.specs.Limits.{Limits}
use Rattle.bus_words.specs.declared.history.Call.{Call}
use Rattle.bus_words.specs.declared.history.Entry.{Entry}
use Rattle.bus_words.specs.Bus.{Item, Pipe, Buffer, Subscription, State, Sending, opening, route, with_pipe, with_bits, deliver, after_receive, unsent_of, has_unsent, with_unsent, without_unsent, without_all_unsent}
use Rattle.bus_words.specs.Held.{is_on_pipes, is_unsent, buffers_in, IsUnsentBuffer, AreUnsent}
use Rattle.bus_words.specs.Machine.{allocated, buffer_gone, step, state_after}
use Rattle.bus_words.proofs.Balance.{none_at_first}
use Rattle.bus_words.proofs.Buffers.{of_buffer, OtherBuffer, unsent_in, not_unsent, none_unsent, has_buffer, Each-unsent_of, Each-with_unsent, Each-without_unsent, Each-without_all, count-with_unsent, count-without_unsent, count-without_all, count_gone}
use Rattle.bus_words.proofs.Draws.{may_allocate}
use Rattle.bus_words.proofs.Finds.{Each, Each-push, Each-filter, Each-drop, same-self}
use Rattle.bus_words.proofs.Items.{OfPipe, OfPipe-drop, OfPipe-receive, OfPipe-offer, or_true, Other, none_counted, all_none, none_on_pipes, was_on_pipes}
use Rattle.bus_words.proofs.Owners.{Each-with_pipe, Each-deliver}
use Rattle.bus_words.proofs.Steps.{with_sent, after_step, state_from-keeps}

-- an item of a number that was given
abbrev IsNumbered : ℕ → Item → Type 0
IsNumbered given item = (1 ≤ item.number) × (item.number ≤ given)

-- a buffer of such a number, and of a size that a message may have
record IsSized (limits : Limits) (numbers : ℕ) (buffer : Buffer) : Type 0 where
  pub some : 1 ≤ buffer.number
  pub given : buffer.number ≤ numbers
  pub least : 7 ≤ buffer.size
  pub most : buffer.size ≤ limits.msgmax

IsSized-more : (limits : Limits) (given more : ℕ) → given ≤ more → (buffer : Buffer) → IsSized limits given buffer → IsSized limits more buffer
IsSized-more limits given more above buffer is = record { some = is.some; given = omega (arith, above, is.given); least = is.least; most = is.most }

-- what each step keeps of the pipes, the unsent buffers and the count of the numbers given
record AreApart (limits : Limits) (apps numbers : ℕ) (pipes : List Pipe) (unsent : List (List Buffer)) : Type 0 where
  pub lists : length unsent ≡ apps
  pub items : Each (OfPipe (IsNumbered numbers)) pipes
  pub buffers : Each (IsSized limits numbers) (buffers_in unsent)
  pub once : (n : ℕ) → count_by (of_buffer n) (buffers_in unsent) ≤ 1
  pub apart : (n : ℕ) → is_on_pipes pipes n ≡ true → is_unsent unsent n ≡ false

abbrev Apart : Limits → ℕ → State → Type 0
Apart limits apps s = AreApart limits apps s.numbers_given s.pipes s.unsent

-- no buffer has a number that wasn't given yet
new_buffer : (limits : Limits) (given n : ℕ) (unsent : List (List Buffer)) → given + 1 ≤ n → Each (IsSized limits given) (buffers_in unsent) →
    Each (OtherBuffer n) (buffers_in unsent)
new_buffer limits given n unsent above each =
    Each-drop (IsSized limits given) (OtherBuffer n) (buffers_in unsent) (λ buffer is. ne_eqb buffer.number n (λ same. omega (arith, same, above, is.given))) each

-- and no item
new_item : (given n : ℕ) (pipes : List Pipe) → given + 1 ≤ n → Each (OfPipe (IsNumbered given)) pipes → Each (OfPipe (Other n)) pipes
new_item given n pipes above each =
    Each-drop (OfPipe (IsNumbered given)) (OfPipe (Other n)) pipes
    (OfPipe-drop (IsNumbered given) (Other n) (λ item is. ne_eqb item.number n (λ same. omega (arith, same, above, is.1)))) each

module _ (limits : Limits) (apps : ℕ) (s : State) (are : Apart limits apps s) where
  -- a change of the pipes that brings no new item
  with_pipes : (next : List Pipe) → ((P : Item → Type 0) → Each (OfPipe P) s.pipes → Each (OfPipe P) next) → Apart limits apps (record s { pipes = next })
  with_pipes next keeps = record {
    lists = are.lists;
    items = keeps (IsNumbered s.numbers_given) are.items;
    buffers = are.buffers;
    once = are.once;
    apart = λ n is. are.apart n (was_on_pipes n s.pipes next (keeps (Other n)) is);
  }

  -- a change of the buffers after which there are no others
  with_buffers : (after : List (List Buffer)) → length after ≡ length s.unsent → ((P : Buffer → Type 0) → Each P (buffers_in s.unsent) → Each P (buffers_in after)) →
      ((n : ℕ) → count_by (of_buffer n) (buffers_in after) ≤ count_by (of_buffer n) (buffers_in s.unsent)) → Apart limits apps (record s { unsent = after })
  with_buffers after same keeps fewer = record {
    lists = same ∙ are.lists;
    items = are.items;
    buffers = keeps (IsSized limits s.numbers_given) are.buffers;
    once = λ n. omega (arith, fewer n, are.once n);
    apart = λ n is. none_unsent after n (keeps (OtherBuffer n) (not_unsent s.unsent n (are.apart n is)));
  }

  -- a send is on the pipes under its own number, and on none under another that wasn't before
  apart_sent : (sending : Sending) (subs : List Subscription) (after : List (List Buffer)) → is_unsent after sending.number ≡ false →
      ((n : ℕ) → is_unsent s.unsent n ≡ false → is_unsent after n ≡ false) → (n : ℕ) → is_on_pipes (deliver sending subs s.pipes) n ≡ true → is_unsent after n ≡ false
  apart_sent sending subs after new old n is =
      elim (sending.number == n) as (λ b. (sending.number == n) ≡ b → is_unsent after n ≡ false) [
        | true ↦ λ same. ap (is_unsent after) (sym (eqb-true sending.number n same)) ∙ new
        | false ↦ λ differ.
            old n (are.apart n (was_on_pipes n s.pipes (deliver sending subs s.pipes)
            (Each-deliver (OfPipe (Other n)) sending (OfPipe-offer (Other n) sending (λ sub. differ)) subs s.pipes) is))
      ] refl

  sent : (sending : Sending) (subs : List Subscription) → sending.number ≡ s.numbers_given + 1 → Apart limits apps (with_sent limits s sending subs)
  sent sending subs number =
      let Old : Item → Type 0 = IsNumbered s.numbers_given in
      let New : Item → Type 0 = IsNumbered sending.number in
      record {
        lists = are.lists;
        items = Each-deliver (OfPipe New) sending (OfPipe-offer New sending (λ sub. (omega (arith, number), omega arith))) subs s.pipes
            (Each-drop (OfPipe Old) (OfPipe New) s.pipes (OfPipe-drop Old New (λ item is. (is.0, omega (arith, is.1, number)))) are.items);
        buffers = Each-drop (IsSized limits s.numbers_given) (IsSized limits sending.number) (buffers_in s.unsent)
            (IsSized-more limits s.numbers_given sending.number (omega (arith, number))) are.buffers;
        once = are.once;
        apart = apart_sent sending subs s.unsent
            (none_unsent s.unsent sending.number (new_buffer limits s.numbers_given sending.number s.unsent (omega (arith, number)) are.buffers)) (λ n none. none);
      }

  -- a new buffer
  given_out : (app size : ℕ) → 7 ≤ size → size ≤ limits.msgmax → Apart limits apps ((allocated limits s app size).1)
  given_out app size least most =
      let given = s.numbers_given in
      let new : Buffer = record { number = given + 1; size = size } in
      let after = with_unsent s.unsent app new in
      let Old : Item → Type 0 = IsNumbered given in
      let New : Item → Type 0 = IsNumbered (given + 1) in
      record {
        lists = length-set s.unsent (app - 1) (new ∷ unsent_of s.unsent app) ∙ are.lists;
        items = Each-drop (OfPipe Old) (OfPipe New) s.pipes (OfPipe-drop Old New (λ item is. (is.0, omega (arith, is.1)))) are.items;
        buffers = Each-with_unsent (IsSized limits (given + 1)) s.unsent app new
            (Each-drop (IsSized limits given) (IsSized limits (given + 1)) (buffers_in s.unsent) (IsSized-more limits given (given + 1) (omega arith)) are.buffers)
            (record { some = omega arith; given = omega arith; least = least; most = most });
        once = λ n. elim (given + 1 == n) as (λ b. (given + 1 == n) ≡ b → count_by (of_buffer n) (buffers_in after) ≤ 1) [
          | true ↦ λ same.
              let is = eqb-true (given + 1) n same in
              omega (
                arith,
                count-with_unsent n s.unsent app new,
                ap (λ b. cond {A = ℕ} b 1 0) same,
                all_none (of_buffer n) (buffers_in s.unsent) (new_buffer limits given n s.unsent (omega (arith, is)) are.buffers),
              )
          | false ↦ λ differ. omega (arith, count-with_unsent n s.unsent app new, ap (λ b. cond {A = ℕ} b 1 0) differ, are.once n)
        ] refl;
        apart = λ n is. elim (given + 1 == n) as (λ b. (given + 1 == n) ≡ b → is_unsent after n ≡ false) [
          | true ↦ λ same. absurd (true≢false (sym is ∙ none_on_pipes n s.pipes (new_item given n s.pipes (omega (arith, eqb-true (given + 1) n same)) are.items)))
          | false ↦ λ differ. none_unsent after n (Each-with_unsent (OtherBuffer n) s.unsent app new (not_unsent s.unsent n (are.apart n is)) differ)
        ] refl;
      }

  -- a buffer that leaves
  left : (app buf : ℕ) → Apart limits apps (buffer_gone s app buf)
  left app buf =
      with_buffers (without_unsent s.unsent app buf) (length-set s.unsent (app - 1) _) (λ P. Each-without_unsent P s.unsent app buf)
      (λ n. count-without_unsent n buf s.unsent app)

  -- and whose message is sent
  passed : (app : ℕ) (sending : Sending) (subs : List Subscription) → has_unsent s.unsent app sending.number ≡ true →
      Apart limits apps (record (buffer_gone s app sending.number) { pipes = deliver sending subs s.pipes })
  passed app sending subs has =
      let n = sending.number in
      let Mine : Item → Type 0 = IsNumbered s.numbers_given in
      let gone = left app n in
      let after = without_unsent s.unsent app n in
      let known : (1 ≤ n) × (n ≤ s.numbers_given) =
      has_buffer (IsSized limits s.numbers_given) ((1 ≤ n) × (n ≤ s.numbers_given)) n
      (λ buffer same is. (omega (arith, same, is.some), omega (arith, same, is.given))) (unsent_of s.unsent app)
      (Each-unsent_of (IsSized limits s.numbers_given) s.unsent (app - 1) are.buffers) has in
      record {
        lists = gone.lists;
        items = Each-deliver (OfPipe Mine) sending (OfPipe-offer Mine sending (λ sub. known)) subs s.pipes are.items;
        buffers = gone.buffers;
        once = gone.once;
        apart = apart_sent sending subs after
            (none_unsent after n (none_counted (of_buffer n) (buffers_in after) (count_gone n s.unsent app has (are.once n))))
            (λ other none. none_unsent after other (Each-without_unsent (OtherBuffer other) s.unsent app n (not_unsent s.unsent other none)));
      }

AreApart-step : (limits : Limits) (apps : ℕ) (history : List Entry) (s : State) (app : ℕ) (call : Call) → Apart limits apps s →
    Apart limits apps ((step limits history s app call).1)
AreApart-step limits apps history s app call are =
    let takes : (pipe : ℕ) → Apart limits apps (record s { pipes = with_pipe after_receive pipe s.pipes }) =
    λ pipe. with_pipes limits apps s are (with_pipe after_receive pipe s.pipes) (λ P. Each-with_pipe (OfPipe P) after_receive (OfPipe-receive P) pipe s.pipes) in
    let loses : (stays : Pipe → Bool) → Apart limits apps (record s { pipes = filter stays s.pipes }) =
    λ stays. with_pipes limits apps s are (filter stays s.pipes) (λ P. Each-filter (OfPipe P) stays s.pipes) in
    after_step (Apart limits apps) limits history s app call (record {
      same = are;
      creates = λ depth name none.
          (with_pipes limits apps s are (s.pipes ++ _ ∷ []) (λ P each. Each-push (OfPipe P) s.pipes _ each (record { queue = tt; last = tt })));
      subscribes = λ id pipe limit scope none other. are;
      sends = λ sending id who number room. sent limits apps s are sending (route s.subscriptions id) number;
      receives = takes;
      deletes = λ pipe none. (loses (λ other. not (other.number == pipe)));
      sets = λ pipe bits none.
          with_pipes limits apps s are (with_pipe (with_bits bits) pipe s.pipes)
          (λ P. Each-with_pipe (OfPipe P) (with_bits bits) (λ p of. record { queue = of.queue; last = of.last }) pipe s.pipes);
      unsubscribes = λ id pipe none. are;
      stands = λ pipe standing going. (takes pipe);
      ends =
          let lost : State = record s { pipes = filter (λ pipe. not (pipe.owner == app)) s.pipes } in
          (with_buffers limits apps lost (loses (λ pipe. not (pipe.owner == app))) (without_all_unsent s.unsent app) (length-set s.unsent (app - 1) [])
          (λ P. Each-without_all P s.unsent app) (λ n. count-without_all n s.unsent app));
      pools = λ next follows. are;
      allocates = λ size none. let may = may_allocate limits s size none in given_out limits apps s are app size may.least may.most;
      leaves = λ buf has. left limits apps s are app buf;
      records = λ t desk statistics is. is;
      passes = λ sending id who has asked. passed limits apps s are app sending (route s.subscriptions id) has;
    })

-- after every history
AreApart-after : (limits : Limits) (apps : ℕ) (history : List Entry) → Apart limits apps (state_after limits apps history)
AreApart-after limits apps history =
    state_from-keeps (Apart limits apps) limits (AreApart-step limits apps) [] (opening limits apps) history (record {
      lists = length-replicate {A = List Buffer} apps [];
      items = tt;
      buffers = subst (Each (IsSized limits 0)) (sym (none_at_first apps)) tt;
      once = λ n. omega (arith, ap (count_by (of_buffer n)) (none_at_first apps));
      apart = λ n is. absurd (true≢false (sym is));
    })

-- each buffer, by the numbers that are unsent
each_apart : (limits : Limits) (s : State) (buffers : List Buffer) → Each (IsSized limits s.numbers_given) buffers →
    ((n : ℕ) → list_any (of_buffer n) buffers ≡ true → is_on_pipes s.pipes n ≡ false) → All (IsUnsentBuffer limits s) buffers
each_apart limits s [] each apart = All-nil (IsUnsentBuffer limits s)
each_apart limits s (buffer ∷ buffers) each apart =
    All-cons (IsUnsentBuffer limits s) buffer buffers
    (record {
      some = each.0.some;
      given = each.0.given;
      apart = apart buffer.number (ap (λ b. b || list_any (of_buffer buffer.number) buffers) (same-self buffer.number));
      least = each.0.least;
      most = each.0.most;
    })
    (each_apart limits s buffers each.1 (λ n is. apart n (or_true (of_buffer n buffer) (list_any (of_buffer n) buffers) is)))

pub AreUnsent-after : (limits : Limits) (apps : ℕ) (history : List Entry) → AreUnsent limits apps (state_after limits apps history)
AreUnsent-after limits apps history = record {
  lists = are.lists;
  once = are.once;
  each = each_apart limits s (buffers_in s.unsent) are.buffers (λ n is. not_on_pipes n (unsent_in s.unsent n ∙ is));
  given = given;
}
  where
    s : State
    s = state_after limits apps history

    are : Apart limits apps s
    are = AreApart-after limits apps history

    not_on_pipes : (n : ℕ) → is_unsent s.unsent n ≡ true → is_on_pipes s.pipes n ≡ false
    not_on_pipes n is = by_test (is_on_pipes s.pipes n) refl
      where
        by_test : (b : Bool) → is_on_pipes s.pipes n ≡ b → is_on_pipes s.pipes n ≡ false
        by_test true so = absurd (true≢false (sym is ∙ are.apart n so))
        by_test false so = so

    given : (n : ℕ) → is_on_pipes s.pipes n ≡ true → (1 ≤ n) × (n ≤ s.numbers_given)
    given n is = (some n is, by_place (cases_lt s.numbers_given n))
      where
        some : (k : ℕ) → is_on_pipes s.pipes k ≡ true → 1 ≤ k
        some zero is =
            absurd (true≢false (sym is ∙ none_on_pipes 0 s.pipes (Each-drop (OfPipe (IsNumbered s.numbers_given)) (OfPipe (Other 0)) s.pipes
            (OfPipe-drop (IsNumbered s.numbers_given) (Other 0) (λ item of. ne_eqb item.number 0 (λ same. omega (arith, same, of.0)))) are.items)))
        some (suc k) is = omega arith

        by_place : (s.numbers_given < n) ⊎ (n ≤ s.numbers_given) → n ≤ s.numbers_given
        by_place (inl past) = absurd (true≢false (sym is ∙ none_on_pipes n s.pipes (new_item s.numbers_given n s.pipes (omega (arith, past)) are.items)))
        by_place (inr within) = within
