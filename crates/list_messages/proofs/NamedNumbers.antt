-- Send numbers stay named as pipes and buffers name them, call by call.
use Rattle.std.proofs.Common.{◌≡◌, ℕ, zero, suc, ◌+◌, ◌-◌, ◌<◌, ◌≤◌, ◌⊎◌, inl, inr, Bool, true, false, not, cond, eqb, ltb, ne_eqb, List, [], ◌∷◌, ◌++◌, map, length, replicate, refl, sym, ap, subst, ◌∙◌, length-append, arith}
use Rattle.std.specs.List.{filter, count_by, All}
use Rattle.std.proofs.lemmas.Bool.{cases_lt, lt-ltb, le-ltb}
use Rattle.std.proofs.lemmas.List.{set_past, length-set, length-map}
use Rattle.std.proofs.lemmas.List.Elements.{All-nil}
use Rattle.std.proofs.lemmas.List.Sums.{sum_by-cons, sum_by_push, length-filter, count_by-le-length}
use Rattle.fsw_base.specs.PoolAccounts.{Account}
use Rattle.bus_words.specs.Bus.{Pipe, Buffer, Subscription, Sending, deliver, offered, with_pipe, without_pipe, new_pipe, with_bits, after_receive, unsent_of, with_unsent, without_unsent, without_all_unsent}
use Rattle.bus_words.specs.Held.{named_by, buffers_in}
use Rattle.bus_words.proofs.Finds.{Each-push, Each-filter}
use Rattle.bus_words.proofs.Items.{OfPipe, OfPipe-receive}
use Rattle.bus_words.proofs.Owners.{Each-with_pipe}
use Rattle.bus_words.proofs.Buffers.{Each-without_unsent, Each-without_all}
use Rattle.list_pipes.specs.Leaving.{numbers_at, numbers_of, last_at}
use Rattle.list_messages.specs.Sends.{Use, Sends, no_use, use_at, names_of, with_names, without_name, without_names, account_by}
use Rattle.list_messages.specs.Messages.{Messages, AreNamed, account_in}
use Rattle.list_messages.specs.Tied.{IsTied, dropped_by, joined_by, numbers_left}
use Rattle.list_messages.proofs.NamesGone.{named_on, left_pipe, left_owner, received_at, moves, left_buffer, left_buffers}
use Rattle.list_messages.proofs.NameCounts.{names-with, names-without, names-without_all, length-without_all, old-push, new-push, was_given}
use Rattle.list_messages.proofs.Ties.{IsTiedBut, gone_tied, same_tied, sent_tied, drawn_tied, delivered_tied, added_tied, unplaced_tied}
use Rattle.list_messages.proofs.HeldNumbers.{blocks_are}

-- No call yet. --

none_in : (apps : ℕ) → buffers_in (replicate apps []) ≡ []
none_in zero = refl
none_in (suc apps) = none_in apps

no_names : (n : ℕ) → names_of (no_use ∷ []) n ≡ 0
no_names zero = refl
no_names (suc n) = refl

pub kept_none : (apps : ℕ) → AreNamed (no_use ∷ []) 0 [] (replicate apps []) 0
kept_none apps = record {
  given_all = refl;
  first = refl;
  tied = record {
    named = λ n. omega (arith, no_names n, ap (λ (bs : List Buffer). count_by (λ b. eqb b.number n) bs) (none_in apps));
    items = All-nil _;
    buffers = subst (λ (bs : List Buffer). All (λ (b : Buffer). b.size ≡ (use_at (no_use ∷ []) b.number).asked) bs) (sym (none_in apps)) (All-nil _);
  };
  few = omega arith;
}

-- Pipes. --

-- a delivery leaves as many pipes
delivered_long : (sending : Sending) (subs : List Subscription) (pipes : List Pipe) → length (deliver sending subs pipes) ≡ length pipes
delivered_long sending [] pipes = refl
delivered_long sending (sub ∷ subs) pipes =
    delivered_long sending subs (with_pipe (offered sending sub) sub.pipe pipes)
    ∙ length-map pipes (λ (p : Pipe). cond {A = Pipe} (eqb p.number sub.pipe) (offered sending sub p) p)

shorter : (test : Pipe → Bool) (pipes : List Pipe) → length (filter test pipes) ≤ length pipes
shorter test pipes = omega (arith, length-filter test pipes, count_by-le-length test pipes)

module _ (uses : List Use) (given : ℕ) (pipes : List Pipe) (unsent : List (List Buffer)) (created : ℕ) (holds : AreNamed uses given pipes unsent created) where
  -- names go, with the pipes that named them
  gone_told : (next : List Pipe) (after : List (List Buffer)) (gone : List ℕ) → IsTied (without_names uses gone) next after → length next ≤ created →
      AreNamed (without_names uses gone) given next after created
  gone_told next after gone tied few = record {
    given_all = length-without_all uses gone ∙ holds.given_all;
    first = omega (arith, names-without_all uses gone 0, holds.first);
    tied = tied;
    few = few;
  }

  -- a pipe is created
  pub kept_created : (number app depth : ℕ) (name : List ℕ) → AreNamed uses given (pipes ++ new_pipe number name app depth ∷ []) unsent (created + 1)
  kept_created number app depth name =
      let new : Pipe = new_pipe number name app depth in
      record {
        given_all = holds.given_all;
        first = holds.first;
        tied = same_tied uses pipes unsent holds.tied (pipes ++ new ∷ [])
            (λ P each. Each-push (OfPipe P) pipes new each (record { queue = tt; last = tt }))
            (λ n. omega (arith, sum_by_push (named_by n) pipes new));
        few = omega (arith, holds.few, length-append pipes (new ∷ []));
      }

  -- a pipe is deleted
  pub kept_deleted : (number : ℕ) → AreNamed (without_names uses (numbers_at number pipes)) given (without_pipe number pipes) unsent created
  kept_deleted number =
      let test : Pipe → Bool = λ p. not (eqb p.number number) in
      gone_told (without_pipe number pipes) unsent (numbers_at number pipes)
      (gone_tied uses pipes unsent holds.tied (without_pipe number pipes) unsent (numbers_at number pipes)
      (λ P each. Each-filter (OfPipe P) test pipes each) (λ P each. each) (λ n. omega (arith, left_pipe n number pipes)))
      (omega (arith, shorter test pipes, holds.few))

  -- the pipes of an application are deleted
  pub kept_owned : (app : ℕ) → AreNamed (without_names uses (numbers_of app pipes)) given (filter (λ p. not (eqb p.owner app)) pipes) unsent created
  kept_owned app =
      let test : Pipe → Bool = λ p. not (eqb p.owner app) in
      gone_told (filter test pipes) unsent (numbers_of app pipes)
      (gone_tied uses pipes unsent holds.tied (filter test pipes) unsent (numbers_of app pipes)
      (λ P each. Each-filter (OfPipe P) test pipes each) (λ P each. each) (λ n. omega (arith, left_owner n app pipes)))
      (omega (arith, shorter test pipes, holds.few))

  -- a message is received
  pub kept_received : (number : ℕ) → AreNamed (without_names uses (last_at number pipes)) given (with_pipe after_receive number pipes) unsent created
  kept_received number =
      gone_told (with_pipe after_receive number pipes) unsent (last_at number pipes)
      (gone_tied uses pipes unsent holds.tied (with_pipe after_receive number pipes) unsent (last_at number pipes)
      (λ P each. Each-with_pipe (OfPipe P) after_receive (OfPipe-receive P) number pipes each) (λ P each. each) (λ n. omega (arith, received_at n number pipes)))
      (omega (arith, holds.few, length-map pipes (λ (p : Pipe). cond {A = Pipe} (eqb p.number number) (after_receive p) p)))

  -- option bits are set
  pub kept_bits : (number bits : ℕ) → AreNamed uses given (with_pipe (with_bits bits) number pipes) unsent created
  kept_bits number bits = record {
    given_all = holds.given_all;
    first = holds.first;
    tied = same_tied uses pipes unsent holds.tied (with_pipe (with_bits bits) number pipes)
        (λ P each. Each-with_pipe (OfPipe P) (with_bits bits) (λ p of. record { queue = of.queue; last = of.last }) number pipes each)
        (λ n. same n pipes);
    few = omega (arith, holds.few, length-map pipes (λ (p : Pipe). cond {A = Pipe} (eqb p.number number) (with_bits bits p) p));
  }
    where
      same : (n : ℕ) (ps : List Pipe) → named_on n (with_pipe (with_bits bits) number ps) ≡ named_on n ps
      same n [] = refl
      same n (p ∷ ps) =
          elim (eqb p.number number) as (λ b. named_on n (cond {A = Pipe} b (with_bits bits p) p ∷ with_pipe (with_bits bits) number ps) ≡ named_on n (p ∷ ps)) [
            | true ↦ omega (arith, same n ps, sum_by-cons (named_by n) (with_bits bits p) (with_pipe (with_bits bits) number ps), sum_by-cons (named_by n) p ps)
            | false ↦ omega (arith, same n ps, sum_by-cons (named_by n) p (with_pipe (with_bits bits) number ps), sum_by-cons (named_by n) p ps)
          ]

  -- Buffers. --

  -- an application's buffers of a number leave
  pub kept_left : (app number : ℕ) → AreNamed (without_names uses (numbers_left number (unsent_of unsent app))) given pipes (without_unsent unsent app number) created
  kept_left app number =
      gone_told pipes (without_unsent unsent app number) (numbers_left number (unsent_of unsent app))
      (gone_tied uses pipes unsent holds.tied pipes (without_unsent unsent app number) (numbers_left number (unsent_of unsent app))
      (λ P each. each) (λ P each. Each-without_unsent P unsent app number each) (λ n. omega (arith, left_buffer n unsent app number)))
      holds.few

  -- all of them leave
  pub kept_all_left : (app : ℕ) → AreNamed (without_names uses (map (λ (b : Buffer). b.number) (unsent_of unsent app))) given pipes (without_all_unsent unsent app) created
  kept_all_left app =
      let gone : List ℕ = map (λ (b : Buffer). b.number) (unsent_of unsent app) in
      gone_told pipes (without_all_unsent unsent app) gone
      (gone_tied uses pipes unsent holds.tied pipes (without_all_unsent unsent app) gone
      (λ P each. each) (λ P each. Each-without_all P unsent app each) (λ n. omega (arith, left_buffers n unsent app)))
      holds.few

  -- a buffer is given to an application, or to none
  pub kept_added : (app size : ℕ) → app - 1 < length unsent →
      AreNamed (uses ++ record { asked = size; named = 1 } ∷ []) (given + 1) pipes (with_unsent unsent app (record { number = given + 1; size = size })) created
  kept_added app size within =
      let u : Use = record { asked = size; named = 1 } in
      record {
        given_all = omega (arith, holds.given_all, length-append uses (u ∷ []));
        first = ap (λ (x : Use). x.named) (old-push uses u 0 (omega (arith, holds.given_all))) ∙ holds.first;
        tied = added_tied (uses ++ u ∷ []) pipes unsent app (given + 1) size
            (subst (λ n. IsTiedBut (uses ++ u ∷ []) pipes unsent n) holds.given_all (drawn_tied uses pipes unsent size holds.tied)) within
            (sym (ap (λ (x : Use). x.asked) (new-push uses u (given + 1) (sym holds.given_all))));
        few = holds.few;
      }

  pub kept_unplaced : (app size : ℕ) → length unsent ≤ app - 1 →
      AreNamed (without_name (uses ++ record { asked = size; named = 1 } ∷ []) (given + 1)) (given + 1) pipes (with_unsent unsent app (record { number = given + 1; size = size })) created
  kept_unplaced app size past =
      let u : Use = record { asked = size; named = 1 } in
      let all : List Use = uses ++ u ∷ [] in
      let b : Buffer = record { number = given + 1; size = size } in
      subst (λ (un : List (List Buffer)). AreNamed (without_name all (given + 1)) (given + 1) pipes un created) (sym (set_past unsent (app - 1) (b ∷ unsent_of unsent app) past))
      (record {
        given_all = length-set all (given + 1) _ ∙ omega (arith, holds.given_all, length-append uses (u ∷ []));
        first = omega (arith, names-without all (given + 1) 0, ap (λ (x : Use). x.named) (old-push uses u 0 (omega (arith, holds.given_all))), holds.first);
        tied = unplaced_tied all pipes unsent (given + 1)
            (subst (λ n. IsTiedBut all pipes unsent n) holds.given_all (drawn_tied uses pipes unsent size holds.tied));
        few = holds.few;
      })

  -- whether there is such an application or not
  pub kept_placed : (app size : ℕ) →
      AreNamed (cond {A = List Use} (ltb (app - 1) (length unsent)) (uses ++ record { asked = size; named = 1 } ∷ []) (without_name (uses ++ record { asked = size; named = 1 } ∷ []) (given + 1)))
      (given + 1) pipes (with_unsent unsent app (record { number = given + 1; size = size })) created
  kept_placed app size = at (cases_lt (app - 1) (length unsent))
    where
      all : List Use
      all = uses ++ record { asked = size; named = 1 } ∷ []

      Holds : Bool → Type 0
      Holds b = AreNamed (cond {A = List Use} b all (without_name all (given + 1))) (given + 1) pipes (with_unsent unsent app (record { number = given + 1; size = size })) created

      at : (app - 1 < length unsent) ⊎ (length unsent ≤ app - 1) → Holds (ltb (app - 1) (length unsent))
      at (inl within) = subst Holds (sym (lt-ltb (app - 1) (length unsent) within)) (kept_added app size within)
      at (inr past) = subst Holds (sym (le-ltb (app - 1) (length unsent) past)) (kept_unplaced app size past)

  -- Sends. --

  -- a message is sent in a block of its own
  pub kept_sent : (sending : Sending) (subs : List Subscription) → sending.number ≡ given + 1 →
      AreNamed (without_name (without_names (with_names (uses ++ record { asked = sending.asked; named = 1 } ∷ []) sending.number (joined_by sending subs pipes)) (dropped_by sending subs pipes)) sending.number)
      (given + 1) (deliver sending subs pipes) unsent created
  kept_sent sending subs next =
      let u : Use = record { asked = sending.asked; named = 1 } in
      let all : List Use = uses ++ u ∷ [] in
      let grown : List Use = with_names all sending.number (joined_by sending subs pipes) in
      let settled : List Use = without_names grown (dropped_by sending subs pipes) in
      let other : eqb sending.number 0 ≡ false = ne_eqb sending.number 0 (λ is. omega (arith, is, next)) in
      let number : length uses ≡ sending.number = holds.given_all ∙ sym next in
      record {
        given_all = length-set settled sending.number _ ∙ (length-without_all grown (dropped_by sending subs pipes)
            ∙ (length-set all sending.number _ ∙ omega (arith, holds.given_all, length-append uses (u ∷ []))));
        first = omega (
          arith,
          names-without settled sending.number 0,
          names-without_all grown (dropped_by sending subs pipes) 0,
          names-with all sending.number (joined_by sending subs pipes) 0 (omega (arith, number, length-append uses (u ∷ []))),
          ap (λ b. cond {A = ℕ} b (joined_by sending subs pipes) 0) other,
          ap (λ (x : Use). x.named) (old-push uses u 0 (omega (arith, holds.given_all))),
          holds.first,
        );
        tied = delivered_tied all pipes unsent sending subs (deliver sending subs pipes) (dropped_by sending subs pipes) (joined_by sending subs pipes)
            (subst (λ n. IsTiedBut all pipes unsent n) number (drawn_tied uses pipes unsent sending.asked holds.tied)) refl
            (sym (ap (λ (x : Use). x.asked) (new-push uses u sending.number (sym number))))
            (moves sending subs pipes (deliver sending subs pipes) (dropped_by sending subs pipes) (joined_by sending subs pipes) refl refl refl);
        few = omega (arith, holds.few, delivered_long sending subs pipes);
      }

  -- a message is sent in a buffer, which then leaves
  pub kept_delivered : (sending : Sending) (subs : List Subscription) → sending.asked ≡ (use_at uses sending.number).asked → 1 ≤ names_of uses sending.number →
      AreNamed (without_names (with_names uses sending.number (joined_by sending subs pipes)) (dropped_by sending subs pipes)) given (deliver sending subs pipes) unsent created
  kept_delivered sending subs asked some =
      let grown : List Use = with_names uses sending.number (joined_by sending subs pipes) in
      record {
        given_all = length-without_all grown (dropped_by sending subs pipes) ∙ (length-set uses sending.number _ ∙ holds.given_all);
        first = omega (
          arith,
          names-without_all grown (dropped_by sending subs pipes) 0,
          names-with uses sending.number (joined_by sending subs pipes) 0 (was_given uses sending.number some),
          ap (λ b. cond {A = ℕ} b (joined_by sending subs pipes) 0)
              (ne_eqb sending.number 0 (λ is. omega (arith, some, ap (names_of uses) is, holds.first))),
          holds.first,
        );
        tied = sent_tied uses pipes unsent holds.tied sending subs (deliver sending subs pipes) (dropped_by sending subs pipes) (joined_by sending subs pipes) refl asked some
            (moves sending subs pipes (deliver sending subs pipes) (dropped_by sending subs pipes) (joined_by sending subs pipes) refl refl refl);
        few = omega (arith, holds.few, delivered_long sending subs pipes);
      }

  -- What is read. --

  -- the account by send numbers is the one by the numbers held
  pub kept_account : (s : Sends) (m : Messages) → s.uses ≡ uses →
      m ≡ record { pool = s.bytes; sizes = s.sizes; pipes = pipes; pipes_created = created; unsent = unsent; numbers_given = given; made = s.made; drawn = s.requests } →
      account_by s ≡ account_in m
  kept_account s m same is =
      ap (λ (us : List Use). account_by (record s { uses = us })) same
      ∙ (ap (λ out. let a : Account = record (account_by s) { out = out } in a) (sym (blocks_are uses pipes unsent given holds.given_all holds.first holds.tied s.sizes))
      ∙ sym (ap account_in is))
