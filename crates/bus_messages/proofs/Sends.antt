-- What a send leaves of the blocks, the pipes and the account.
use Rattle.std.proofs.Common.{◌≡◌, ℕ, ◌+◌, ◌≤◌, ◌⊎◌, inl, inr, Some, Bool, true, false, cond, eqb, leb, List, [], ◌∷◌, map, refl, ap, sym, ◌∙◌, subst, arith}
use Rattle.std.specs.List.{All}
use Rattle.std.proofs.lemmas.Bool.{cases_eq}
use Rattle.std.proofs.lemmas.Bool.Decides.{nat_tests}
use Rattle.fsw_base.specs.Blocks.{class_of}
use Rattle.fsw_base.specs.PoolAccounts.{Account}
use Rattle.es_pool.specs.Pool.{is_out, class_at, size_at, most_cut}
use Rattle.es_pool.specs.Account.{IsAccountOf}
use Rattle.buf_desc.specs.Block.{Sealed as SealedBlock}
use Rattle.buf_desc.specs.Slots.{slot_at, sealed_at, sealed_in, is_sealed, is_open, is_live, number_in, asked_in, HaveOwnNumbers}
use Rattle.buf_desc.specs.Desk.{Buffers, resealed, freed, after_settle}
use Rattle.buf_desc.specs.declared.slot.Slot.{Slot}
use Rattle.buf_desc.specs.declared.slot.Slot.TheVariants.{Free, Sealed}
use Rattle.buf_desc.proofs.Others.{numbers_changed}
use Rattle.bus_words.specs.Bus.{Subscription, Sending, deliver, reached, drops}
use Rattle.bus_routes.specs.declared.message.Message.{Message}
use Rattle.bus_routes.specs.declared.tables.ItemRow.{ItemRow}
use Rattle.bus_words.specs.Pipes.{with_pipe, IsRising}
use Rattle.bus_routes.specs.Rows.{Row, offered_row, deliver_rows, reached_rows, missed_rows, dropped_rows, drops_rows}
use Rattle.bus_routes.specs.Uses.{uses_among, uses_of}
use Rattle.bus_routes.proofs.UseCounts.{delivered_uses}
use Rattle.bus_messages.specs.Store.{LastLoan}
use Rattle.bus_messages.specs.Words.{missed}
use Rattle.bus_messages.specs.Blocks.{IsGiven}
use Rattle.bus_messages.specs.Inside.{pipes_in, loan_in, account_in, AllItems, IsNamed, lasts_of, AreTied, Backed, Seals, returned, after_send}
use Rattle.bus_messages.proofs.Drops.{HaveLoose}
use Rattle.bus_messages.proofs.Items.{items_weaker, items_both, items_delivered, items_dropped, no_uses, unused, queue_unused, lasts_few, lasts_delivered}
use Rattle.bus_messages.proofs.RowChanges.{IsSending, message_of, deliver-rows, reached-rows, drops-rows, missed-rows}
use Rattle.bus_messages.proofs.Pool.{returned_for}
use Rattle.bus_messages.proofs.Ties.{Stays, Moves, sealed_live, sealed_number, here_set, others_set, stays_apart, stays_freed, pipes_stay, named_stay, loans_stay, tied_moved, tied_freed}

-- a delivery changes no last message
loans_delivered : (slots : List Slot) (message : Message) (subs : List Subscription) (rows : List Row) → map (loan_in slots) (deliver_rows message subs rows) ≡ map (loan_in slots) rows
loans_delivered slots message [] rows = refl
loans_delivered slots message (sub ∷ subs) rows =
    loans_delivered slots message subs (with_pipe (offered_row message sub) sub.pipe rows) ∙ one_offer rows
  where
    offer : (row : Row) (mine : Bool) → loan_in slots (cond {A = Row} mine (offered_row message sub row) row) ≡ loan_in slots row
    offer row true = refl
    offer row false = refl

    one_offer : (xs : List Row) → map (loan_in slots) (with_pipe (offered_row message sub) sub.pipe xs) ≡ map (loan_in slots) xs
    one_offer [] = refl
    one_offer (row ∷ xs) =
        ap (λ (l : LastLoan). l ∷ map (loan_in slots) (with_pipe (offered_row message sub) sub.pipe xs)) (offer row (eqb row.number sub.pipe))
        ∙ ap (λ (l : List LastLoan). loan_in slots row ∷ l) (one_offer xs)

-- what is known once a message's block was sealed, for a number that no item has
pub record Begins (b mid : Buffers) (sending : Sending) (desc given given' : ℕ) : Type 0 where
  pub seals : Seals b mid sending.number sending.asked sending.message desc
  pub unsealed : is_sealed (slot_at b.slots desc) ≡ false
  pub number_new : (d : ℕ) → is_sealed (slot_at b.slots d) ≡ true → sending.number ≡ (sealed_at b.slots d).number → ⊥
  pub numbers : HaveOwnNumbers mid.slots
  pub number_given : IsGiven given' sending.number
  pub more : given ≤ given'
  pub sizes : mid.pool.sizes ≡ b.pool.sizes
  pub here : class_of sending.asked mid.pool.sizes ≡ Some (class_at mid.pool desc)
  pub others : (other : ℕ) → (desc ≡ other → ⊥) → is_live (slot_at b.slots other) ≡ true → class_at mid.pool other ≡ class_at b.pool other
  pub account : IsAccountOf mid.pool (account_in mid.pool)

-- what a send leaves, before the messages are let go that pipes dropped for it
pub record IsSent (b mid final : Buffers) (rows : List Row) (subs : List Subscription) (sending : Sending) (given' desc count : ℕ) : Type 0 where
  pub have : HaveLoose final (deliver_rows (message_of sending desc) subs rows) (dropped_rows (message_of sending desc) subs rows) given'
  pub pipes : pipes_in final.slots (deliver_rows (message_of sending desc) subs rows) ≡ deliver sending subs (pipes_in b.slots rows)
  pub loans : map (loan_in final.slots) (deliver_rows (message_of sending desc) subs rows) ≡ map (loan_in b.slots) rows
  pub account : account_in final.pool ≡ after_send (account_in mid.pool) sending.asked count
  pub arrived : count ≡ reached sending subs (pipes_in b.slots rows)
  pub dropped : drops_rows (message_of sending desc) subs rows ≡ drops sending subs (pipes_in b.slots rows)
  pub misses : missed_rows (message_of sending desc) subs rows ≡ missed sending subs (pipes_in b.slots rows)
  pub others : (other : ℕ) → (desc ≡ other → ⊥) → slot_at final.slots other ≡ slot_at b.slots other
  pub closed : is_open (slot_at final.slots desc) ≡ false
  pub most : most_cut final.pool ≡ most_cut mid.pool
  pub sizes : final.pool.sizes ≡ mid.pool.sizes

module _ (b mid : Buffers) (rows : List Row) (subs : List Subscription) (sending : Sending) (given given' desc count : ℕ)
    (backed : Backed b rows given) (begins : Begins b mid sending desc given given') (rises : IsRising 0 rows)
    (out : is_out mid.pool desc ≡ true)
    (took : count ≡ reached_rows (message_of sending desc) subs rows) where
  abbrev message : Message
  message = message_of sending desc

  abbrev after : List Row
  after = deliver_rows message subs rows

  -- the items that pipes dropped, and the uses with theirs
  abbrev gone_items : List ItemRow
  gone_items = dropped_rows message subs rows

  abbrev due : ℕ → ℕ
  due n = uses_of n after + uses_among n gone_items

  abbrev sent : SealedBlock
  sent = record (sealed_at mid.slots desc) { uses = count }

  abbrev counted : Buffers
  counted = resealed mid desc sent

  live : is_live (slot_at mid.slots desc) ≡ true
  live = sealed_live (slot_at mid.slots desc) begins.seals.sealed

  here : slot_at counted.slots desc ≡ Sealed sent
  here = here_set mid.slots desc (Sealed sent) live

  others : (other : ℕ) → (desc ≡ other → ⊥) → slot_at counted.slots other ≡ slot_at b.slots other
  others other apart = others_set mid.slots desc (Sealed sent) live other apart ∙ begins.seals.others other apart

  numbered : sent.number ≡ sending.number
  numbered = ap (λ (s : SealedBlock). s.number) begins.seals.sent

  sized : sent.asked ≡ sending.asked
  sized = ap (λ (s : SealedBlock). s.asked) begins.seals.sent

  filled : sent.bytes ≡ sending.message
  filled = ap (λ (s : SealedBlock). s.bytes) begins.seals.sent

  -- the number is new
  is_new : (d : ℕ) → is_sealed (slot_at b.slots d) ≡ true → sending.number ≡ (sealed_at b.slots d).number → ⊥
  is_new d is same = begins.number_new d is same

  not_used : uses_of sending.number rows ≡ 0
  not_used = no_uses sending.number rows
      (items_weaker (IsNamed b.slots) (λ i. i.number ≡ sending.number → ⊥) (λ i is e. is_new i.desc is.sealed (sym (is.number ∙ e))) rows backed.tied.items)

  eqb_same : (n : ℕ) → eqb n n ≡ true
  eqb_same n = grind (arith, nat_tests)

  eqb_new : (n : ℕ) → (sending.number ≡ n → ⊥) → eqb sending.number n ≡ false
  eqb_new n apart = at (eqb sending.number n) refl
    where
      at : (c : Bool) → eqb sending.number n ≡ c → c ≡ false
      at false e = refl
      at true e = absurd (apart (grind (arith, nat_tests)))

  uses_here : due sending.number ≡ count
  uses_here =
      delivered_uses sending.number message 0 subs rows rises
      ∙ ap (λ c. uses_of sending.number rows + cond {A = ℕ} c (reached_rows message subs rows) 0) (eqb_same sending.number)
      ∙ omega (arith, not_used, took)

  uses_there : (n : ℕ) → (sending.number ≡ n → ⊥) → due n ≡ uses_of n rows
  uses_there n apart =
      let e = delivered_uses n message 0 subs rows rises in
      let off = ap (λ c. cond {A = ℕ} c (reached_rows message subs rows) 0) (eqb_new n apart) in
      omega (arith, e, off)

  lasts_here : lasts_of sending.number after ≡ 0
  lasts_here = omega (arith, lasts_delivered sending.number message subs rows, lasts_few sending.number rows, not_used)

  -- an item lies in another block
  item_apart : (item : ItemRow) → IsNamed b.slots item → desc ≡ item.desc → ⊥
  item_apart item is same = off (is_sealed (slot_at b.slots desc)) begins.unsealed (ap (λ i. is_sealed (slot_at b.slots i)) same ∙ is.sealed)
    where
      off : (c : Bool) → c ≡ false → c ≡ true → ⊥
      off c x y = cc

  stay : AllItems (Stays b.slots counted.slots) rows
  stay = items_weaker (IsNamed b.slots) (Stays b.slots counted.slots)
      (λ i is. stays_apart b.slots counted.slots desc others i (item_apart i is) is) rows backed.tied.items

  named : AllItems (IsNamed counted.slots) after
  named = items_delivered (IsNamed counted.slots) message
      (λ sub. record { sealed = ap is_sealed here; number = ap (λ s. (sealed_in s).number) here ∙ numbered }) subs rows
      (named_stay b.slots counted.slots rows stay)

  -- what pipes dropped is named still
  loose_named : All (IsNamed counted.slots) gone_items
  loose_named = items_dropped (IsNamed counted.slots) message
      (λ sub. record { sealed = ap is_sealed here; number = ap (λ s. (sealed_in s).number) here ∙ numbered }) subs rows
      (named_stay b.slots counted.slots rows stay)

  moves : Moves b counted desc (λ n. uses_of n rows) (λ n. lasts_of n rows) due (λ n. lasts_of n after) given given'
  moves = record {
    others = others;
    uses_here = λ _. ap (λ s. (sealed_in s).uses) here ∙ sym uses_here ∙ sym (ap due (ap (λ s. (sealed_in s).number) here ∙ numbered));
    views_here = λ _. ap (λ s. (sealed_in s).views) here ∙ ap (λ (s : SealedBlock). s.views) begins.seals.sent ∙ sym lasts_here ∙ sym (ap (λ n. lasts_of n after) (ap (λ s. (sealed_in s).number) here ∙ numbered));
    number = λ _. subst (IsGiven given') (sym (ap number_in here ∙ numbered)) begins.number_given;
    size = λ _.
        ap (λ s. class_of (asked_in s) mid.pool.sizes) here
        ∙ ap (λ n. class_of n mid.pool.sizes) sized
        ∙ begins.here;
    numbers = numbers_changed mid.slots desc (Sealed sent) live (λ _. sym (sealed_number (slot_at mid.slots desc) begins.seals.sealed)) begins.numbers;
    uses_same = λ other apart is. uses_there (sealed_at b.slots other).number (is_new other is);
    views_same = λ other apart is. lasts_delivered (sealed_at b.slots other).number message subs rows;
    more = begins.more;
    sizes_same = begins.sizes;
    class_same = begins.others;
    account = begins.account;
  }

  tied : AreTied counted after due (λ n. lasts_of n after) given'
  tied = tied_moved b counted desc rows after (λ n. uses_of n rows) (λ n. lasts_of n rows) due (λ n. lasts_of n after) given given' backed.tied moves named

  is_sending : IsSending counted.slots sending desc
  is_sending = record {
    item = λ sub.
        ap (λ s. record { number = sending.number; asked = (sealed_in s).asked; subscription = sub.number; message = (sealed_in s).bytes }) here
        ∙ ap (λ (l : List ℕ). record { number = sending.number; asked = sent.asked; subscription = sub.number; message = l }) filled
        ∙ ap (λ n. record { number = sending.number; asked = n; subscription = sub.number; message = sending.message }) sized;
  }

  was : pipes_in counted.slots rows ≡ pipes_in b.slots rows
  was = pipes_stay b.slots counted.slots rows stay

  pipes_are : pipes_in counted.slots after ≡ deliver sending subs (pipes_in b.slots rows)
  pipes_are = deliver-rows counted.slots sending desc is_sending subs rows ∙ ap (deliver sending subs) was

  loans_are : map (loan_in counted.slots) after ≡ map (loan_in b.slots) rows
  loans_are = loans_delivered counted.slots message subs rows ∙ loans_stay b.slots counted.slots rows stay

  arrived_is : count ≡ reached sending subs (pipes_in b.slots rows)
  arrived_is = took ∙ reached-rows counted.slots sending desc is_sending subs rows ∙ ap (reached sending subs) was

  dropped_is : drops_rows message subs rows ≡ drops sending subs (pipes_in b.slots rows)
  dropped_is = drops-rows counted.slots sending desc is_sending subs rows ∙ ap (drops sending subs) was

  missed_is : missed_rows message subs rows ≡ missed sending subs (pipes_in b.slots rows)
  missed_is = missed-rows counted.slots sending desc is_sending subs rows ∙ ap (missed sending subs) was

  some : (m n : ℕ) → leb m n ≡ true → m ≤ n
  some m n e = grind (arith, nat_tests)

  none : (n : ℕ) → leb 1 n ≡ false → n ≡ 0
  none n e = grind (arith, nat_tests)

  used_there : (other : ℕ) → (desc ≡ other → ⊥) → is_sealed (slot_at counted.slots other) ≡ true → 1 ≤ (sealed_at counted.slots other).uses
  used_there other apart is =
      let e = others other apart in
      subst (λ s. 1 ≤ (sealed_in s).uses) (sym e) (backed.used other (sym (ap is_sealed e) ∙ is))

  -- if some pipe took it
  sent_some : leb 1 count ≡ true → IsSent b mid counted rows subs sending given' desc count
  sent_some is = record {
    have = record { tied = tied; used = λ other sealed. used other sealed (cases_eq desc other); named = loose_named };
    pipes = pipes_are;
    loans = loans_are;
    account = sym (ap (λ c. cond {A = Account} c (account_in mid.pool) (returned (account_in mid.pool) sending.asked)) is);
    arrived = arrived_is;
    dropped = dropped_is;
    misses = missed_is;
    others = others;
    closed = ap is_open here;
    most = refl;
    sizes = refl;
  }
    where
      used : (other : ℕ) → is_sealed (slot_at counted.slots other) ≡ true → (desc ≡ other) ⊎ (desc ≡ other → ⊥) → 1 ≤ (sealed_at counted.slots other).uses
      used other sealed (inl same) = subst (λ x. 1 ≤ (sealed_at counted.slots x).uses) same (subst (λ s. 1 ≤ (sealed_in s).uses) (sym here) (some 1 count is))
      used other sealed (inr apart) = used_there other apart sealed

  -- if none did
  abbrev gone : Buffers
  gone = freed counted desc

  is_sealed_here : is_sealed (slot_at counted.slots desc) ≡ true
  is_sealed_here = ap is_sealed here

  sent_none : leb 1 count ≡ false → IsSent b mid gone rows subs sending given' desc count
  sent_none is = record {
    have = record {
      tied = tied_freed counted desc after after due (λ n. lasts_of n after) due (λ n. lasts_of n after) given'
          tied (sealed_live (slot_at counted.slots desc) is_sealed_here) out (λ n apart. refl) (λ n apart. refl) (named_stay counted.slots gone.slots after stay_gone);
      used = λ other sealed. used other sealed (cases_eq desc other);
      named = λ k e within.
          (stays_freed counted.slots desc slot is_sealed_here _
          (λ same. queue_unused sending.number gone_items (omega (arith, nothing)) k e within (same ∙ ap (λ s. (sealed_in s).number) here ∙ numbered))
          (loose_named k e within)).named;
    };
    pipes = pipes_stay counted.slots gone.slots after stay_gone ∙ pipes_are;
    loans = loans_stay counted.slots gone.slots after stay_gone ∙ loans_are;
    account =
        (returned_for mid.pool sending.asked desc begins.account out begins.here).account
        ∙ sym (ap (λ c. cond {A = Account} c (account_in mid.pool) (returned (account_in mid.pool) sending.asked)) is);
    arrived = arrived_is;
    dropped = dropped_is;
    misses = missed_is;
    others = λ other apart. others_set counted.slots desc slot (sealed_live (slot_at counted.slots desc) is_sealed_here) other apart ∙ others other apart;
    closed = ap is_open clear;
    most = refl;
    sizes = refl;
  }
    where
      slot : Slot
      slot = Free (size_at mid.pool desc)

      nothing : uses_of sending.number after + uses_among sending.number gone_items ≡ 0
      nothing = uses_here ∙ none count is

      stay_gone : AllItems (Stays counted.slots gone.slots) after
      stay_gone =
          items_weaker (λ i. IsNamed counted.slots i × (i.number ≡ sending.number → ⊥)) (Stays counted.slots gone.slots)
          (λ i both. stays_freed counted.slots desc slot is_sealed_here i (λ e. both.1 (e ∙ ap (λ s. (sealed_in s).number) here ∙ numbered)) both.0) after
          (items_both (IsNamed counted.slots) (λ i. i.number ≡ sending.number → ⊥) after named (unused sending.number after (omega (arith, nothing))))

      off : (c : Bool) → c ≡ false → c ≡ true → ⊥
      off c x y = cc

      clear : slot_at gone.slots desc ≡ slot
      clear = here_set counted.slots desc slot (sealed_live (slot_at counted.slots desc) is_sealed_here)

      used : (other : ℕ) → is_sealed (slot_at gone.slots other) ≡ true → (desc ≡ other) ⊎ (desc ≡ other → ⊥) → 1 ≤ (sealed_at gone.slots other).uses
      used other sealed (inl same) = absurd (off (is_sealed (slot_at gone.slots other)) (ap (λ x. is_sealed (slot_at gone.slots x)) (sym same) ∙ ap is_sealed clear) sealed)
      used other sealed (inr apart) =
          let e = others_set counted.slots desc slot (sealed_live (slot_at counted.slots desc) is_sealed_here) other apart in
          subst (λ s. 1 ≤ (sealed_in s).uses) (sym e) (used_there other apart (sym (ap is_sealed e) ∙ sealed))

  -- the block is settled
  pub is_sent : (final : Buffers) → final ≡ after_settle counted desc → IsSent b mid final rows subs sending given' desc count
  is_sent final is = at (leb 1 count) refl
    where
      uses_are : (sealed_at counted.slots desc).uses ≡ count
      uses_are = ap (λ s. (sealed_in s).uses) here

      at : (c : Bool) → leb 1 count ≡ c → IsSent b mid final rows subs sending given' desc count
      at true e = subst (λ f. IsSent b mid f rows subs sending given' desc count) (sym (is ∙ ap (λ n. cond {A = Buffers} (leb 1 n) counted gone) uses_are ∙ ap (λ c. cond {A = Buffers} c counted gone) e)) (sent_some e)
      at false e = subst (λ f. IsSent b mid f rows subs sending given' desc count) (sym (is ∙ ap (λ n. cond {A = Buffers} (leb 1 n) counted gone) uses_are ∙ ap (λ c. cond {A = Buffers} c counted gone) e)) (sent_none e)
