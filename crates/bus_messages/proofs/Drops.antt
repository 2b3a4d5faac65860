-- Messages that pipes dropped: what letting them go, one after the other, leaves of the blocks and the account.
use Rattle.std.proofs.Common.{◌≡◌, ℕ, ◌+◌, ◌-◌, ◌≤◌, ◌⊎◌, inl, inr, Bool, true, false, cond, eqb, leb, List, [], ◌∷◌, set, Some, refl, ap, sym, ◌∙◌, subst, arith}
use Rattle.std.specs.List.{All}
use Rattle.std.proofs.lemmas.Bool.{cases_eq, eq-eqb}
use Rattle.std.proofs.lemmas.Bool.Decides.{nat_tests}
use Rattle.std.proofs.lemmas.List.Elements.{All-nil, All-cons, All-head, All-tail, All-weaker}
use Rattle.std.proofs.lemmas.List.Sums.{sum_by-cons}
use Rattle.fsw_base.specs.Blocks.{class_of}
use Rattle.es_pool.specs.Pool.{is_out, size_at, most_cut}
use Rattle.buf_desc.specs.Block.{Sealed as SealedBlock}
use Rattle.buf_desc.specs.Desk.{Buffers, resealed, freed, after_drop}
use Rattle.buf_desc.specs.Slots.{slot_at, sealed_at, sealed_in, is_sealed, is_live}
use Rattle.buf_desc.specs.declared.slot.Slot.{Slot}
use Rattle.buf_desc.specs.declared.slot.Slot.TheVariants.{Free, Sealed}
use Rattle.bus_routes.specs.declared.tables.ItemRow.{ItemRow}
use Rattle.bus_routes.specs.Rows.{Row}
use Rattle.bus_routes.specs.Uses.{item_use, uses_among, uses_of}
use Rattle.bus_messages.specs.Inside.{account_in, returned, AllItems, IsNamed, lasts_of, AreTied, Backed, AreLoose, blocks_among, all_dropped}
use Rattle.bus_messages.proofs.Accounts.{OutAlone, alone_as, alone_then, returned_is_alone}
use Rattle.bus_messages.proofs.Items.{items_weaker, items_both, unused, queue_unused, lasts_few}
use Rattle.bus_messages.proofs.Pool.{returned_for, out_given_back}
use Rattle.bus_messages.proofs.Receives.{AreUsed, retied, used_resealed, used_freed, stays_then, stays_still, item_use-here, item_use-there}
use Rattle.bus_messages.proofs.Ties.{Stays, KeepsOpen, sealed_live, sealed_number, sealed_asked, open_still, open_then, open_resealed, open_freed, here_set, others_set, stays_resealed, stays_freed, named_stay, tied_resealed, tied_freed}

eqb_same : (n : ℕ) → eqb n n ≡ true
eqb_same n = grind (arith, nat_tests)

eqb_apart : (m n : ℕ) → (m ≡ n → ⊥) → eqb m n ≡ false
eqb_apart m n apart = at (eqb m n) refl
  where
    at : (b : Bool) → eqb m n ≡ b → b ≡ false
    at false e = refl
    at true e = absurd (apart (grind (arith, nat_tests)))

off : (b : Bool) → b ≡ false → b ≡ true → ⊥
off b x y = cc

-- How many uses are to be dropped of a block. --

among-here : (x : ItemRow) (xs : List ItemRow) → blocks_among x.desc (x ∷ xs) ≡ 1 + blocks_among x.desc xs
among-here x xs =
    sum_by-cons (λ (i : ItemRow). cond {A = ℕ} (eqb i.desc x.desc) 1 0) x xs
    ∙ ap (λ b. cond {A = ℕ} b 1 0 + blocks_among x.desc xs) (eqb_same x.desc)

among-there : (x : ItemRow) (xs : List ItemRow) (d : ℕ) → (x.desc ≡ d → ⊥) → blocks_among d (x ∷ xs) ≡ blocks_among d xs
among-there x xs d apart =
    sum_by-cons (λ (i : ItemRow). cond {A = ℕ} (eqb i.desc d) 1 0) x xs
    ∙ ap (λ b. cond {A = ℕ} b 1 0 + blocks_among d xs) (eqb_apart x.desc d apart)
    ∙ omega arith

none_among : (d : ℕ) (xs : List ItemRow) → blocks_among d xs ≡ 0 → All (λ i. i.desc ≡ d → ⊥) xs
none_among d [] none = All-nil (λ i. i.desc ≡ d → ⊥)
none_among d (x ∷ xs) none =
    let split = sum_by-cons (λ (i : ItemRow). cond {A = ℕ} (eqb i.desc d) 1 0) x xs in
    All-cons (λ i. i.desc ≡ d → ⊥) x xs
    (λ same. absurd (omega (arith, split, none, ap (λ b. cond {A = ℕ} b 1 0) (eq-eqb x.desc d same))))
    (none_among d xs (omega (arith, split, none)))

-- A drop of the first. --

module _ (b : Buffers) (x : ItemRow) (xs : List ItemRow) (loose : AreLoose b (x ∷ xs)) where
  pub first_sealed : is_sealed (slot_at b.slots x.desc) ≡ true
  first_sealed = All-head (λ i. is_sealed (slot_at b.slots i.desc) ≡ true) x xs loose.sealed

  enough : (sealed_at b.slots x.desc).views + (1 + blocks_among x.desc xs) ≤ (sealed_at b.slots x.desc).uses
  enough = omega (arith, loose.used x.desc first_sealed, among-here x xs)

  pub first_used : 1 ≤ (sealed_at b.slots x.desc).uses
  first_used = omega (arith, enough)

  pub first_back : (sealed_at b.slots x.desc).uses ≡ 1 → (sealed_at b.slots x.desc).views ≡ 0
  first_back one = omega (arith, enough, one)

  live_first : is_live (slot_at b.slots x.desc) ≡ true
  live_first = sealed_live (slot_at b.slots x.desc) first_sealed

  -- a block that isn't the first one's stays
  kept_apart : (slot : Slot) (d : ℕ) → (x.desc ≡ d → ⊥) → is_sealed (slot_at b.slots d) ≡ true →
      (sealed_at (set b.slots x.desc slot) d).views + blocks_among d xs ≤ (sealed_at (set b.slots x.desc slot) d).uses
  kept_apart slot d apart sealed =
      let e = others_set b.slots x.desc slot live_first d apart in
      subst (λ s. (sealed_in s).views + blocks_among d xs ≤ (sealed_in s).uses) (sym e)
      (omega (arith, loose.used d sealed, among-there x xs d apart))

  rest_some : AreLoose (resealed b x.desc (record (sealed_at b.slots x.desc) { uses = (sealed_at b.slots x.desc).uses - 1 })) xs
  rest_some = record {
    sealed = All-weaker (λ i. is_sealed (slot_at b.slots i.desc) ≡ true) (λ i. is_sealed (slot_at after i.desc) ≡ true)
        (λ i is. still i.desc is (cases_eq x.desc i.desc)) xs (All-tail (λ i. is_sealed (slot_at b.slots i.desc) ≡ true) x xs loose.sealed);
    used = λ d is. used d is (cases_eq x.desc d);
  }
    where
      fewer : SealedBlock
      fewer = record (sealed_at b.slots x.desc) { uses = (sealed_at b.slots x.desc).uses - 1 }

      after : List Slot
      after = set b.slots x.desc (Sealed fewer)

      here : slot_at after x.desc ≡ Sealed fewer
      here = here_set b.slots x.desc (Sealed fewer) live_first

      still : (d : ℕ) → is_sealed (slot_at b.slots d) ≡ true → (x.desc ≡ d) ⊎ (x.desc ≡ d → ⊥) → is_sealed (slot_at after d) ≡ true
      still d is (inl same) = ap (λ i. is_sealed (slot_at after i)) (sym same) ∙ ap is_sealed here
      still d is (inr apart) = ap is_sealed (others_set b.slots x.desc (Sealed fewer) live_first d apart) ∙ is

      used : (d : ℕ) → is_sealed (slot_at after d) ≡ true → (x.desc ≡ d) ⊎ (x.desc ≡ d → ⊥) → (sealed_at after d).views + blocks_among d xs ≤ (sealed_at after d).uses
      used d is (inl same) =
          subst (λ i. (sealed_at after i).views + blocks_among i xs ≤ (sealed_at after i).uses) same
          (subst (λ s. (sealed_in s).views + blocks_among x.desc xs ≤ (sealed_in s).uses) (sym here) (omega (arith, enough)))
      used d is (inr apart) = kept_apart (Sealed fewer) d apart (sym (ap is_sealed (others_set b.slots x.desc (Sealed fewer) live_first d apart)) ∙ is)

  rest_last : leb 2 (sealed_at b.slots x.desc).uses ≡ false → AreLoose (freed b x.desc) xs
  rest_last one = record {
    sealed = λ k e within.
        let apart = none_among x.desc xs (omega (arith, enough, few (sealed_at b.slots x.desc).uses one)) k e within in
        let is = All-tail (λ i. is_sealed (slot_at b.slots i.desc) ≡ true) x xs loose.sealed k e within in
        ap is_sealed (others_set b.slots x.desc gone live_first _ (λ same. apart (sym same))) ∙ is;
    used = λ d is. used d is (cases_eq x.desc d);
  }
    where
      gone : Slot
      gone = Free (size_at b.pool x.desc)

      few : (n : ℕ) → leb 2 n ≡ false → n ≤ 1
      few n e = grind (arith, nat_tests)

      used : (d : ℕ) → is_sealed (slot_at (set b.slots x.desc gone) d) ≡ true → (x.desc ≡ d) ⊎ (x.desc ≡ d → ⊥) →
          (sealed_at (set b.slots x.desc gone) d).views + blocks_among d xs ≤ (sealed_at (set b.slots x.desc gone) d).uses
      used d is (inl same) =
          absurd (off (is_sealed (slot_at (set b.slots x.desc gone) d))
          (ap (λ i. is_sealed (slot_at (set b.slots x.desc gone) i)) (sym same) ∙ ap is_sealed (here_set b.slots x.desc gone live_first)) is)
      used d is (inr apart) = kept_apart gone d apart (sym (ap is_sealed (others_set b.slots x.desc gone live_first d apart)) ∙ is)

  -- the others are still as loose
  pub rest_loose : AreLoose (after_drop b x.desc) xs
  rest_loose = at (leb 2 (sealed_at b.slots x.desc).uses) refl
    where
      fewer : Buffers
      fewer = resealed b x.desc (record (sealed_at b.slots x.desc) { uses = (sealed_at b.slots x.desc).uses - 1 })

      at : (c : Bool) → leb 2 (sealed_at b.slots x.desc).uses ≡ c → AreLoose (after_drop b x.desc) xs
      at true e = subst (λ f. AreLoose f xs) (sym (ap (λ c. cond {A = Buffers} c fewer (freed b x.desc)) e)) rest_some
      at false e = subst (λ f. AreLoose f xs) (sym (ap (λ c. cond {A = Buffers} c fewer (freed b x.desc)) e)) (rest_last e)

-- With the ties. --

-- the blocks with their ties, if these items have uses still, beside those that wait or were received last
pub record HaveLoose (b : Buffers) (rows : List Row) (items : List ItemRow) (given : ℕ) : Type 0 where
  pub tied : AreTied b rows (λ n. uses_of n rows + uses_among n items) (λ n. lasts_of n rows) given
  pub used : AreUsed b
  pub named : All (IsNamed b.slots) items

-- what is sealed is out
abbrev pub AreOut : Buffers → Type 0
AreOut b = (d : ℕ) → is_sealed (slot_at b.slots d) ≡ true → is_out b.pool d ≡ true

-- items of one block are of one send
block_uses : (b : Buffers) (d : ℕ) (items : List ItemRow) → All (IsNamed b.slots) items → blocks_among d items ≤ uses_among (sealed_at b.slots d).number items
block_uses b d [] named = omega arith
block_uses b d (x ∷ xs) named =
    let n = (sealed_at b.slots d).number in
    omega (
      arith,
      sum_by-cons (λ (i : ItemRow). cond {A = ℕ} (eqb i.desc d) 1 0) x xs,
      sum_by-cons (λ (i : ItemRow). cond {A = ℕ} (eqb i.number n) 1 0) x xs,
      one (cases_eq x.desc d),
      block_uses b d xs (All-tail (IsNamed b.slots) x xs named),
    )
  where
    at_most : (c : Bool) → 0 ≤ cond {A = ℕ} c 1 0
    at_most c = omega arith

    one : (x.desc ≡ d) ⊎ (x.desc ≡ d → ⊥) → cond {A = ℕ} (eqb x.desc d) 1 0 ≤ cond {A = ℕ} (eqb x.number (sealed_at b.slots d).number) 1 0
    one (inl same) =
        let number = sym (All-head (IsNamed b.slots) x xs named).number ∙ ap (λ i. (sealed_at b.slots i).number) same in
        omega (arith, ap (λ c. cond {A = ℕ} c 1 0) (eq-eqb x.desc d same), ap (λ c. cond {A = ℕ} c 1 0) (eq-eqb x.number (sealed_at b.slots d).number number))
    one (inr apart) = omega (arith, ap (λ c. cond {A = ℕ} c 1 0) (eqb_apart x.desc d apart), at_most (eqb x.number (sealed_at b.slots d).number))

pub are_loose : (b : Buffers) (rows : List Row) (items : List ItemRow) (given : ℕ) → HaveLoose b rows items given → AreLoose b items
are_loose b rows items given have = record {
  sealed = All-weaker (IsNamed b.slots) (λ i. is_sealed (slot_at b.slots i.desc) ≡ true) (λ i is. is.sealed) items have.named;
  used = λ d is.
      omega (arith, have.tied.uses d is, have.tied.views d is, lasts_few (sealed_at b.slots d).number rows, block_uses b d items have.named);
}

-- what is left once items were let go
pub record AreGone (b : Buffers) (rows : List Row) (items : List ItemRow) (given : ℕ) (after : Buffers) : Type 0 where
  pub have : HaveLoose after rows items given
  pub out : AreOut after
  pub stay : AllItems (Stays b.slots after.slots) rows
  pub opened : KeepsOpen b.slots after.slots
  pub most : most_cut after.pool ≡ most_cut b.pool
  pub sizes : after.pool.sizes ≡ b.pool.sizes
  pub account : OutAlone (account_in b.pool) (account_in after.pool)

module _ (b : Buffers) (rows : List Row) (x : ItemRow) (xs : List ItemRow) (given : ℕ) (have : HaveLoose b rows (x ∷ xs) given) (all_out : AreOut b) where
  abbrev d : ℕ
  d = x.desc

  abbrev uses : ℕ → ℕ
  uses n = uses_of n rows + uses_among n (x ∷ xs)

  abbrev left : ℕ → ℕ
  left n = uses_of n rows + uses_among n xs

  abbrev views : ℕ → ℕ
  views n = lasts_of n rows

  is : IsNamed b.slots x
  is = All-head (IsNamed b.slots) x xs have.named

  rest_named : All (IsNamed b.slots) xs
  rest_named = All-tail (IsNamed b.slots) x xs have.named

  live : is_live (slot_at b.slots d) ≡ true
  live = sealed_live (slot_at b.slots d) is.sealed

  out : is_out b.pool d ≡ true
  out = all_out d is.sealed

  fewer_uses : (n : ℕ) → left n + item_use n (Some x) ≡ uses n
  fewer_uses n = omega (arith, sum_by-cons (λ (i : ItemRow). cond {A = ℕ} (eqb i.number n) 1 0) x xs)

  uses_here : (sealed_at b.slots d).uses ≡ left x.number + 1
  uses_here = omega (arith, have.tied.uses d is.sealed, ap uses is.number, fewer_uses x.number, item_use-here x)

  uses_other : (n : ℕ) → ((sealed_at b.slots d).number ≡ n → ⊥) → left n ≡ uses n
  uses_other n apart = omega (arith, fewer_uses n, item_use-there x n (λ e. apart (is.number ∙ e)))

  some : (m n : ℕ) → leb m n ≡ true → m ≤ n
  some m n e = grind (arith, nat_tests)

  none : (n : ℕ) → leb 1 n ≡ false → n ≡ 0
  none n e = grind (arith, nat_tests)

  -- one of several uses
  abbrev fewer : SealedBlock
  fewer = record (sealed_at b.slots d) { uses = (sealed_at b.slots d).uses - 1 }

  gone_some : leb 1 (left x.number) ≡ true → AreGone b rows xs given (resealed b d fewer)
  gone_some is_some = record {
    have = record {
      tied =
          tied_resealed b d fewer rows rows uses views left views given have.tied is.sealed refl refl
          (omega (arith, uses_here, ap left is.number)) (have.tied.views d is.sealed) uses_other (λ n apart. refl)
          (items_weaker (IsNamed b.slots) (IsNamed after) (λ i n. (stay i n).named) rows have.tied.items);
      used = used_resealed b d fewer is.sealed (omega (arith, uses_here, some 1 (left x.number) is_some)) have.used;
      named = All-weaker (IsNamed b.slots) (IsNamed after) (λ i n. (stay i n).named) xs rest_named;
    };
    out = λ e sealed. all_out e (was e sealed (cases_eq d e));
    stay = items_weaker (IsNamed b.slots) (Stays b.slots after) stay rows have.tied.items;
    opened = open_resealed b.slots d fewer is.sealed;
    most = refl;
    sizes = refl;
    account = refl;
  }
    where
      after : List Slot
      after = set b.slots d (Sealed fewer)

      stay : (i : ItemRow) → IsNamed b.slots i → Stays b.slots after i
      stay i n = stays_resealed b.slots d fewer is.sealed refl refl refl refl i n

      was : (e : ℕ) → is_sealed (slot_at after e) ≡ true → (d ≡ e) ⊎ (d ≡ e → ⊥) → is_sealed (slot_at b.slots e) ≡ true
      was e sealed (inl same) = ap (λ i. is_sealed (slot_at b.slots i)) (sym same) ∙ is.sealed
      was e sealed (inr apart) = sym (ap is_sealed (others_set b.slots d (Sealed fewer) live e apart)) ∙ sealed

  -- the last one
  gone_last : leb 1 (left x.number) ≡ false → AreGone b rows xs given (freed b d)
  gone_last is_none = record {
    have = record {
      tied =
          tied_freed b d rows rows uses views left views given have.tied live out
          (λ n apart. uses_other n (λ e. apart (sealed_number (slot_at b.slots d) is.sealed ∙ e))) (λ n apart. refl)
          (named_stay b.slots after rows stay);
      used = used_freed b d is.sealed have.used;
      named = λ k e within. (apart_stays _ (rest_named k e within) (queue_unused x.number xs none_among_rest k e within)).named;
    };
    out = λ e sealed. still_out e sealed (cases_eq d e);
    stay = stay;
    opened = open_freed b.slots d (size_at b.pool d) is.sealed;
    most = refl;
    sizes = refl;
    account =
        alone_as (account_in b.pool) (returned (account_in b.pool) (sealed_at b.slots d).asked) (account_in (freed b d).pool)
        (returned_is_alone (account_in b.pool) (sealed_at b.slots d).asked)
        (returned_for b.pool (sealed_at b.slots d).asked d have.tied.account out
        (ap (λ n. class_of n b.pool.sizes) (sym (sealed_asked (slot_at b.slots d) is.sealed)) ∙ have.tied.sizes d live)).account;
  }
    where
      after : List Slot
      after = set b.slots d (Free (size_at b.pool d))

      none_left : uses_of x.number rows + uses_among x.number xs ≡ 0
      none_left = none (left x.number) is_none

      none_among_rest : uses_among x.number xs ≡ 0
      none_among_rest = omega (arith, none_left)

      apart_stays : (i : ItemRow) → IsNamed b.slots i → (i.number ≡ x.number → ⊥) → Stays b.slots after i
      apart_stays i named other = stays_freed b.slots d (Free (size_at b.pool d)) is.sealed i (λ e. other (e ∙ is.number)) named

      stay : AllItems (Stays b.slots after) rows
      stay =
          items_weaker (λ i. IsNamed b.slots i × (i.number ≡ x.number → ⊥)) (Stays b.slots after) (λ i both. apart_stays i both.0 both.1) rows
          (items_both (IsNamed b.slots) (λ i. i.number ≡ x.number → ⊥) rows have.tied.items (unused x.number rows (omega (arith, none_left))))

      still_out : (e : ℕ) → is_sealed (slot_at after e) ≡ true → (d ≡ e) ⊎ (d ≡ e → ⊥) → is_out (freed b d).pool e ≡ true
      still_out e sealed (inl same) =
          absurd (off (is_sealed (slot_at after e)) (ap (λ i. is_sealed (slot_at after i)) (sym same) ∙ ap is_sealed (here_set b.slots d (Free (size_at b.pool d)) live)) sealed)
      still_out e sealed (inr apart) =
          out_given_back b.pool d e apart ∙ all_out e (sym (ap is_sealed (others_set b.slots d (Free (size_at b.pool d)) live e apart)) ∙ sealed)

  one_gone : AreGone b rows xs given (after_drop b d)
  one_gone = at (leb 1 (left x.number)) refl
    where
      test : leb 2 (sealed_at b.slots d).uses ≡ leb 1 (left x.number)
      test = ap (leb 2) uses_here ∙ shifted (left x.number)
        where
          shifted : (n : ℕ) → leb 2 (n + 1) ≡ leb 1 n
          shifted n = grind (arith, nat_tests)

      at : (c : Bool) → leb 1 (left x.number) ≡ c → AreGone b rows xs given (after_drop b d)
      at true e = subst (AreGone b rows xs given) (sym (ap (λ c. cond {A = Buffers} c (resealed b d fewer) (freed b d)) (test ∙ e))) (gone_some e)
      at false e = subst (AreGone b rows xs given) (sym (ap (λ c. cond {A = Buffers} c (resealed b d fewer) (freed b d)) (test ∙ e))) (gone_last e)

-- one after the other
gone_then : (b mid after : Buffers) (rows : List Row) (xs ys : List ItemRow) (given : ℕ) → AreGone b rows xs given mid → AreGone mid rows ys given after → AreGone b rows ys given after
gone_then b mid after rows xs ys given first rest = record {
  have = rest.have;
  out = rest.out;
  stay = items_weaker (λ i. Stays b.slots mid.slots i × Stays mid.slots after.slots i) (Stays b.slots after.slots)
      (λ i both. stays_then b.slots mid.slots after.slots i both.0 both.1) rows (items_both (Stays b.slots mid.slots) (Stays mid.slots after.slots) rows first.stay rest.stay);
  opened = open_then b.slots mid.slots after.slots first.opened rest.opened;
  most = rest.most ∙ first.most;
  sizes = rest.sizes ∙ first.sizes;
  account = alone_then (account_in b.pool) (account_in mid.pool) (account_in after.pool) first.account rest.account;
}

pub all_gone : (b : Buffers) (rows : List Row) (items : List ItemRow) (given : ℕ) → HaveLoose b rows items given → AreOut b → AreGone b rows [] given (all_dropped b items)
all_gone b rows [] given have out = record {
  have = have;
  out = out;
  stay = items_weaker (IsNamed b.slots) (Stays b.slots b.slots) (stays_still b.slots) rows have.tied.items;
  opened = open_still b.slots;
  most = refl;
  sizes = refl;
  account = refl;
}
all_gone b rows (x ∷ xs) given have out =
    let first = one_gone b rows x xs given have out in
    gone_then b (after_drop b x.desc) (all_dropped (after_drop b x.desc) xs) rows xs [] given first (all_gone (after_drop b x.desc) rows xs given first.have first.out)

-- the ties are whole then
pub gone_backed : (b after : Buffers) (rows : List Row) (given : ℕ) → AreGone b rows [] given after → Backed after rows given
gone_backed b after rows given gone = record {
  tied = retied after rows rows (λ n. uses_of n rows + 0) (λ n. lasts_of n rows) (λ n. uses_of n rows) (λ n. lasts_of n rows) given gone.have.tied
      (λ n. omega arith) (λ n. refl) gone.have.tied.items;
  used = gone.have.used;
}
