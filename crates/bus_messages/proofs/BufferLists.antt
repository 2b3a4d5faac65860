-- The unsent buffers that lists of descriptors stand for, and how one of them is found by its number.
use Rattle.std.proofs.Common.{◌≡◌, ℕ, ◌+◌, ◌-◌, ◌<◌, ◌≤◌, ◌⊎◌, inl, inr, zero, suc, Bool, true, false, ◌||◌, cond, eqb, List, [], ◌∷◌, ◌++◌, length, get_or, set, map, find, flat_map, Option, Some, None, is_some, refl, ap, sym, ◌∙◌, arith}
use Rattle.std.specs.List.{list_any}
use Rattle.std.specs.Option.{option_map_or}
use Rattle.std.proofs.lemmas.Bool.{cases_eq, eqb-true}
use Rattle.std.proofs.lemmas.Bool.Decides.{nat_tests}
use Rattle.std.proofs.lemmas.List.{map-append}
use Rattle.std.proofs.lemmas.List.Folds.{list_any-append}
use Rattle.std.proofs.lemmas.List.Sums.{sum_by-cons, sum_by-append, sum_by-set}
use Rattle.bucket_list.specs.Lists.{times, times_in}
use Rattle.zero_copy.proofs.Links.{in_cases, first_in, behind_in}
use Rattle.buf_desc.specs.Slots.{slot_at, is_open, number_in, asked_in, HaveOwnNumbers}
use Rattle.buf_desc.specs.declared.slot.Slot.{Slot}
use Rattle.bus_words.specs.Bus.{Buffer, unsent_of, unsent_at, has_unsent}
use Rattle.bus_words.specs.Held.{is_unsent, buffers_in, size_in}
use Rattle.bus_messages.specs.Store.{BufferDesc}
use Rattle.bus_messages.specs.Words.{desc_of}
use Rattle.bus_messages.specs.Inside.{buffer_in, unsent_in, desc_in, descs_in, AreListed}
use Rattle.bus_messages.proofs.Ties.{KeepsOpen, open_live}

off : (b : Bool) → b ≡ false → b ≡ true → ⊥
off b x y = cc

eqb_same : (n : ℕ) → eqb n n ≡ true
eqb_same n = grind (arith, nat_tests)

pub eqb_off : (m n : ℕ) → (m ≡ n → ⊥) → eqb m n ≡ false
eqb_off m n apart = at (eqb m n) refl
  where
    at : (b : Bool) → eqb m n ≡ b → b ≡ false
    at false e = refl
    at true e = absurd (apart (eqb-true m n e))

-- Finding by a key. --

-- what has the key among the descriptors
pub record IsMember (key : ℕ → ℕ) (ds : List ℕ) (n : ℕ) : Type 0 where
  pub desc : ℕ
  pub listed : 0 < times_in ds desc
  pub has_key : key desc ≡ n

member_behind : (key : ℕ → ℕ) (d : ℕ) (ds : List ℕ) (n : ℕ) → IsMember key ds n → IsMember key (d ∷ ds) n
member_behind key d ds n m = record { desc = m.desc; listed = behind_in d ds m.desc m.listed; has_key = m.has_key }

module _ {X : Type 0} (f : ℕ → X) (key : X → ℕ) where
  abbrev search : List ℕ → ℕ → Option X
  search ds n = find (λ (x : X). eqb (key x) n) (map f ds)

  -- either something of the key is found, or nothing has it
  pub record IsSearched (ds : List ℕ) (n : ℕ) : Type 0 where
    pub either : (IsMember (λ d. key (f d)) ds n) ⊎ ((d : ℕ) → 0 < times_in ds d → key (f d) ≡ n → ⊥)

  pub searched : (ds : List ℕ) (n : ℕ) → (IsMember (λ d. key (f d)) ds n) ⊎ ((d : ℕ) → 0 < times_in ds d → key (f d) ≡ n → ⊥)
  searched [] n = inr (λ d h e. absurd (omega (arith, h)))
  searched (d ∷ ds) n = at (cases_eq (key (f d)) n) (searched ds n)
    where
      at : (key (f d) ≡ n) ⊎ (key (f d) ≡ n → ⊥) → (IsMember (λ x. key (f x)) ds n) ⊎ ((x : ℕ) → 0 < times_in ds x → key (f x) ≡ n → ⊥) →
          (IsMember (λ x. key (f x)) (d ∷ ds) n) ⊎ ((x : ℕ) → 0 < times_in (d ∷ ds) x → key (f x) ≡ n → ⊥)
      at (inl e) _ = inl (record { desc = d; listed = first_in d ds; has_key = e })
      at (inr apart) (inl m) = inl (member_behind (λ x. key (f x)) d ds n m)
      at (inr apart) (inr never) = inr (λ x h e. by_case x h e (in_cases d ds x h))
        where
          by_case : (x : ℕ) → 0 < times_in (d ∷ ds) x → key (f x) ≡ n → (x ≡ d) ⊎ ((x ≡ d → ⊥) × (0 < times_in ds x)) → ⊥
          by_case x h e (inl same) = apart (sym (ap (λ y. key (f y)) same) ∙ e)
          by_case x h e (inr other) = never x other.1 e

  -- the one of its key is found
  pub search_found : (ds : List ℕ) (d : ℕ) → ((e : ℕ) → 0 < times_in ds e → key (f e) ≡ key (f d) → e ≡ d) → 0 < times_in ds d → search ds (key (f d)) ≡ Some (f d)
  search_found [] d one h = absurd (omega (arith, h))
  search_found (x ∷ ds) d one h = at (eqb (key (f x)) (key (f d))) refl (search_found ds d (λ y l s. one y (behind_in x ds y l) s))
    where
      at : (b : Bool) → eqb (key (f x)) (key (f d)) ≡ b → (0 < times_in ds d → search ds (key (f d)) ≡ Some (f d)) →
          cond {A = Option X} (eqb (key (f x)) (key (f d))) (Some (f x)) (search ds (key (f d))) ≡ Some (f d)
      at true e later =
          ap (λ c. cond {A = Option X} c (Some (f x)) (search ds (key (f d)))) e
          ∙ ap (λ y. Some (f y)) (one x (first_in x ds) (eqb-true (key (f x)) (key (f d)) e))
      at false e later =
          ap (λ c. cond {A = Option X} c (Some (f x)) (search ds (key (f d)))) e
          ∙ later (by_case (in_cases x ds d h))
        where
          by_case : (d ≡ x) ⊎ ((d ≡ x → ⊥) × (0 < times_in ds d)) → 0 < times_in ds d
          by_case (inl same) = absurd (off (eqb (key (f x)) (key (f d))) e (ap (λ y. eqb (key (f x)) (key (f y))) same ∙ eqb_same (key (f x))))
          by_case (inr other) = other.1

  -- if nothing has the key nothing is found
  pub search_none : (ds : List ℕ) (n : ℕ) → ((d : ℕ) → 0 < times_in ds d → key (f d) ≡ n → ⊥) → search ds n ≡ None
  search_none [] n never = refl
  search_none (x ∷ ds) n never =
      ap (λ c. cond {A = Option X} c (Some (f x)) (search ds n)) (eqb_off (key (f x)) n (never x (first_in x ds)))
      ∙ search_none ds n (λ d h. never d (behind_in x ds d h))

-- whether some element passes is whether one is found
any-find : {X : Type 0} (p : X → Bool) (xs : List X) → list_any p xs ≡ is_some (find p xs)
any-find p [] = refl
any-find {X = X} p (x ∷ xs) = at (p x) (any-find p xs)
  where
    at : (b : Bool) → list_any p xs ≡ is_some (find p xs) → (b || list_any p xs) ≡ is_some (cond {A = Option X} b (Some x) (find p xs))
    at true ih = refl
    at false ih = ih

-- All lists in a row. --

abbrev pub flat : List (List ℕ) → List ℕ
flat lists = flat_map (λ ds. ds) lists

pub times-flat : (lists : List (List ℕ)) (d : ℕ) → times_in (flat lists) d ≡ times lists d
times-flat [] d = refl
times-flat (ds ∷ lists) d =
    sum_by-append (λ n. cond {A = ℕ} (eqb n d) 1 0) ds (flat lists)
    ∙ ap (λ k. times_in ds d + k) (times-flat lists d)
    ∙ sym (sum_by-cons (λ (l : List ℕ). times_in l d) ds lists)

buffers-flat : (f : ℕ → Buffer) (lists : List (List ℕ)) → buffers_in (map (map f) lists) ≡ map f (flat lists)
buffers-flat f [] = refl
buffers-flat f (ds ∷ lists) = ap (λ l. map f ds ++ l) (buffers-flat f lists) ∙ sym (map-append f ds (flat lists))

descs-flat : (f : ℕ → BufferDesc) (lists : List (List ℕ)) → flat_map (map f) lists ≡ map f (flat lists)
descs-flat f [] = refl
descs-flat f (ds ∷ lists) = ap (λ l. map f ds ++ l) (descs-flat f lists) ∙ sym (map-append f ds (flat lists))

any-flat : (p : Buffer → Bool) (f : ℕ → Buffer) (lists : List (List ℕ)) → list_any (λ (l : List Buffer). list_any p l) (map (map f) lists) ≡ list_any p (map f (flat lists))
any-flat p f [] = refl
any-flat p f (ds ∷ lists) =
    ap (λ b. list_any p (map f ds) || b) (any-flat p f lists)
    ∙ sym (list_any-append p (map f ds) (map f (flat lists)))
    ∙ ap (list_any p) (sym (map-append f ds (flat lists)))

-- One list. --

-- what stands in one list is at most what stands in all
pub times-one : (lists : List (List ℕ)) (i d : ℕ) → times_in (get_or lists i []) d ≤ times lists d
times-one [] i d = omega arith
times-one (ds ∷ lists) zero d = let e = sum_by-cons (λ (l : List ℕ). times_in l d) ds lists in omega (arith, e)
times-one (ds ∷ lists) (suc i) d = let e = sum_by-cons (λ (l : List ℕ). times_in l d) ds lists in omega (arith, e, times-one lists i d)

-- a list that is set
pub times-set : (lists : List (List ℕ)) (i : ℕ) (ds : List ℕ) (d : ℕ) → i < length lists → times (set lists i ds) d + times_in (get_or lists i []) d ≡ times lists d + times_in ds d
times-set lists i ds d h = sum_by-set (λ (l : List ℕ). times_in l d) lists i ds [] h

map-get : (f : ℕ → Buffer) (lists : List (List ℕ)) (i : ℕ) → get_or (map (map f) lists) i [] ≡ map f (get_or lists i [])
map-get f [] i = refl
map-get f (ds ∷ lists) zero = refl
map-get f (ds ∷ lists) (suc i) = map-get f lists i

-- the buffers of one application
pub unsent_of-lists : (slots : List Slot) (lists : List (List ℕ)) (app : ℕ) → unsent_of (unsent_in slots lists) app ≡ map (buffer_in slots) (get_or lists (app - 1) [])
unsent_of-lists slots lists app = map-get (buffer_in slots) lists (app - 1)

-- Slots. --

-- the same slots give the same buffers
map_agree : {X : Type 0} (f g : ℕ → X) (ds : List ℕ) → ((d : ℕ) → 0 < times_in ds d → f d ≡ g d) → map f ds ≡ map g ds
map_agree f g [] same = refl
map_agree f g (d ∷ ds) same = ap (λ x. x ∷ map f ds) (same d (first_in d ds)) ∙ ap (λ l. g d ∷ l) (map_agree f g ds (λ e h. same e (behind_in d ds e h)))

pub unsent_agree : (slots after : List Slot) (lists : List (List ℕ)) → ((d : ℕ) → 0 < times lists d → slot_at after d ≡ slot_at slots d) → unsent_in after lists ≡ unsent_in slots lists
unsent_agree slots after [] same = refl
unsent_agree slots after (ds ∷ lists) same =
    ap (λ l. l ∷ unsent_in after lists)
    (map_agree (buffer_in after) (buffer_in slots) ds
    (λ d h. ap (λ s. record { number = number_in s; size = asked_in s }) (same d (let e = sum_by-cons (λ (l : List ℕ). times_in l d) ds lists in omega (arith, e, h)))))
    ∙ ap (λ l. map (buffer_in slots) ds ∷ l)
    (unsent_agree slots after lists (λ d h. same d (let e = sum_by-cons (λ (l : List ℕ). times_in l d) ds lists in omega (arith, e, h))))

descs_agree : (slots after : List Slot) (lists : List (List ℕ)) → ((d : ℕ) → 0 < times lists d → slot_at after d ≡ slot_at slots d) → descs_in after lists ≡ descs_in slots lists
descs_agree slots after lists same =
    descs-flat (desc_in after) lists
    ∙ map_agree (desc_in after) (desc_in slots) (flat lists)
    (λ d h. ap (λ s. record { number = number_in s; desc = d }) (same d (let e = times-flat lists d in omega (arith, e, h))))
    ∙ sym (descs-flat (desc_in slots) lists)

-- Unsent blocks that stay. --

module _ (slots : List Slot) (lists : List (List ℕ)) (listed : AreListed slots lists) where
  -- what stands in the lists is unsent
  pub listed_open : (d : ℕ) → 0 < times lists d → is_open (slot_at slots d) ≡ true
  listed_open d h = at (is_open (slot_at slots d)) refl (listed d)
    where
      at : (b : Bool) → is_open (slot_at slots d) ≡ b → times lists d ≡ cond {A = ℕ} (is_open (slot_at slots d)) 1 0 → is_open (slot_at slots d) ≡ true
      at true e t = e
      at false e t = absurd (let f = ap (λ c. cond {A = ℕ} c 1 0) e in omega (arith, h, t, f))

  pub open_once : (d : ℕ) → is_open (slot_at slots d) ≡ true → times lists d ≡ 1
  open_once d e = listed d ∙ ap (λ c. cond {A = ℕ} c 1 0) e

  pub closed_none : (d : ℕ) → is_open (slot_at slots d) ≡ false → times lists d ≡ 0
  closed_none d e = listed d ∙ ap (λ c. cond {A = ℕ} c 1 0) e

  pub once : (d : ℕ) → times lists d ≤ 1
  once d = at (is_open (slot_at slots d)) (listed d)
    where
      at : (b : Bool) → times lists d ≡ cond {A = ℕ} b 1 0 → times lists d ≤ 1
      at true t = omega (arith, t)
      at false t = omega (arith, t)

  module _ (after : List Slot) (keeps : KeepsOpen slots after) where
    pub listed_kept : AreListed after lists
    listed_kept d = at (is_open (slot_at slots d)) refl (is_open (slot_at after d)) refl
      where
        at : (b : Bool) → is_open (slot_at slots d) ≡ b → (c : Bool) → is_open (slot_at after d) ≡ c → times lists d ≡ cond {A = ℕ} (is_open (slot_at after d)) 1 0
        at true e _ f = listed d ∙ ap (λ s. cond {A = ℕ} (is_open s) 1 0) (sym (keeps.stays d e))
        at false e true f = absurd (off (is_open (slot_at slots d)) e (keeps.none_new d f))
        at false e false f = closed_none d e ∙ sym (ap (λ c. cond {A = ℕ} c 1 0) f)

    pub unsent_kept : unsent_in after lists ≡ unsent_in slots lists
    unsent_kept = unsent_agree slots after lists (λ d h. keeps.stays d (listed_open d h))

    pub descs_kept : descs_in after lists ≡ descs_in slots lists
    descs_kept = descs_agree slots after lists (λ d h. keeps.stays d (listed_open d h))

  -- Looking up. --

  module _ (own : HaveOwnNumbers slots) where
    one_of : (d e : ℕ) → is_open (slot_at slots d) ≡ true → is_open (slot_at slots e) ≡ true → number_in (slot_at slots e) ≡ number_in (slot_at slots d) → e ≡ d
    one_of d e is also same = own e d (open_live (slot_at slots e) also) (open_live (slot_at slots d) is) same

    flat_open : (d : ℕ) → 0 < times_in (flat lists) d → is_open (slot_at slots d) ≡ true
    flat_open d h = listed_open d (let e = times-flat lists d in omega (arith, e, h))

    open_flat : (d : ℕ) → is_open (slot_at slots d) ≡ true → 0 < times_in (flat lists) d
    open_flat d e = let t = open_once d e in let f = times-flat lists d in omega (arith, t, f)

    -- the descriptor of an unsent block's number is the block's
    pub desc_told : (d : ℕ) → is_open (slot_at slots d) ≡ true → desc_of (descs_in slots lists) (number_in (slot_at slots d)) ≡ d
    desc_told d is =
        ap (λ l. desc_of l (number_in (slot_at slots d))) (descs-flat (desc_in slots) lists)
        ∙ ap (λ o. option_map_or {U = ℕ} (λ (one : BufferDesc). one.desc) o 0)
        (search_found (desc_in slots) (λ (one : BufferDesc). one.number) (flat lists) d (λ e h same. one_of d e is (flat_open e h) same) (open_flat d is))

    -- if no unsent block has the number, there is none
    pub desc_none : (n : ℕ) → ((d : ℕ) → is_open (slot_at slots d) ≡ true → number_in (slot_at slots d) ≡ n → ⊥) → desc_of (descs_in slots lists) n ≡ 0
    desc_none n never =
        ap (λ l. desc_of l n) (descs-flat (desc_in slots) lists)
        ∙ ap (λ o. option_map_or {U = ℕ} (λ (one : BufferDesc). one.desc) o 0)
        (search_none (desc_in slots) (λ (one : BufferDesc). one.number) (flat lists) n (λ d h. never d (flat_open d h)))

    -- an unsent block of the number, or none has it
    pub open_or_none : (n : ℕ) → (IsMember (λ d. number_in (slot_at slots d)) (flat lists) n) ⊎ ((d : ℕ) → is_open (slot_at slots d) ≡ true → number_in (slot_at slots d) ≡ n → ⊥)
    open_or_none n = at (searched (buffer_in slots) (λ (b : Buffer). b.number) (flat lists) n)
      where
        at : (IsMember (λ d. number_in (slot_at slots d)) (flat lists) n) ⊎ ((d : ℕ) → 0 < times_in (flat lists) d → number_in (slot_at slots d) ≡ n → ⊥) →
            (IsMember (λ d. number_in (slot_at slots d)) (flat lists) n) ⊎ ((d : ℕ) → is_open (slot_at slots d) ≡ true → number_in (slot_at slots d) ≡ n → ⊥)
        at (inl m) = inl m
        at (inr never) = inr (λ d is. never d (open_flat d is))

    pub member_open : (n : ℕ) (m : IsMember (λ d. number_in (slot_at slots d)) (flat lists) n) → is_open (slot_at slots m.desc) ≡ true
    member_open n m = flat_open m.desc m.listed

    abbrev by_number : ℕ → Buffer → Bool
    by_number n b = eqb b.number n

    -- the number of an unsent block is unsent, with the size that was asked for
    pub unsent_found : (d : ℕ) → is_open (slot_at slots d) ≡ true → find (by_number (number_in (slot_at slots d))) (buffers_in (unsent_in slots lists)) ≡ Some (buffer_in slots d)
    unsent_found d is =
        ap (find (by_number (number_in (slot_at slots d)))) (buffers-flat (buffer_in slots) lists)
        ∙ search_found (buffer_in slots) (λ (b : Buffer). b.number) (flat lists) d (λ e h same. one_of d e is (flat_open e h) same) (open_flat d is)

    pub size_told : (d : ℕ) → is_open (slot_at slots d) ≡ true → size_in (unsent_in slots lists) (number_in (slot_at slots d)) ≡ asked_in (slot_at slots d)
    size_told d is = ap (λ o. option_map_or {U = ℕ} (λ (b : Buffer). b.size) o 0) (unsent_found d is)

    unsent-flat : (n : ℕ) → is_unsent (unsent_in slots lists) n ≡ is_some (find (by_number n) (map (buffer_in slots) (flat lists)))
    unsent-flat n = any-flat (by_number n) (buffer_in slots) lists ∙ any-find (by_number n) (map (buffer_in slots) (flat lists))

    pub is_unsent_here : (d : ℕ) → is_open (slot_at slots d) ≡ true → is_unsent (unsent_in slots lists) (number_in (slot_at slots d)) ≡ true
    is_unsent_here d is =
        unsent-flat (number_in (slot_at slots d))
        ∙ ap is_some (search_found (buffer_in slots) (λ (b : Buffer). b.number) (flat lists) d (λ e h same. one_of d e is (flat_open e h) same) (open_flat d is))

    pub is_unsent_none : (n : ℕ) → ((d : ℕ) → is_open (slot_at slots d) ≡ true → number_in (slot_at slots d) ≡ n → ⊥) → is_unsent (unsent_in slots lists) n ≡ false
    is_unsent_none n never =
        unsent-flat n
        ∙ ap is_some (search_none (buffer_in slots) (λ (b : Buffer). b.number) (flat lists) n (λ d h. never d (flat_open d h)))

    -- an unsent number has a block
    pub unsent_block : (n : ℕ) → is_unsent (unsent_in slots lists) n ≡ true → IsMember (λ d. number_in (slot_at slots d)) (flat lists) n
    unsent_block n is = at (open_or_none n)
      where
        at : (IsMember (λ d. number_in (slot_at slots d)) (flat lists) n) ⊎ ((d : ℕ) → is_open (slot_at slots d) ≡ true → number_in (slot_at slots d) ≡ n → ⊥) → IsMember (λ d. number_in (slot_at slots d)) (flat lists) n
        at (inl m) = m
        at (inr never) = absurd (off (is_unsent (unsent_in slots lists) n) (is_unsent_none n never) is)

    -- Of one application. --

    module _ (app : ℕ) where
      abbrev pub mine : List ℕ
      mine = get_or lists (app - 1) []

      pub mine_open : (d : ℕ) → 0 < times_in mine d → is_open (slot_at slots d) ≡ true
      mine_open d h = listed_open d (let e = times-one lists (app - 1) d in omega (arith, e, h))

      pub mine_found : (d : ℕ) → 0 < times_in mine d → unsent_at (unsent_in slots lists) app (number_in (slot_at slots d)) ≡ Some (buffer_in slots d)
      mine_found d h =
          ap (find (by_number (number_in (slot_at slots d)))) (unsent_of-lists slots lists app)
          ∙ search_found (buffer_in slots) (λ (b : Buffer). b.number) mine d (λ e l same. one_of d e (mine_open d h) (mine_open e l) same) h

      pub mine_none : (n : ℕ) → ((d : ℕ) → 0 < times_in mine d → number_in (slot_at slots d) ≡ n → ⊥) → unsent_at (unsent_in slots lists) app n ≡ None
      mine_none n never =
          ap (find (by_number n)) (unsent_of-lists slots lists app)
          ∙ search_none (buffer_in slots) (λ (b : Buffer). b.number) mine n never

      pub mine_or_none : (n : ℕ) → (IsMember (λ d. number_in (slot_at slots d)) mine n) ⊎ ((d : ℕ) → 0 < times_in mine d → number_in (slot_at slots d) ≡ n → ⊥)
      mine_or_none n = searched (buffer_in slots) (λ (b : Buffer). b.number) mine n

      -- a buffer that the application has is one of its blocks
      pub mine_block : (n : ℕ) → has_unsent (unsent_in slots lists) app n ≡ true → IsMember (λ d. number_in (slot_at slots d)) mine n
      mine_block n has = at (mine_or_none n)
        where
          at : (IsMember (λ d. number_in (slot_at slots d)) mine n) ⊎ ((d : ℕ) → 0 < times_in mine d → number_in (slot_at slots d) ≡ n → ⊥) → IsMember (λ d. number_in (slot_at slots d)) mine n
          at (inl m) = m
          at (inr never) = absurd (off (has_unsent (unsent_in slots lists) app n) (ap is_some (mine_none n never)) has)

-- The descriptor of a number stays if its unsent block does. --

module _ (slots after : List Slot) (lists lists' : List (List ℕ)) (listed : AreListed slots lists) (listed' : AreListed after lists') (own : HaveOwnNumbers slots) (own' : HaveOwnNumbers after) (n : ℕ)
    (stays : (d : ℕ) → is_open (slot_at slots d) ≡ true → number_in (slot_at slots d) ≡ n → slot_at after d ≡ slot_at slots d)
    (no_more : (d : ℕ) → is_open (slot_at after d) ≡ true → number_in (slot_at after d) ≡ n → slot_at after d ≡ slot_at slots d) where
  pub desc_same : desc_of (descs_in after lists') n ≡ desc_of (descs_in slots lists) n
  desc_same = at (open_or_none slots lists listed own n)
    where
      at : (IsMember (λ d. number_in (slot_at slots d)) (flat lists) n) ⊎ ((d : ℕ) → is_open (slot_at slots d) ≡ true → number_in (slot_at slots d) ≡ n → ⊥) →
          desc_of (descs_in after lists') n ≡ desc_of (descs_in slots lists) n
      at (inl m) =
          let is = member_open slots lists listed own n m in
          let same = stays m.desc is m.has_key in
          ap (desc_of (descs_in after lists')) (sym (ap number_in same ∙ m.has_key))
          ∙ desc_told after lists' listed' own' m.desc (ap is_open same ∙ is)
          ∙ sym (ap (desc_of (descs_in slots lists)) (sym m.has_key) ∙ desc_told slots lists listed own m.desc is)
      at (inr never) =
          desc_none after lists' listed' own' n (λ d is e. let same = no_more d is e in never d (sym (ap is_open same) ∙ is) (sym (ap number_in same) ∙ e))
          ∙ sym (desc_none slots lists listed own n never)
