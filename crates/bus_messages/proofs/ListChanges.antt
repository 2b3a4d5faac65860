-- Lists of descriptors to which one is added, or from which one is taken, and what the applications' bags are to have then.
use Rattle.std.proofs.Common.{◌≡◌, ℕ, ◌+◌, ◌-◌, ◌<◌, ◌≤◌, ◌⊎◌, inl, inr, Bool, true, false, not, cond, eqb, List, [], ◌∷◌, length, get_or, set, map, filter, Option, Some, None, refl, ap, sym, ◌∙◌, subst, arith}
use Rattle.std.specs.Option.{option_map}
use Rattle.std.proofs.lemmas.Bool.{cases_eq}
use Rattle.std.proofs.lemmas.Bool.Decides.{nat_tests}
use Rattle.std.proofs.lemmas.Grind.{get_or-set_at}
use Rattle.std.proofs.lemmas.List.{get_or-set_other, map-set}
use Rattle.std.proofs.lemmas.List.Sums.{sum_by-cons}
use Rattle.fsw_base.proofs.Lists.{filter-map}
use Rattle.lend_block.specs.Loan.{LentBytes}
use Rattle.bucket_list.specs.Lists.{times, times_in}
use Rattle.zero_copy.specs.Held.{without}
use Rattle.zero_copy.proofs.Links.{times_without, in_cases, first_in, behind_in}
use Rattle.buf_desc.specs.Block.{Unsent as UnsentBlock}
use Rattle.buf_desc.specs.Fronts.{overwritten, with_bytes}
use Rattle.buf_desc.specs.Held.{Holding, buffer_at, with_bytes_at}
use Rattle.buf_desc.specs.Slots.{slot_at, is_open, number_in, asked_in, HaveOwnNumbers}
use Rattle.buf_desc.specs.declared.slot.Slot.{Slot}
use Rattle.bus_words.specs.Bus.{Buffer, unsent_of, with_unsent, without_unsent}
use Rattle.bus_messages.specs.Bag.{Shape, shape_of, buffer_due, HoldsBuffers}
use Rattle.bus_messages.specs.Store.{BufferDesc}
use Rattle.bus_messages.specs.Words.{desc_of, size_for}
use Rattle.bus_messages.specs.Inside.{buffer_in, unsent_in, descs_in, AreListed}
use Rattle.bus_messages.proofs.BufferLists.{IsMember, eqb_off, times-one, times-set, unsent_of-lists, unsent_agree, listed_open, open_once, closed_none, desc_told, mine_open, mine_found, mine_none, mine_or_none, desc_same}
use Rattle.bus_messages.proofs.Ties.{open_live}

off : (b : Bool) → b ≡ false → b ≡ true → ⊥
off b x y = cc

eqb_same : (n : ℕ) → eqb n n ≡ true
eqb_same n = grind (arith, nat_tests)

abbrev pub list_of : List (List ℕ) → ℕ → List ℕ
list_of lists app = get_or lists (app - 1) []

-- the lists keep their other places
pub other_list : (lists : List (List ℕ)) (app other : ℕ) (ds : List ℕ) → 1 ≤ app → 1 ≤ other → (other ≡ app → ⊥) → list_of (set lists (app - 1) ds) other ≡ list_of lists other
other_list lists app other ds one also apart = get_or-set_other lists (app - 1) (other - 1) ds [] (λ e. apart (omega (arith, e, one, also)))

pub same_list : (lists : List (List ℕ)) (app : ℕ) (ds : List ℕ) → app - 1 < length lists → list_of (set lists (app - 1) ds) app ≡ ds
same_list lists app ds h = get_or-set_at lists (app - 1) (app - 1) ds [] refl h

-- What is due. --

-- of a block that the application has
module _ (slots : List Slot) (lists : List (List ℕ)) (listed : AreListed slots lists) (own : HaveOwnNumbers slots) (sizes : List ℕ) (app : ℕ) where
  pub due_found : (d : ℕ) → 0 < times_in (list_of lists app) d →
      buffer_due (unsent_in slots lists) (descs_in slots lists) sizes app (number_in (slot_at slots d))
      ≡ Some (record { desc = d; size = size_for sizes (asked_in (slot_at slots d)); asked = asked_in (slot_at slots d) })
  due_found d h =
      ap (option_map (λ (b : Buffer). shape (desc_of (descs_in slots lists) (number_in (slot_at slots d))) b)) (mine_found slots lists listed own app d h)
      ∙ ap (λ n. Some (shape n (buffer_in slots d))) (desc_told slots lists listed own d (mine_open slots lists listed own app d h))
    where
      shape : ℕ → Buffer → Shape
      shape n b = record { desc = n; size = size_for sizes b.size; asked = b.size }

  pub due_none : (n : ℕ) → ((d : ℕ) → 0 < times_in (list_of lists app) d → number_in (slot_at slots d) ≡ n → ⊥) → buffer_due (unsent_in slots lists) (descs_in slots lists) sizes app n ≡ None
  due_none n never = ap (option_map (λ (b : Buffer). shape (desc_of (descs_in slots lists) n) b)) (mine_none slots lists listed own app n never)
    where
      shape : ℕ → Buffer → Shape
      shape k b = record { desc = k; size = size_for sizes b.size; asked = b.size }

-- if the application has the same block of the number, or none as before, the same is due
pub record HasStill (slots after : List Slot) (ds ds' : List ℕ) (n : ℕ) : Type 0 where
  pub there : (e : ℕ) → 0 < times_in ds e → number_in (slot_at slots e) ≡ n → 0 < times_in ds' e
  pub same : (e : ℕ) → 0 < times_in ds e → number_in (slot_at slots e) ≡ n → slot_at after e ≡ slot_at slots e
  pub back : (e : ℕ) → 0 < times_in ds' e → number_in (slot_at after e) ≡ n → 0 < times_in ds e
  pub back_same : (e : ℕ) → 0 < times_in ds' e → number_in (slot_at after e) ≡ n → slot_at after e ≡ slot_at slots e

pub due_still : (slots after : List Slot) (lists lists' : List (List ℕ)) (sizes : List ℕ) (app n : ℕ) → AreListed slots lists → AreListed after lists' → HaveOwnNumbers slots → HaveOwnNumbers after →
    HasStill slots after (list_of lists app) (list_of lists' app) n →
    buffer_due (unsent_in after lists') (descs_in after lists') sizes app n ≡ buffer_due (unsent_in slots lists) (descs_in slots lists) sizes app n
due_still slots after lists lists' sizes app n listed listed' own own' still = at (mine_or_none slots lists listed own app n)
  where
    new : ℕ → Option Shape
    new k = buffer_due (unsent_in after lists') (descs_in after lists') sizes app k

    old : ℕ → Option Shape
    old k = buffer_due (unsent_in slots lists) (descs_in slots lists) sizes app k

    at : (IsMember (λ d. number_in (slot_at slots d)) (list_of lists app) n) ⊎ ((d : ℕ) → 0 < times_in (list_of lists app) d → number_in (slot_at slots d) ≡ n → ⊥) → new n ≡ old n
    at (inl m) =
        let same = still.same m.desc m.listed m.has_key in
        ap new (sym (ap number_in same ∙ m.has_key))
        ∙ due_found after lists' listed' own' sizes app m.desc (still.there m.desc m.listed m.has_key)
        ∙ ap (λ s. Some (let v : Shape = record { desc = m.desc; size = size_for sizes (asked_in s); asked = asked_in s } in v)) same
        ∙ sym (ap old (sym m.has_key) ∙ due_found slots lists listed own sizes app m.desc m.listed)
    at (inr never) =
        due_none after lists' listed' own' sizes app n
        (λ e h k. never e (still.back e h k) (sym (ap number_in (still.back_same e h k)) ∙ k))
        ∙ sym (due_none slots lists listed own sizes app n never)

-- A descriptor is added. --

module _ (slots after : List Slot) (lists : List (List ℕ)) (app d : ℕ) (listed : AreListed slots lists) (here : app - 1 < length lists)
    (fresh : is_open (slot_at slots d) ≡ false) (is : is_open (slot_at after d) ≡ true) (others : (e : ℕ) → (d ≡ e → ⊥) → slot_at after e ≡ slot_at slots e) where
  abbrev pub more : List (List ℕ)
  more = set lists (app - 1) (d ∷ list_of lists app)

  -- what stands in the lists is another
  apart_more : (e : ℕ) → 0 < times lists e → d ≡ e → ⊥
  apart_more e h same = off (is_open (slot_at slots d)) fresh (ap (λ x. is_open (slot_at slots x)) same ∙ listed_open slots lists listed e h)

  pub still_more : (e : ℕ) → 0 < times lists e → slot_at after e ≡ slot_at slots e
  still_more e h = others e (apart_more e h)

  times-more : (e : ℕ) → times more e ≡ times lists e + cond {A = ℕ} (eqb d e) 1 0
  times-more e =
      let one = times-set lists (app - 1) (d ∷ list_of lists app) e here in
      let two = sum_by-cons (λ n. cond {A = ℕ} (eqb n e) 1 0) d (list_of lists app) in
      omega (arith, one, two)

  pub listed_more : AreListed after more
  listed_more e = at (cases_eq d e)
    where
      at : (d ≡ e) ⊎ (d ≡ e → ⊥) → times more e ≡ cond {A = ℕ} (is_open (slot_at after e)) 1 0
      at (inl same) =
          subst (λ x. times more x ≡ cond {A = ℕ} (is_open (slot_at after x)) 1 0) same
          (let sum = times-more d in
          let one = ap (λ b. cond {A = ℕ} b 1 0) (eqb_same d) in
          let none = closed_none slots lists listed d fresh in
          omega (arith, sum, one, none) ∙ sym (ap (λ b. cond {A = ℕ} b 1 0) is))
      at (inr apart) =
          let sum = times-more e in
          let zero = ap (λ b. cond {A = ℕ} b 1 0) (eqb_off d e apart) in
          omega (arith, sum, zero) ∙ listed e ∙ ap (λ s. cond {A = ℕ} (is_open s) 1 0) (sym (others e apart))

  pub unsent_more : unsent_in after more ≡ with_unsent (unsent_in slots lists) app (buffer_in after d)
  unsent_more =
      map-set (map (buffer_in after)) lists (app - 1) (d ∷ list_of lists app)
      ∙ ap (λ (l : List (List Buffer)). set l (app - 1) (buffer_in after d ∷ map (buffer_in after) (list_of lists app))) (unsent_agree slots after lists still_more)
      ∙ ap (λ (l : List Buffer). set (unsent_in slots lists) (app - 1) (buffer_in after d ∷ l))
      (sym (unsent_of-lists after lists app) ∙ ap (λ (l : List (List Buffer)). unsent_of l app) (unsent_agree slots after lists still_more))

  module _ (own : HaveOwnNumbers slots) (own' : HaveOwnNumbers after) (sizes : List ℕ) (one : 1 ≤ app) where
    pub desc_more : (n : ℕ) → (number_in (slot_at after d) ≡ n → ⊥) → desc_of (descs_in after more) n ≡ desc_of (descs_in slots lists) n
    desc_more n apart =
        desc_same slots after lists more listed listed_more own own' n
        (λ e o k. others e (λ same. off (is_open (slot_at slots d)) fresh (ap (λ x. is_open (slot_at slots x)) same ∙ o)))
        (λ e o k. others e (λ same. apart (ap (λ x. number_in (slot_at after x)) same ∙ k)))

    pub others_more : (other : ℕ) (bag : Holding LentBytes) → (other ≡ app → ⊥) → HoldsBuffers (unsent_in slots lists) (descs_in slots lists) sizes other bag → HoldsBuffers (unsent_in after more) (descs_in after more) sizes other bag
    others_more other bag apart holds =
        let place = other_list lists app other (d ∷ list_of lists app) one holds.known apart in
        record {
          known = holds.known;
          due = λ n. holds.due n ∙ sym (due_still slots after lists more sizes other n listed listed_more own own' (record {
            there = λ e h k. subst (λ (l : List ℕ). 0 < times_in l e) (sym place) h;
            same = λ e h k. still_more e (let t = times-one lists (other - 1) e in omega (arith, h, t));
            back = λ e h k. subst (λ (l : List ℕ). 0 < times_in l e) place h;
            back_same = λ e h k. still_more e (let g = subst (λ (l : List ℕ). 0 < times_in l e) place h in let t = times-one lists (other - 1) e in omega (arith, g, t));
          }));
        }

    pub bag_more : (old new : Holding LentBytes) (block : UnsentBlock) → HoldsBuffers (unsent_in slots lists) (descs_in slots lists) sizes app old →
        ((n : ℕ) → buffer_at new n ≡ cond {A = Option UnsentBlock} (eqb (number_in (slot_at after d)) n) (Some block) (buffer_at old n)) →
        shape_of block ≡ record { desc = d; size = size_for sizes (asked_in (slot_at after d)); asked = asked_in (slot_at after d) } →
        HoldsBuffers (unsent_in after more) (descs_in after more) sizes app new
    bag_more old new block holds put shaped = record { known = one; due = λ n. at n (cases_eq (number_in (slot_at after d)) n) }
      where
        place : list_of more app ≡ d ∷ list_of lists app
        place = same_list lists app (d ∷ list_of lists app) here

        at : (n : ℕ) → (number_in (slot_at after d) ≡ n) ⊎ (number_in (slot_at after d) ≡ n → ⊥) → option_map shape_of (buffer_at new n) ≡ buffer_due (unsent_in after more) (descs_in after more) sizes app n
        at n (inl same) =
            subst (λ k. option_map shape_of (buffer_at new k) ≡ buffer_due (unsent_in after more) (descs_in after more) sizes app k) same
            (ap (option_map shape_of) (put (number_in (slot_at after d)) ∙ ap (λ b. cond {A = Option UnsentBlock} b (Some block) (buffer_at old (number_in (slot_at after d)))) (eqb_same (number_in (slot_at after d))))
            ∙ ap Some shaped
            ∙ sym (due_found after more listed_more own' sizes app d (subst (λ (l : List ℕ). 0 < times_in l d) (sym place) (first_in d (list_of lists app)))))
        at n (inr apart) =
            ap (option_map shape_of) (put n ∙ ap (λ b. cond {A = Option UnsentBlock} b (Some block) (buffer_at old n)) (eqb_off (number_in (slot_at after d)) n apart))
            ∙ holds.due n
            ∙ sym (due_still slots after lists more sizes app n listed listed_more own own' (record {
              there = λ e h k. subst (λ (l : List ℕ). 0 < times_in l e) (sym place) (behind_in d (list_of lists app) e h);
              same = λ e h k. still_more e (let t = times-one lists (app - 1) e in omega (arith, h, t));
              back = λ e h k. mine e k (in_cases d (list_of lists app) e (subst (λ (l : List ℕ). 0 < times_in l e) place h));
              back_same = λ e h k. still_more e (let g = mine e k (in_cases d (list_of lists app) e (subst (λ (l : List ℕ). 0 < times_in l e) place h)) in let t = times-one lists (app - 1) e in omega (arith, g, t));
            }))
          where
            mine : (e : ℕ) → number_in (slot_at after e) ≡ n → (e ≡ d) ⊎ ((e ≡ d → ⊥) × (0 < times_in (list_of lists app) e)) → 0 < times_in (list_of lists app) e
            mine e k (inl same) = absurd (apart (ap (λ x. number_in (slot_at after x)) (sym same) ∙ k))
            mine e k (inr other) = other.1

-- A descriptor is taken. --

filter_agree : (p q : ℕ → Bool) (ds : List ℕ) → ((d : ℕ) → 0 < times_in ds d → p d ≡ q d) → filter p ds ≡ filter q ds
filter_agree p q [] same = refl
filter_agree p q (d ∷ ds) same =
    ap (λ b. cond {A = List ℕ} b (d ∷ filter p ds) (filter p ds)) (same d (first_in d ds))
    ∙ ap (λ (l : List ℕ). cond {A = List ℕ} (q d) (d ∷ l) l) (filter_agree p q ds (λ e h. same e (behind_in d ds e h)))

module _ (slots after : List Slot) (lists : List (List ℕ)) (app d : ℕ) (listed : AreListed slots lists) (own : HaveOwnNumbers slots) (own' : HaveOwnNumbers after)
    (here : app - 1 < length lists) (mine : 0 < times_in (list_of lists app) d)
    (closed : is_open (slot_at after d) ≡ false) (others : (e : ℕ) → (d ≡ e → ⊥) → slot_at after e ≡ slot_at slots e) where
  abbrev pub fewer : List (List ℕ)
  fewer = set lists (app - 1) (without d (list_of lists app))

  was_open : is_open (slot_at slots d) ≡ true
  was_open = mine_open slots lists listed own app d mine

  times-fewer : (e : ℕ) → times fewer e + cond {A = ℕ} (eqb d e) (times_in (list_of lists app) e) 0 ≡ times lists e
  times-fewer e =
      let one = times-set lists (app - 1) (without d (list_of lists app)) e here in
      let two = times_without d (list_of lists app) e in
      omega (arith, one, two)

  pub listed_fewer : AreListed after fewer
  listed_fewer e = at (cases_eq d e)
    where
      at : (d ≡ e) ⊎ (d ≡ e → ⊥) → times fewer e ≡ cond {A = ℕ} (is_open (slot_at after e)) 1 0
      at (inl same) =
          subst (λ x. times fewer x ≡ cond {A = ℕ} (is_open (slot_at after x)) 1 0) same
          (let sum = times-fewer d in
          let all = ap (λ b. cond {A = ℕ} b (times_in (list_of lists app) d) 0) (eqb_same d) in
          let once = open_once slots lists listed d was_open in
          omega (arith, sum, all, once, mine) ∙ sym (ap (λ b. cond {A = ℕ} b 1 0) closed))
      at (inr apart) =
          let sum = times-fewer e in
          let none = ap (λ b. cond {A = ℕ} b (times_in (list_of lists app) e) 0) (eqb_off d e apart) in
          omega (arith, sum, none) ∙ listed e ∙ ap (λ s. cond {A = ℕ} (is_open s) 1 0) (sym (others e apart))

  pub still_fewer : (e : ℕ) → 0 < times fewer e → slot_at after e ≡ slot_at slots e
  still_fewer e h = others e (λ same. off (is_open (slot_at after d)) closed (ap (λ x. is_open (slot_at after x)) same ∙ listed_open after fewer listed_fewer e h))

  abbrev number : ℕ
  number = number_in (slot_at slots d)

  tests_agree : (e : ℕ) → 0 < times_in (list_of lists app) e → not (eqb (number_in (slot_at slots e)) number) ≡ not (eqb e d)
  tests_agree e h = at (cases_eq e d)
    where
      at : (e ≡ d) ⊎ (e ≡ d → ⊥) → not (eqb (number_in (slot_at slots e)) number) ≡ not (eqb e d)
      at (inl same) =
          ap (λ x. not (eqb (number_in (slot_at slots x)) number)) same ∙ ap not (eqb_same number)
          ∙ sym (ap (λ x. not (eqb x d)) same ∙ ap not (eqb_same d))
      at (inr apart) =
          ap not (eqb_off (number_in (slot_at slots e)) number
          (λ same. apart (own e d (open_live (slot_at slots e) (mine_open slots lists listed own app e h)) (open_live (slot_at slots d) was_open) same)))
          ∙ sym (ap not (eqb_off e d apart))

  pub unsent_fewer : unsent_in after fewer ≡ without_unsent (unsent_in slots lists) app number
  unsent_fewer =
      unsent_agree slots after fewer still_fewer
      ∙ map-set (map (buffer_in slots)) lists (app - 1) (without d (list_of lists app))
      ∙ ap (λ (l : List Buffer). set (unsent_in slots lists) (app - 1) l)
      (ap (map (buffer_in slots)) (sym (filter_agree (λ e. not (eqb (number_in (slot_at slots e)) number)) (λ e. not (eqb e d)) (list_of lists app) tests_agree))
      ∙ sym (filter-map (λ (b : Buffer). not (eqb b.number number)) (buffer_in slots) (list_of lists app))
      ∙ ap (filter (λ (b : Buffer). not (eqb b.number number))) (sym (unsent_of-lists slots lists app)))

  pub desc_fewer : (n : ℕ) → (number ≡ n → ⊥) → desc_of (descs_in after fewer) n ≡ desc_of (descs_in slots lists) n
  desc_fewer n apart =
      desc_same slots after lists fewer listed listed_fewer own own' n
      (λ e o k. others e (λ same. apart (ap (λ x. number_in (slot_at slots x)) same ∙ k)))
      (λ e o k. others e (λ same. off (is_open (slot_at after d)) closed (ap (λ x. is_open (slot_at after x)) same ∙ o)))

  module _ (sizes : List ℕ) (one : 1 ≤ app) where
    pub others_fewer : (other : ℕ) (bag : Holding LentBytes) → (other ≡ app → ⊥) → HoldsBuffers (unsent_in slots lists) (descs_in slots lists) sizes other bag → HoldsBuffers (unsent_in after fewer) (descs_in after fewer) sizes other bag
    others_fewer other bag apart holds =
        let place = other_list lists app other (without d (list_of lists app)) one holds.known apart in
        let still : (e : ℕ) → 0 < times_in (list_of fewer other) e → slot_at after e ≡ slot_at slots e = λ e h. still_fewer e (let t = times-one fewer (other - 1) e in omega (arith, h, t)) in
        record {
          known = holds.known;
          due = λ n. holds.due n ∙ sym (due_still slots after lists fewer sizes other n listed listed_fewer own own' (record {
            there = λ e h k. subst (λ (l : List ℕ). 0 < times_in l e) (sym place) h;
            same = λ e h k. still e (subst (λ (l : List ℕ). 0 < times_in l e) (sym place) h);
            back = λ e h k. subst (λ (l : List ℕ). 0 < times_in l e) place h;
            back_same = λ e h k. still e h;
          }));
        }

    pub bag_fewer : (old new : Holding LentBytes) → HoldsBuffers (unsent_in slots lists) (descs_in slots lists) sizes app old →
        ((n : ℕ) → buffer_at new n ≡ cond {A = Option UnsentBlock} (eqb number n) None (buffer_at old n)) →
        HoldsBuffers (unsent_in after fewer) (descs_in after fewer) sizes app new
    bag_fewer old new holds took = record { known = one; due = λ n. at n (cases_eq number n) }
      where
        place : list_of fewer app ≡ without d (list_of lists app)
        place = same_list lists app (without d (list_of lists app)) here

        still : (e : ℕ) → 0 < times_in (list_of fewer app) e → slot_at after e ≡ slot_at slots e
        still e h = still_fewer e (let t = times-one fewer (app - 1) e in omega (arith, h, t))

        left : (e : ℕ) → 0 < times_in (list_of fewer app) e → (0 < times_in (list_of lists app) e) × (d ≡ e → ⊥)
        left e h =
            let g : 0 < times_in (without d (list_of lists app)) e = subst (λ (l : List ℕ). 0 < times_in l e) place h in
            let t = times_without d (list_of lists app) e in
            (omega (arith, g, t), λ same. let all = ap (λ b. cond {A = ℕ} b (times_in (list_of lists app) e) 0) (ap (eqb d) (sym same) ∙ eqb_same d) in absurd (omega (arith, g, t, all)))

        kept : (e : ℕ) → 0 < times_in (list_of lists app) e → (d ≡ e → ⊥) → 0 < times_in (list_of fewer app) e
        kept e h apart =
            let t = times_without d (list_of lists app) e in
            let none = ap (λ b. cond {A = ℕ} b (times_in (list_of lists app) e) 0) (eqb_off d e apart) in
            subst (λ (l : List ℕ). 0 < times_in l e) (sym place) (omega (arith, t, none, h))

        at : (n : ℕ) → (number ≡ n) ⊎ (number ≡ n → ⊥) → option_map shape_of (buffer_at new n) ≡ buffer_due (unsent_in after fewer) (descs_in after fewer) sizes app n
        at n (inl same) =
            ap (option_map shape_of) (took n ∙ ap (λ b. cond {A = Option UnsentBlock} b None (buffer_at old n)) (ap (eqb number) (sym same) ∙ eqb_same number))
            ∙ sym (due_none after fewer listed_fewer own' sizes app n
            (λ e h k.
            let l = left e h in
            l.1 (sym (own e d (open_live (slot_at slots e) (mine_open slots lists listed own app e l.0)) (open_live (slot_at slots d) was_open) (sym (ap number_in (still e h)) ∙ k ∙ sym same)))))
        at n (inr apart) =
            ap (option_map shape_of) (took n ∙ ap (λ b. cond {A = Option UnsentBlock} b None (buffer_at old n)) (eqb_off number n apart))
            ∙ holds.due n
            ∙ sym (due_still slots after lists fewer sizes app n listed listed_fewer own own' (record {
              there = λ e h k. kept e h (λ same. apart (ap (λ x. number_in (slot_at slots x)) same ∙ k));
              same = λ e h k. others e (λ same. apart (ap (λ x. number_in (slot_at slots x)) same ∙ k));
              back = λ e h k. (left e h).0;
              back_same = λ e h k. still e h;
            }))

-- Bytes that are written. --

pub still_written : (unsent : List (List Buffer)) (descs : List BufferDesc) (sizes : List ℕ) (app number : ℕ) (bag : Holding LentBytes) (w : List ℕ) →
    ((other : ℕ) → buffer_at (with_bytes_at bag number w) other ≡ cond {A = Option UnsentBlock} (eqb number other) (option_map (λ (b : UnsentBlock). with_bytes b w) (buffer_at bag other)) (buffer_at bag other)) →
    ((bytes w' : List ℕ) → length (overwritten bytes w') ≡ length bytes) →
    HoldsBuffers unsent descs sizes app bag → HoldsBuffers unsent descs sizes app (with_bytes_at bag number w)
still_written unsent descs sizes app number bag w seen long holds = record {
  known = holds.known;
  due = λ n. ap (option_map shape_of) (seen n) ∙ by_test (eqb number n) (buffer_at bag n) ∙ holds.due n;
}
  where
    by_test : (b : Bool) (o : Option UnsentBlock) → option_map shape_of (cond {A = Option UnsentBlock} b (option_map (λ (x : UnsentBlock). with_bytes x w) o) o) ≡ option_map shape_of o
    by_test true None = refl
    by_test true (Some x) = ap (λ n. Some (let v : Shape = record { desc = x.desc; size = x.size; asked = n } in v)) (long x.bytes w)
    by_test false o = refl
