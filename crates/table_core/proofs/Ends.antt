-- The end of an application: its handles leave one after another.
use Rattle.std.proofs.Common.{◌≡◌, ℕ, suc, ◌+◌, ◌-◌, ◌^◌, ◌<◌, ◌≤◌, ◌&&◌, ◌||◌, not, Bool, true, false, cond, eqb, Option, Some, None, Result, Ok, Err, IsOk, List, [], ◌∷◌, map, filter, get_or, set, find, count_by, All, refl, ap, sym, ◌∙◌, subst, arith}
use Rattle.std.specs.List.{list_any, AllPairs}
use Rattle.std.specs.Option.{option_map, option_map_or}
use Rattle.std.proofs.lemmas.Bool.Decides.{nat_tests}
use Rattle.std.proofs.lemmas.List.Elements.{All-nil, All-cons, All-head, All-tail}
use Rattle.std.proofs.lemmas.List.Sums.{sum_by-cons}
use Rattle.fsw_base.specs.Limits.{Limits}
use Rattle.tbl_words.specs.declared.statuses.TblStatus.{TblStatus}
use Rattle.tbl_words.specs.declared.statuses.TblStatus.TheVariants.{ErrInvalidHandle, ErrNoAccess}
use Rattle.tbl_words.specs.declared.calls.TblAnswer.{TblAnswer}
use Rattle.tbl_words.specs.declared.calls.TblAnswer.TheVariants.{Done}
use Rattle.tbl_words.specs.declared.history.Call.TheVariants.{Unregister, End}
use Rattle.tbl_words.specs.Tables.{Table, Handle, State, owns, has_handle}
use Rattle.tbl_words.specs.Machine.{refused_if, access_cause, without_handles, after_leave, outcome, step}
use Rattle.table_blocks.specs.Held.{HeldViews}
use Rattle.tbl_words.proofs.Leaves.{leaves_add_up}
use Rattle.table_core.specs.Answers.{done}
use Rattle.table_core.specs.Core.{Plain, Holds, MayAct}
use Rattle.table_core.proofs.Fields.{found_all}

-- Lists. --

some_is : {X : Type 0} (x y : X) → Some x ≡ Some y → x ≡ y
some_is x y same = ap (λ o. option_map_or (λ w. w) o x) same

any_of_found : {X : Type 0} (p q : X → Bool) (xs : List X) (x : X) → find p xs ≡ Some x → q x ≡ true → list_any q xs ≡ true
any_of_found p q [] x never is = absurd (cc (never))
any_of_found {X} p q (y ∷ xs) x here is = by_test (p y) (λ rest. any_of_found p q xs x rest is) here
  where
    or_yes : (b c : Bool) → c ≡ true → (b || c) ≡ true
    or_yes true c it = refl
    or_yes false c it = it

    by_test : (b : Bool) → (find p xs ≡ Some x → list_any q xs ≡ true) → cond {A = Option X} b (Some y) (find p xs) ≡ Some x → (q y || list_any q xs) ≡ true
    by_test true ih it = ap (λ b. b || list_any q xs) (ap q (some_is y x it) ∙ is)
    by_test false ih rest = or_yes (q y) (list_any q xs) (ih rest)

-- what is found passes
passes : {X : Type 0} (p : X → Bool) (xs : List X) (x : X) → find p xs ≡ Some x → p x ≡ true
passes p [] x never = absurd (cc (never))
passes {X} p (y ∷ xs) x here = by_test (p y) refl (λ rest. passes p xs x rest) here
  where
    by_test : (b : Bool) → p y ≡ b → (find p xs ≡ Some x → p x ≡ true) → cond {A = Option X} b (Some y) (find p xs) ≡ Some x → p x ≡ true
    by_test true is ih it = ap p (sym (some_is y x it)) ∙ is
    by_test false is ih rest = ih rest

-- if none is found none passes
none_passes : {X : Type 0} (p : X → Bool) (xs : List X) → find p xs ≡ None → All (λ x. p x ≡ false) xs
none_passes {X} p [] is = All-nil (λ x. p x ≡ false)
none_passes {X} p (x ∷ xs) is = by_test (p x) refl (λ rest. none_passes p xs rest) is
  where
    by_test : (b : Bool) → p x ≡ b → (find p xs ≡ None → All (λ y. p y ≡ false) xs) → cond {A = Option X} b (Some x) (find p xs) ≡ None → All (λ y. p y ≡ false) (x ∷ xs)
    by_test true it ih never = absurd (cc (never))
    by_test false it ih rest = All-cons (λ y. p y ≡ false) x xs it (ih rest)

filter_same : {X : Type 0} (p q : X → Bool) (xs : List X) → All (λ x. p x ≡ q x) xs → filter p xs ≡ filter q xs
filter_same p q [] same = refl
filter_same {X} p q (x ∷ xs) same =
    ap (λ b. cond {A = List X} b (x ∷ filter p xs) (filter p xs)) (All-head (λ y. p y ≡ q y) x xs same)
    ∙ ap (λ l. cond {A = List X} (q x) (x ∷ l) l) (filter_same p q xs (All-tail (λ y. p y ≡ q y) x xs same))

-- a count falls if one that is counted is left out
at_most_left : {X : Type 0} (p q : X → Bool) (xs : List X) → count_by p (filter q xs) ≤ count_by p xs
at_most_left p q [] = omega arith
at_most_left {X} p q (x ∷ xs) = by_test (q x) (at_most_left p q xs)
  where
    by_test : (b : Bool) → count_by p (filter q xs) ≤ count_by p xs → count_by p (cond {A = List X} b (x ∷ filter q xs) (filter q xs)) ≤ count_by p (x ∷ xs)
    by_test true ih = omega (arith, ih, sum_by-cons (λ y. cond {A = ℕ} (p y) 1 0) x (filter q xs), sum_by-cons (λ y. cond {A = ℕ} (p y) 1 0) x xs)
    by_test false ih = omega (arith, ih, sum_by-cons (λ y. cond {A = ℕ} (p y) 1 0) x xs)

fewer_left : {X : Type 0} (p q : X → Bool) (xs : List X) (x : X) → find p xs ≡ Some x → q x ≡ false → count_by p (filter q xs) + 1 ≤ count_by p xs
fewer_left p q [] x never is = absurd (cc (never))
fewer_left {X} p q (y ∷ xs) x here is = by_test (p y) refl (λ rest. fewer_left p q xs x rest is) here
  where
    skipped : (b : Bool) → b ≡ false → count_by p (cond {A = List X} b (y ∷ filter q xs) (filter q xs)) ≡ count_by p (filter q xs)
    skipped true never = absurd (cc (never))
    skipped false it = refl

    kept : (b : Bool) → p y ≡ false → count_by p (cond {A = List X} b (y ∷ filter q xs) (filter q xs)) ≡ count_by p (filter q xs)
    kept true off = omega (arith, sum_by-cons (λ z. cond {A = ℕ} (p z) 1 0) y (filter q xs), ap (λ b. cond {A = ℕ} b 1 0) off)
    kept false off = refl

    by_test : (b : Bool) → p y ≡ b → (find p xs ≡ Some x → count_by p (filter q xs) + 1 ≤ count_by p xs) → cond {A = Option X} b (Some y) (find p xs) ≡ Some x → count_by p (filter q (y ∷ xs)) + 1 ≤ count_by p (y ∷ xs)
    by_test true it ih first =
        omega (
          arith,
          skipped (q y) (ap q (some_is y x first) ∙ is),
          at_most_left p q xs,
          sum_by-cons (λ z. cond {A = ℕ} (p z) 1 0) y xs,
          ap (λ b. cond {A = ℕ} b 1 0) it,
        )
    by_test false it ih rest = omega (arith, kept (q y) it, ih rest, sum_by-cons (λ z. cond {A = ℕ} (p z) 1 0) y xs)

-- an answer that is done is no refusal
is_done : (r : Result (Unit {0}) TblStatus) → Done ≡ done r → IsOk r
is_done (Ok nothing) is = refl
is_done (Err status) never = absurd (cc (never))

-- the first handle, by its number
pub record IsFirst (s : State) (app n : ℕ) : Type 0 where
  pub h : Handle
  pub first : find (λ (k : Handle). eqb k.app app) s.handles ≡ Some h
  pub number : n ≡ h.number

pub first_is : (s : State) (app n : ℕ) → option_map (λ (k : Handle). k.number) (find (λ (k : Handle). eqb k.app app) s.handles) ≡ Some n → IsFirst s app n
first_is s app n is = by_found (find (λ (k : Handle). eqb k.app app) s.handles) refl is
  where
    by_found : (o : Option Handle) → find (λ (k : Handle). eqb k.app app) s.handles ≡ o → option_map (λ (k : Handle). k.number) o ≡ Some n → IsFirst s app n
    by_found None at never = absurd (cc (never))
    by_found (Some h) at it = record { h = h; first = at; number = sym (some_is h.number n it) }

pub none_first : (s : State) (app : ℕ) → option_map (λ (k : Handle). k.number) (find (λ (k : Handle). eqb k.app app) s.handles) ≡ None → find (λ (k : Handle). eqb k.app app) s.handles ≡ None
none_first s app is = by_found (find (λ (k : Handle). eqb k.app app) s.handles) is
  where
    by_found : (o : Option Handle) → option_map (λ (k : Handle). k.number) o ≡ None → o ≡ None
    by_found None it = refl
    by_found (Some h) never = absurd (cc (never))

-- One handle of the application leaves. --

abbrev pub of_app : ℕ → Handle → Bool
of_app app h = eqb h.app app

abbrev pub numbered : ℕ → Handle → Bool
numbered n h = eqb h.number n

module _ (s : State) (app n : ℕ) (h : Handle) (first : find (of_app app) s.handles ≡ Some h) (number : n ≡ h.number) where
  its_app : eqb h.app app ≡ true
  its_app = passes (of_app app) s.handles h first

  same_n : (m k : ℕ) → m ≡ k → eqb k m ≡ true
  same_n m k is = grind (arith, nat_tests)

  own_free : access_cause s app n None ≡ None
  own_free =
      ap (λ b. refused_if (not b) ErrInvalidHandle (refused_if (not (owns s.handles app n)) ErrNoAccess None)) (any_of_found (of_app app) (numbered n) s.handles h first (same_n n h.number number))
      ∙ ap (λ b. refused_if (not b) ErrNoAccess None)
      (any_of_found (of_app app) (λ (k : Handle). eqb k.number n && eqb k.app app) s.handles h first (ap (λ b. b && eqb h.app app) (same_n n h.number number) ∙ its_app))

  -- the call is done, and it leaves
  pub one_leaves : (limits : Limits) (r : Result (Unit {0}) TblStatus) (left : State) → step limits s app (Unregister n) ≡ (done r, left) → IsOk r × (left ≡ without_handles (numbered n) s)
  one_leaves limits r left made =
      let is : outcome limits s app (Unregister n) None ≡ (done r, left) = sym (ap (outcome limits s app (Unregister n)) own_free) ∙ made in
      (is_done r (ap (λ (x : TblAnswer × State). x.0) is), sym (ap (λ (x : TblAnswer × State). x.1) is))

  -- so what leaves with all is the same
  pub all_alike : AllPairs (λ earlier later. earlier.number < later.number) s.handles → without_handles (of_app app) (without_handles (numbered n) s) ≡ without_handles (of_app app) s
  all_alike rise =
      leaves_add_up s (numbered n) (of_app app)
      ∙ ap (λ (left : List Handle). let x : State = record s { handles = left; tables = filter (λ (t : Table). has_handle left t.number) (map (after_leave left) s.tables) } in x)
      (filter_same (λ (k : Handle). not (eqb k.number n || eqb k.app app)) (λ (k : Handle). not (eqb k.app app)) s.handles
      (λ i d within. let k = get_or s.handles i d in by_number k (eqb k.number n) refl (own_numbers s.handles rise first i d within)))
    where
      is_same : (k : Handle) → eqb k.number n ≡ true → k.number ≡ h.number
      is_same k is = grind (arith, nat_tests, number)

      by_number : (k : Handle) (b : Bool) → eqb k.number n ≡ b → (k.number ≡ h.number → k ≡ h) → not (b || eqb k.app app) ≡ not (eqb k.app app)
      by_number k true is the = sym (ap not (ap (of_app app) (the (is_same k is)) ∙ its_app))
      by_number k false is the = refl

      own_numbers : (hs : List Handle) → AllPairs (λ earlier later. earlier.number < later.number) hs → find (of_app app) hs ≡ Some h → All (λ (k : Handle). k.number ≡ h.number → k ≡ h) hs
      own_numbers [] rise never = absurd (cc (never))
      own_numbers (k ∷ hs) rise here = by_test (eqb k.app app) (λ rest. own_numbers hs (λ i j d lt inside. rise (suc i) (suc j) d (omega (arith, lt)) (omega (arith, inside))) rest) here
        where
          later : All (λ (x : Handle). k.number < x.number) hs
          later i d inside = rise 0 (suc i) d (omega arith) (omega (arith, inside))

          by_test : (b : Bool) → (find (of_app app) hs ≡ Some h → All (λ (x : Handle). x.number ≡ h.number → x ≡ h) hs) → cond {A = Option Handle} b (Some k) (find (of_app app) hs) ≡ Some h → All (λ (x : Handle). x.number ≡ h.number → x ≡ h) (k ∷ hs)
          by_test true ih it =
              All-cons (λ (x : Handle). x.number ≡ h.number → x ≡ h) k hs (λ is. some_is k h it)
              (λ i d inside is. absurd (omega (arith, is, later i d inside, ap (λ (x : Handle). x.number) (some_is k h it))))
          by_test false ih rest =
              All-cons (λ (x : Handle). x.number ≡ h.number → x ≡ h) k hs (λ is. absurd (omega (arith, is, found_all (λ (x : Handle). k.number < x.number) (of_app app) hs h later rest))) (ih rest)

  pub one_fewer : count_by (of_app app) (without_handles (numbered n) s).handles + 1 ≤ count_by (of_app app) s.handles
  one_fewer = fewer_left (of_app app) (λ (k : Handle). not (eqb k.number n)) s.handles h first (ap not (same_n n h.number number))

-- and if none is left, all have left
pub none_of_app : (s : State) (app : ℕ) → find (of_app app) s.handles ≡ None → without_handles (λ h. false) s ≡ s → without_handles (of_app app) s ≡ s
none_of_app s app none still =
    ap (λ (left : List Handle). let x : State = record s { handles = left; tables = filter (λ (t : Table). has_handle left t.number) (map (after_leave left) s.tables) } in x)
    (filter_same (λ (k : Handle). not (eqb k.app app)) (λ (k : Handle). true) s.handles (λ i d within. ap not (none_passes (of_app app) s.handles none i d within)))
    ∙ still

-- the application may still act
pub still_may : (old new : Plain) (app n : ℕ) → new.state ≡ without_handles (numbered n) old.state → MayAct old app End → MayAct new app End
still_may old new app n is may =
    subst (λ (s : State). let p : Plain = record new { state = s } in MayAct p app End) (sym is) (record { standing = may.standing; within = may.within })

pub may_leave : (core : Plain) (app n : ℕ) → MayAct core app End → MayAct core app (Unregister n)
may_leave core app n may = record { standing = may.standing; within = may.within }

-- then it has ended
pub end_made : (limits : Limits) (s left final : State) (app i : ℕ) → left ≡ without_handles (of_app app) s → i ≡ app → final ≡ record left { ended = set left.ended (i - 1) true } → step limits s app End ≡ (Done, final)
end_made limits s left final app i is same now =
    ap (λ (x : State). (Done, x))
    (sym (now
    ∙ ap (λ k. let x : State = record left { ended = set left.ended (k - 1) true } in x) same
    ∙ ap (λ (y : State). let x : State = record y { ended = set y.ended (app - 1) true } in x) is))

-- and what is held goes by the handles and their loans alone
pub ended_holds : (core : Plain) (ended : List Bool) (app : ℕ) (bag : HeldViews) → Holds core app bag → Holds (record core { state = record core.state { ended = ended } }) app bag
ended_holds core ended app bag holds = record { seen = holds.seen; counted = holds.counted; room = holds.room }
