-- What is due to an application in its bag, by its handles and the loans of what they hold.
use Rattle.std.proofs.Common.{◌≡◌, ℕ, ◌+◌, ◌<◌, ◌&&◌, Bool, true, false, cond, true≢false, eqb, eqb-true, List, [], ◌∷◌, length, map, find, count_by, All, Option, Some, None, is_some, refl, ap, sym, ◌∙◌, subst, arith}
use Rattle.std.specs.Option.{option_map, option_map_or, option_and_then}
use Rattle.std.proofs.lemmas.Bool.Decides.{nat_tests}
use Rattle.std.proofs.lemmas.List.Elements.{All-head, All-tail}
use Rattle.std.proofs.lemmas.List.Sums.{sum_by-cons}
use Rattle.lend_block.specs.Loan.{LentBytes}
use Rattle.tbl_words.specs.Holds.{hold_of}
use Rattle.tbl_words.specs.Tables.{Handle, Hold, handle_at}
use Rattle.table_blocks.specs.Held.{HeldViews}
use Rattle.table_core.specs.Core.{Lent, Plain, Holds, loan_of, view_of, view_due}
use Rattle.tbl_load.proofs.OwnHandles.{Rise, owned, rise-head, rise-tail}

-- the view of what is held, lent by this loan
abbrev pub viewed : ℕ → Option Hold → Option LentBytes
viewed loan hold = option_map (λ (h : Hold). let view : LentBytes = record { loan = loan; bytes = h.value } in view) hold

-- the view that is due for the handle that was found, by these loans
abbrev pub due_by : (ℕ → ℕ) → ℕ → Option Handle → Option LentBytes
due_by loans app found = option_and_then (λ (h : Handle). cond {A = Option LentBytes} (eqb h.app app) (viewed (loans h.number) h.hold) None) found

-- the handle that a number finds has it
pub found_number : (handles : List Handle) (n : ℕ) (h : Handle) → handle_at handles n ≡ Some h → h.number ≡ n
found_number [] n h never = absurd (cc (never))
found_number (k ∷ handles) n h here = by_test (eqb k.number n) refl (found_number handles n h) here
  where
    some_is : Some k ≡ Some h → k ≡ h
    some_is same = ap (λ o. option_map_or (λ (w : Handle). w) o k) same

    by_test : (b : Bool) → eqb k.number n ≡ b → (handle_at handles n ≡ Some h → h.number ≡ n) → cond {A = Option Handle} b (Some k) (handle_at handles n) ≡ Some h → h.number ≡ n
    by_test true same ih it = sym (ap (λ (w : Handle). w.number) (some_is it)) ∙ eqb-true k.number n same
    by_test false other ih rest = ih rest

viewed-alike : (loan other : ℕ) (hold : Option Hold) → (is_some hold ≡ true → loan ≡ other) → viewed loan hold ≡ viewed other hold
viewed-alike loan other None same = refl
viewed-alike loan other (Some h) same = ap (λ n. viewed n (Some h)) (same refl)

module _ (first second : ℕ → ℕ) (app : ℕ) (handles : List Handle) (same : (n : ℕ) → is_some (hold_of handles n) ≡ true → first n ≡ second n) where
  -- loans that are the same if something is held make the same due
  pub due_alike : (n : ℕ) → due_by first app (handle_at handles n) ≡ due_by second app (handle_at handles n)
  due_alike n = by_found (handle_at handles n) refl
    where
      by_found : (o : Option Handle) → handle_at handles n ≡ o → due_by first app o ≡ due_by second app o
      by_found None at = refl
      by_found (Some h) at =
          ap (λ v. cond {A = Option LentBytes} (eqb h.app app) v None)
          (viewed-alike (first h.number) (second h.number) h.hold
          (λ some. same h.number (ap (λ m. is_some (hold_of handles m)) (found_number handles n h at) ∙ ap (λ (o : Option Handle). is_some (option_and_then (λ (k : Handle). k.hold) o)) at ∙ some)))

-- loans told handle by handle
pub told_each : (f : ℕ → ℕ) (handles : List Handle) (n : ℕ) → is_some (hold_of handles n) ≡ true → loan_of (map (λ (h : Handle). let one : Lent = record { handle = h.number; loan = f h.number } in one) handles) n ≡ f n
told_each f [] n never = absurd (true≢false (sym never))
told_each f (h ∷ handles) n some = by_test (eqb h.number n) refl (told_each f handles n) some
  where
    told : List Lent
    told = map (λ (k : Handle). let one : Lent = record { handle = k.number; loan = f k.number } in one) handles

    by_test : (b : Bool) → eqb h.number n ≡ b → (is_some (hold_of handles n) ≡ true → loan_of told n ≡ f n) →
        is_some (option_and_then (λ (k : Handle). k.hold) (cond {A = Option Handle} b (Some h) (handle_at handles n))) ≡ true →
        option_map_or {U = ℕ} (λ (one : Lent). one.loan) (cond {A = Option Lent} b (Some (record { handle = h.number; loan = f h.number })) (find (λ (one : Lent). eqb one.handle n) told)) 0 ≡ f n
    by_test true is ih some = ap f (eqb-true h.number n is)
    by_test false is ih some = ih some

-- By the application's own handles. --

-- the view that is due for the one of them that was found
abbrev pub due_of : (ℕ → ℕ) → Option (ℕ × Option Hold) → Option LentBytes
due_of loans found = option_and_then (λ (k : ℕ × Option Hold). viewed (loans k.0) k.1) found

absent : (app : ℕ) (handles : List Handle) (n : ℕ) → All (λ (h : Handle). n < h.number) handles → find (λ k. eqb k.0 n) (owned app handles) ≡ None
absent app [] n above = refl
absent app (h ∷ handles) n above =
    by_app (eqb h.app app) (unlike h.number n (All-head (λ (k : Handle). n < k.number) h handles above)) (absent app handles n (All-tail (λ (k : Handle). n < k.number) h handles above))
  where
    unlike : (m n : ℕ) → n < m → eqb m n ≡ false
    unlike m n less = grind (arith, nat_tests)

    by_app : (b : Bool) → eqb h.number n ≡ false → find (λ k. eqb k.0 n) (owned app handles) ≡ None → find (λ k. eqb k.0 n) (cond {A = List (ℕ × Option Hold)} b ((h.number, h.hold) ∷ owned app handles) (owned app handles)) ≡ None
    by_app true other ih = ap (λ b. cond {A = Option (ℕ × Option Hold)} b (Some (h.number, h.hold)) (find (λ k. eqb k.0 n) (owned app handles))) other ∙ ih
    by_app false other ih = ih

pub due_own : (loans : ℕ → ℕ) (app : ℕ) (handles : List Handle) (n : ℕ) → Rise handles → due_by loans app (handle_at handles n) ≡ due_of loans (find (λ k. eqb k.0 n) (owned app handles))
due_own loans app [] n rise = refl
due_own loans app (h ∷ handles) n rise = by_tests (eqb h.number n) (eqb h.app app) refl refl (due_own loans app handles n (rise-tail h handles rise))
  where
    by_tests : (x y : Bool) → eqb h.number n ≡ x → eqb h.app app ≡ y → due_by loans app (handle_at handles n) ≡ due_of loans (find (λ k. eqb k.0 n) (owned app handles)) →
        due_by loans app (cond {A = Option Handle} x (Some h) (handle_at handles n)) ≡ due_of loans (find (λ k. eqb k.0 n) (cond {A = List (ℕ × Option Hold)} y ((h.number, h.hold) ∷ owned app handles) (owned app handles)))
    by_tests true true number mine ih =
        ap (λ b. cond {A = Option LentBytes} b (viewed (loans h.number) h.hold) None) mine
        ∙ sym (ap (λ b. due_of loans (cond {A = Option (ℕ × Option Hold)} b (Some (h.number, h.hold)) (find (λ k. eqb k.0 n) (owned app handles)))) number)
    by_tests true false number mine ih =
        ap (λ b. cond {A = Option LentBytes} b (viewed (loans h.number) h.hold) None) mine
        ∙ sym (ap (due_of loans) (absent app handles n (subst (λ m. All (λ (k : Handle). m < k.number) handles) (eqb-true h.number n number) (rise-head h handles rise))))
    by_tests false true number mine ih =
        ih ∙ sym (ap (λ b. due_of loans (cond {A = Option (ℕ × Option Hold)} b (Some (h.number, h.hold)) (find (λ k. eqb k.0 n) (owned app handles)))) number)
    by_tests false false number mine ih = ih

pub dues_own : (app : ℕ) (handles : List Handle) → count_by (λ h. eqb h.app app && is_some h.hold) handles ≡ count_by (λ (k : ℕ × Option Hold). is_some k.1) (owned app handles)
dues_own app [] = refl
dues_own app (h ∷ handles) = sum_by-cons (λ (k : Handle). cond {A = ℕ} (eqb k.app app && is_some k.hold) 1 0) h handles ∙ by_app (eqb h.app app) (dues_own app handles)
  where
    by_app : (b : Bool) → count_by (λ (k : Handle). eqb k.app app && is_some k.hold) handles ≡ count_by (λ (k : ℕ × Option Hold). is_some k.1) (owned app handles) →
        cond {A = ℕ} (b && is_some h.hold) 1 0 + count_by (λ (k : Handle). eqb k.app app && is_some k.hold) handles
        ≡ count_by (λ (k : ℕ × Option Hold). is_some k.1) (cond {A = List (ℕ × Option Hold)} b ((h.number, h.hold) ∷ owned app handles) (owned app handles))
    by_app true ih = ap (λ m. cond {A = ℕ} (is_some h.hold) 1 0 + m) ih ∙ sym (sum_by-cons (λ (k : ℕ × Option Hold). cond {A = ℕ} (is_some k.1) 1 0) (h.number, h.hold) (owned app handles))
    by_app false ih = omega (arith, ih)

-- A bag with just the views that are due. --

abbrev views_for : List Lent → ℕ → List Handle → List (ℕ × LentBytes)
views_for lent app [] = []
views_for lent app (h ∷ handles) =
    cond {A = List (ℕ × LentBytes)} (eqb h.app app)
    (option_map_or (λ (hold : Hold). (h.number, record { loan = loan_of lent h.number; bytes = hold.value }) ∷ views_for lent app handles) h.hold (views_for lent app handles))
    (views_for lent app handles)

abbrev due_bag : Plain → ℕ → HeldViews
due_bag core app = record { views = views_for core.lent app core.state.handles; room = core.limits.handles }

abbrev seen_in : List (ℕ × LentBytes) → ℕ → Option LentBytes
seen_in views n = option_map (λ (entry : ℕ × LentBytes). entry.1) (find (λ (entry : ℕ × LentBytes). eqb entry.0 n) views)

unseen : (lent : List Lent) (app : ℕ) (handles : List Handle) (n : ℕ) → All (λ (h : Handle). n < h.number) handles → seen_in (views_for lent app handles) n ≡ None
unseen lent app [] n above = refl
unseen lent app (h ∷ handles) n above =
    by_tests (eqb h.app app) h.hold (unlike h.number n (All-head (λ (k : Handle). n < k.number) h handles above)) (unseen lent app handles n (All-tail (λ (k : Handle). n < k.number) h handles above))
  where
    rest : List (ℕ × LentBytes)
    rest = views_for lent app handles

    unlike : (m n : ℕ) → n < m → eqb m n ≡ false
    unlike m n less = grind (arith, nat_tests)

    by_tests : (b : Bool) (o : Option Hold) → eqb h.number n ≡ false → seen_in rest n ≡ None →
        seen_in (cond {A = List (ℕ × LentBytes)} b (option_map_or (λ (hold : Hold). (h.number, record { loan = loan_of lent h.number; bytes = hold.value }) ∷ rest) o rest) rest) n ≡ None
    by_tests true None other ih = ih
    by_tests true (Some hold) other ih = ap (λ b. option_map (λ (entry : ℕ × LentBytes). entry.1) (cond {A = Option (ℕ × LentBytes)} b (Some (h.number, record { loan = loan_of lent h.number; bytes = hold.value })) (find (λ (entry : ℕ × LentBytes). eqb entry.0 n) rest))) other ∙ ih
    by_tests false o other ih = ih

seen_due : (lent : List Lent) (app : ℕ) (handles : List Handle) (n : ℕ) → Rise handles → seen_in (views_for lent app handles) n ≡ due_by (loan_of lent) app (handle_at handles n)
seen_due lent app [] n rise = refl
seen_due lent app (h ∷ handles) n rise = by_tests (eqb h.number n) (eqb h.app app) h.hold refl refl refl (seen_due lent app handles n (rise-tail h handles rise))
  where
    rest : List (ℕ × LentBytes)
    rest = views_for lent app handles

    gone : eqb h.number n ≡ true → seen_in rest n ≡ None
    gone is = unseen lent app handles n (subst (λ m. All (λ (k : Handle). m < k.number) handles) (eqb-true h.number n is) (rise-head h handles rise))

    due_first : (y : Bool) (o : Option Hold) → Option LentBytes
    due_first y o = cond {A = Option LentBytes} y (viewed (loan_of lent h.number) o) None

    by_tests : (x y : Bool) (o : Option Hold) → eqb h.number n ≡ x → eqb h.app app ≡ y → h.hold ≡ o → seen_in rest n ≡ due_by (loan_of lent) app (handle_at handles n) →
        seen_in (cond {A = List (ℕ × LentBytes)} y (option_map_or (λ (hold : Hold). (h.number, record { loan = loan_of lent h.number; bytes = hold.value }) ∷ rest) o rest) rest) n
        ≡ due_by (loan_of lent) app (cond {A = Option Handle} x (Some h) (handle_at handles n))
    by_tests true true None number mine holds ih = gone number ∙ sym (ap (λ y. due_first y h.hold) mine ∙ ap (due_first true) holds)
    by_tests true true (Some hold) number mine holds ih =
        ap (λ b. option_map (λ (entry : ℕ × LentBytes). entry.1) (cond {A = Option (ℕ × LentBytes)} b (Some (h.number, record { loan = loan_of lent h.number; bytes = hold.value })) (find (λ (entry : ℕ × LentBytes). eqb entry.0 n) rest))) number
        ∙ sym (ap (λ y. due_first y h.hold) mine ∙ ap (due_first true) holds)
    by_tests true false o number mine holds ih = gone number ∙ sym (ap (λ y. due_first y h.hold) mine)
    by_tests false true None number mine holds ih = ih
    by_tests false true (Some hold) number mine holds ih =
        ap (λ b. option_map (λ (entry : ℕ × LentBytes). entry.1) (cond {A = Option (ℕ × LentBytes)} b (Some (h.number, record { loan = loan_of lent h.number; bytes = hold.value })) (find (λ (entry : ℕ × LentBytes). eqb entry.0 n) rest))) number ∙ ih
    by_tests false false o number mine holds ih = ih

counted_due : (lent : List Lent) (app : ℕ) (handles : List Handle) → length (views_for lent app handles) ≡ count_by (λ h. eqb h.app app && is_some h.hold) handles
counted_due lent app [] = refl
counted_due lent app (h ∷ handles) = by_tests (eqb h.app app) h.hold (counted_due lent app handles) ∙ sym (sum_by-cons (λ (k : Handle). cond {A = ℕ} (eqb k.app app && is_some k.hold) 1 0) h handles)
  where
    rest : List (ℕ × LentBytes)
    rest = views_for lent app handles

    one : (m n : ℕ) → m ≡ n → m + 1 ≡ 1 + n
    one m n same = omega (arith, same)

    by_tests : (b : Bool) (o : Option Hold) → length rest ≡ count_by (λ (k : Handle). eqb k.app app && is_some k.hold) handles →
        length (cond {A = List (ℕ × LentBytes)} b (option_map_or (λ (hold : Hold). (h.number, record { loan = loan_of lent h.number; bytes = hold.value }) ∷ rest) o rest) rest)
        ≡ cond {A = ℕ} (b && is_some o) 1 0 + count_by (λ (k : Handle). eqb k.app app && is_some k.hold) handles
    by_tests true None ih = omega (arith, ih)
    by_tests true (Some hold) ih = omega (arith, ih)
    by_tests false o ih = omega (arith, ih)

-- what keeps an application's bags keeps what is due to it
pub dues_same : (old new : Plain) (app : ℕ) → Rise old.state.handles → ((bag : HeldViews) → Holds old app bag → Holds new app bag) → (n : ℕ) → view_due new app n ≡ view_due old app n
dues_same old new app rise keeps n =
    let has : Holds old app (due_bag old app) = record {
      seen = λ m. seen_due old.lent app old.state.handles m rise;
      counted = counted_due old.lent app old.state.handles;
      room = omega arith;
    } in
    sym ((keeps (due_bag old app) has).seen n) ∙ has.seen n

-- if the same is due for a handle that holds something, it held something before, by the same loan
pub kept_from : (old new : Plain) (n : ℕ) (h : Handle) → handle_at new.state.handles n ≡ Some h → is_some h.hold ≡ true → view_due new h.app n ≡ view_due old h.app n →
    (is_some (hold_of old.state.handles n) ≡ true) × (loan_of new.lent n ≡ loan_of old.lent n)
kept_from old new n h at some same = by_hold h.hold refl some
  where
    itself : (m : ℕ) → eqb m m ≡ true
    itself m = grind (arith, nat_tests)

    here : view_due new h.app n ≡ view_of new.lent h
    here = ap (due_by (loan_of new.lent) h.app) at ∙ ap (λ b. cond {A = Option LentBytes} b (viewed (loan_of new.lent h.number) h.hold) None) (itself h.app)

    loan_at : (o : Option LentBytes) → ℕ
    loan_at o = option_map_or (λ (view : LentBytes). view.loan) o 0

    by_old : (view : LentBytes) (o : Option Handle) → handle_at old.state.handles n ≡ o → Some view ≡ due_by (loan_of old.lent) h.app o → (is_some (option_and_then (λ (k : Handle). k.hold) o) ≡ true) × (view.loan ≡ loan_of old.lent n)
    by_old view None was never = absurd (cc (never))
    by_old view (Some k) was is = by_app (eqb k.app h.app) k.hold is
      where
        by_app : (b : Bool) (o : Option Hold) → Some view ≡ cond {A = Option LentBytes} b (viewed (loan_of old.lent k.number) o) None → (is_some o ≡ true) × (view.loan ≡ loan_of old.lent n)
        by_app true None never = absurd (cc (never))
        by_app true (Some hold) it = (refl, ap loan_at it ∙ ap (loan_of old.lent) (found_number old.state.handles n k was))
        by_app false o never = absurd (cc (never))

    by_hold : (o : Option Hold) → h.hold ≡ o → is_some o ≡ true → (is_some (hold_of old.state.handles n) ≡ true) × (loan_of new.lent n ≡ loan_of old.lent n)
    by_hold None is never = absurd (true≢false (sym never))
    by_hold (Some hold) is some =
        let view : LentBytes = record { loan = loan_of new.lent h.number; bytes = hold.value } in
        let was = by_old view (handle_at old.state.handles n) refl (sym (ap (viewed (loan_of new.lent h.number)) is) ∙ sym here ∙ same) in
        (was.0, ap (loan_of new.lent) (sym (found_number new.state.handles n h at)) ∙ was.1)
