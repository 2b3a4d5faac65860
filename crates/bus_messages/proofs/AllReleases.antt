-- An application whose buffers are released one by one.
use Rattle.std.proofs.Common.{◌≡◌, ℕ, ◌-◌, ◌<◌, ◌≤◌, ◌⊎◌, inl, inr, zero, suc, Bool, true, false, not, cond, eqb, List, [], ◌∷◌, length, get_or, set, filter, find, Option, Some, None, is_some, refl, ap, sym, ◌∙◌, subst, arith}
use Rattle.std.specs.Option.{option_map}
use Rattle.std.proofs.lemmas.Bool.{cases_lt}
use Rattle.std.proofs.lemmas.Bool.Decides.{nat_tests}
use Rattle.std.proofs.lemmas.Grind.{get_or-set_at}
use Rattle.std.proofs.lemmas.List.{length-set, set_past, set-get_or}
use Rattle.fsw_base.specs.PoolAccounts.{Account}
use Rattle.lend_block.specs.Loan.{LentBytes}
use Rattle.buf_desc.specs.Block.{Unsent as UnsentBlock}
use Rattle.buf_desc.specs.Held.{Holding}
use Rattle.bus_words.specs.Bus.{Buffer, unsent_of, has_unsent, without_unsent, without_all_unsent}
use Rattle.bus_messages.specs.Bag.{Shape, shape_of, HoldsBuffers}
use Rattle.bus_messages.specs.Store.{Store, BufferDesc}
use Rattle.bus_messages.specs.Words.{desc_of, size_for, with_held}
use Rattle.bus_messages.proofs.Accounts.{OutAlone, alone_as, held_now}

-- Lists. --

set_twice : (xs : List (List Buffer)) (i : ℕ) (x y : List Buffer) → set (set xs i x) i y ≡ set xs i y
set_twice [] i x y = refl
set_twice (z ∷ xs) zero x y = refl
set_twice (z ∷ xs) (suc i) x y = ap (λ l. z ∷ l) (set_twice xs i x y)

-- what isn't found isn't found among fewer
find_fewer : (p q : Buffer → Bool) (bs : List Buffer) → is_some (find p bs) ≡ false → is_some (find p (filter q bs)) ≡ false
find_fewer p q [] none = refl
find_fewer p q (b ∷ bs) none = by_test (p b) refl (q b) none (find_fewer p q bs)
  where
    by_test : (t : Bool) → p b ≡ t → (u : Bool) → is_some (cond {A = Option Buffer} t (Some b) (find p bs)) ≡ false →
        (is_some (find p bs) ≡ false → is_some (find p (filter q bs)) ≡ false) → is_some (find p (cond {A = List Buffer} u (b ∷ filter q bs) (filter q bs))) ≡ false
    by_test true e u f ih = absurd (cc (f))
    by_test false e true f ih = ap (λ c. is_some (cond {A = Option Buffer} c (Some b) (find p (filter q bs)))) e ∙ ih f
    by_test false e false f ih = ih f

-- what the application hasn't, it hasn't with one fewer
pub has_fewer : (unsent : List (List Buffer)) (app n other : ℕ) → has_unsent unsent app other ≡ false → has_unsent (without_unsent unsent app n) app other ≡ false
has_fewer unsent app n other none = at (cases_lt (app - 1) (length unsent))
  where
    left : List Buffer
    left = filter (λ (b : Buffer). not (eqb b.number n)) (unsent_of unsent app)

    found : List Buffer → Bool
    found bs = is_some (find (λ (b : Buffer). eqb b.number other) bs)

    at : (app - 1 < length unsent) ⊎ (length unsent ≤ app - 1) → found (get_or (set unsent (app - 1) left) (app - 1) []) ≡ false
    at (inl h) = ap found (get_or-set_at unsent (app - 1) (app - 1) left [] refl h) ∙ find_fewer (λ (b : Buffer). eqb b.number other) (λ (b : Buffer). not (eqb b.number n)) (unsent_of unsent app) none
    at (inr h) = ap (λ (l : List (List Buffer)). found (get_or l (app - 1) [])) (set_past unsent (app - 1) left h) ∙ none

-- Rounds. --

-- the unsent buffers, the account and the descriptors change alone
abbrev pub BuffersAlone : Store → Store → Type 0
BuffersAlone old new = new ≡ record old { unsent = new.unsent; account = new.account; descs = new.descs }

module _ (first before after : Store) (app n : ℕ)
    (is : after ≡ record before { unsent = without_unsent before.unsent app n; account = with_held before.account before.pipes after.unsent before.numbers_given; descs = after.descs }) where
  unsent_is : after.unsent ≡ without_unsent before.unsent app n
  unsent_is = ap (λ (o : Store). o.unsent) is

  pub round_others : without_all_unsent before.unsent app ≡ without_all_unsent first.unsent app → without_all_unsent after.unsent app ≡ without_all_unsent first.unsent app
  round_others were =
      ap (λ (l : List (List Buffer)). without_all_unsent l app) unsent_is
      ∙ set_twice before.unsent (app - 1) (filter (λ (b : Buffer). not (eqb b.number n)) (unsent_of before.unsent app)) []
      ∙ were

  pub round_places : length before.unsent ≡ length first.unsent → length after.unsent ≡ length first.unsent
  round_places were = ap (λ (l : List (List Buffer)). length l) unsent_is ∙ length-set before.unsent (app - 1) (filter (λ (b : Buffer). not (eqb b.number n)) (unsent_of before.unsent app)) ∙ were

  pub round_same : BuffersAlone first before → BuffersAlone first after
  round_same were =
      is
      ∙ ap
      (λ (o : Store). let v : Store = record o {
        unsent = without_unsent before.unsent app n;
        account = with_held before.account before.pipes after.unsent before.numbers_given;
        descs = after.descs;
      } in v) were
      ∙ ap (λ (l : List (List Buffer)). let v : Store = record first { unsent = l; account = with_held before.account before.pipes after.unsent before.numbers_given; descs = after.descs } in v) (sym unsent_is)
      ∙ ap (λ (c : Account). let v : Store = record first { unsent = after.unsent; account = c; descs = after.descs } in v) (sym (ap (λ (o : Store). o.account) is))

  pub round_account : OutAlone first.account before.account → OutAlone first.account after.account
  round_account were =
      let next : Account = with_held before.account before.pipes after.unsent before.numbers_given in
      alone_as before.account next after.account refl (ap (λ (o : Store). o.account) is)
      ∙ ap (λ (c : Account). let v : Account = record c { out = after.account.out } in v) were

  pub round_had : (other : ℕ) → has_unsent before.unsent app other ≡ false → has_unsent after.unsent app other ≡ false
  round_had other none = ap (λ (l : List (List Buffer)). has_unsent l app other) unsent_is ∙ has_fewer before.unsent app n other none

-- The end. --

-- a store in which the application has none left
pub relieved_store : (old mid new : Store) (app : ℕ) → BuffersAlone old mid → unsent_of mid.unsent app ≡ [] → without_all_unsent mid.unsent app ≡ without_all_unsent old.unsent app → OutAlone old.account mid.account →
    mid.account ≡ with_held mid.account mid.pipes mid.unsent mid.numbers_given → new ≡ mid →
    new ≡ record old { unsent = without_all_unsent old.unsent app; account = with_held old.account old.pipes new.unsent old.numbers_given; descs = new.descs }
relieved_store old mid new app same none others account law is =
    subst (λ (x : Store). x ≡ record old { unsent = without_all_unsent old.unsent app; account = with_held old.account old.pipes x.unsent old.numbers_given; descs = x.descs }) (sym is)
    (same
    ∙ ap (λ (l : List (List Buffer)). let v : Store = record old { unsent = l; account = mid.account; descs = mid.descs } in v)
    (sym (set-get_or mid.unsent (app - 1) []) ∙ ap (set mid.unsent (app - 1)) none ∙ others)
    ∙ ap (λ (c : Account). let v : Store = record old { unsent = without_all_unsent old.unsent app; account = c; descs = mid.descs } in v)
    (held_now old.account mid.account old.pipes mid.unsent old.numbers_given account
    (law
    ∙ ap (λ l. with_held mid.account l mid.unsent mid.numbers_given) (ap (λ (o : Store). o.pipes) same)
    ∙ ap (with_held mid.account old.pipes mid.unsent) (ap (λ (o : Store). o.numbers_given) same))))

-- a bag of an application without buffers has no block
pub bag_empty : (unsent : List (List Buffer)) (descs : List BufferDesc) (sizes : List ℕ) (app : ℕ) (bag : Holding LentBytes) → HoldsBuffers unsent descs sizes app bag → unsent_of unsent app ≡ [] → bag.buffers ≡ []
bag_empty unsent descs sizes app bag holds none = empty bag.buffers (λ n. holds.due n ∙ ap (λ (l : List Buffer). option_map (shape n) (find (λ (b : Buffer). eqb b.number n) l)) none)
  where
    shape : ℕ → Buffer → Shape
    shape n b = record { desc = desc_of descs n; size = size_for sizes b.size; asked = b.size }

    eqb_same : (n : ℕ) → eqb n n ≡ true
    eqb_same n = grind (arith, nat_tests)

    empty : (blocks : List UnsentBlock) → ((n : ℕ) → option_map shape_of (find (λ (b : UnsentBlock). eqb b.number n) blocks) ≡ None) → blocks ≡ []
    empty [] never = refl
    empty (b ∷ blocks) never = absurd (no (ap (λ c. option_map shape_of (cond {A = Option UnsentBlock} c (Some b) (find (λ (x : UnsentBlock). eqb x.number b.number) blocks))) (sym (eqb_same b.number)) ∙ never b.number))
      where
        no : Some (shape_of b) ≡ None → ⊥
        no e = cc
