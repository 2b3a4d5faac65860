-- What an application may still add is told by its own entries alone.
use Rattle.std.proofs.Common.{◌≡◌, ℕ, ◌-◌, ◌≤◌, Bool, true, false, cond, true≢false, eqb, eqb-true, List, [], ◌∷◌, length, map, All, refl, ap, sym, ◌∙◌, arith}
use Rattle.std.proofs.lemmas.Bool.Decides.{nat_tests}
use Rattle.std.proofs.lemmas.List.{get_or-set_other, get_or-set_same}
use Rattle.std.proofs.lemmas.List.Elements.{All-head, All-tail}
use Rattle.journal_store.specs.declared.allowance.Allowance.{Allowance}
use Rattle.journal_store.specs.Budgets.{allowance_of, charged, left_from}
use Rattle.journal_store.proofs.Charges.{length-charged}
use Rattle.tbl_words.specs.declared.history.Entry.{Entry}
use Rattle.tbl_words.specs.Entries.{call_bytes}
use Rattle.tbl_words.specs.Log.{charge_of}
use Rattle.tbl_service.specs.Ports.{own_entries}

-- a charge of one application leaves what another may add
pub charged_other : (left : List Allowance) (app other bytes : ℕ) → 1 ≤ app → 1 ≤ other → eqb app other ≡ false → allowance_of (charged left app bytes) other ≡ allowance_of left other
charged_other left app other bytes first second apart =
    let a = allowance_of left app in
    get_or-set_other left (app - 1) (other - 1) (record { entries = a.entries - 1; bytes = a.bytes - bytes }) (record { entries = 0; bytes = 0 }) (λ same. true≢false (sym (one app other first second same) ∙ apart))
  where
    one : (m n : ℕ) → 1 ≤ m → 1 ≤ n → n - 1 ≡ m - 1 → eqb m n ≡ true
    one m n a b same = grind (arith, nat_tests)

-- and takes one entry and its bytes from its own
pub charged_own : (left : List Allowance) (app bytes : ℕ) → 1 ≤ app → app ≤ length left →
    allowance_of (charged left app bytes) app ≡ record { entries = (allowance_of left app).entries - 1; bytes = (allowance_of left app).bytes - bytes }
charged_own left app bytes first known =
    let a = allowance_of left app in
    get_or-set_same left (app - 1) (record { entries = a.entries - 1; bytes = a.bytes - bytes }) (record { entries = 0; bytes = 0 }) (omega (arith, first, known))

-- what the charge of an entry of the application's leaves of equal allowances, and one of another's of the one that it is of
charged_alike : (left other : List Allowance) (app : ℕ) (e : Entry) → 1 ≤ app → app ≤ length left → app ≤ length other → allowance_of left app ≡ allowance_of other app → e.app ≡ app →
    allowance_of (charged left e.app (call_bytes e.call)) app ≡ allowance_of (charged other e.app (call_bytes e.call)) app
charged_alike left other app e first known too same mine =
    let bytes = call_bytes e.call in
    let less : Allowance → Allowance = λ a. record { entries = a.entries - 1; bytes = a.bytes - bytes } in
    ap (λ n. allowance_of (charged left n bytes) app) mine ∙ charged_own left app bytes first known ∙ ap less same
    ∙ sym (ap (λ n. allowance_of (charged other n bytes) app) mine ∙ charged_own other app bytes first too)

alike : (left other : List Allowance) (app : ℕ) (es : List Entry) → 1 ≤ app → app ≤ length left → app ≤ length other → All (λ (e : Entry). 1 ≤ e.app) es → allowance_of left app ≡ allowance_of other app →
    allowance_of (left_from left (map charge_of (own_entries app es))) app ≡ allowance_of (left_from other (map charge_of es)) app
alike left other app [] first known too all same = same
alike left other app (e ∷ es) first known too all same =
    by (eqb e.app app) refl
    (λ mine. alike (charged left e.app bytes) (charged other e.app bytes) app es first (long left known) (long other too) rest (charged_alike left other app e first known too same mine))
    (λ apart. alike left (charged other e.app bytes) app es first known (long other too) rest
    (same ∙ sym (charged_other other e.app app bytes (All-head (λ (x : Entry). 1 ≤ x.app) e es all) first apart)))
  where
    bytes : ℕ
    bytes = call_bytes e.call

    rest : All (λ (x : Entry). 1 ≤ x.app) es
    rest = All-tail (λ (x : Entry). 1 ≤ x.app) e es all

    long : (l : List Allowance) → app ≤ length l → app ≤ length (charged l e.app bytes)
    long l fits = omega (arith, fits, length-charged l e.app bytes)

    after : Allowance
    after = allowance_of (left_from (charged other e.app bytes) (map charge_of es)) app

    by : (b : Bool) → eqb e.app app ≡ b →
        (e.app ≡ app → allowance_of (left_from (charged left e.app bytes) (map charge_of (own_entries app es))) app ≡ after) →
        (eqb e.app app ≡ false → allowance_of (left_from left (map charge_of (own_entries app es))) app ≡ after) →
        allowance_of (left_from left (map charge_of (cond {A = List Entry} b (e ∷ own_entries app es) (own_entries app es)))) app ≡ after
    by true is mine other = mine (eqb-true e.app app is)
    by false is mine other = other is

pub allowed_by_own : (left : List Allowance) (app : ℕ) (es : List Entry) → 1 ≤ app → app ≤ length left → All (λ (e : Entry). 1 ≤ e.app) es →
    allowance_of (left_from left (map charge_of (own_entries app es))) app ≡ allowance_of (left_from left (map charge_of es)) app
allowed_by_own left app es first known all = alike left left app es first known known all refl
