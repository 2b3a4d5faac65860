-- What the bus asks of an application before a call follows from its own entries: others leave how it stands and what it may
-- still add, which is its budget less its own entries.
use Rattle.std.proofs.Common.{◌≡◌, ◌≢◌, ℕ, ◌-◌, ◌≤◌, Bool, true, false, cond, true≢false, eqb, eqb-true, ne_eqb, List, [], ◌∷◌, ◌++◌, length, map, append-nil, append_assoc, refl, ap, sym, ◌∙◌, subst, arith}
use Rattle.std.specs.List.{All}
use Rattle.std.proofs.lemmas.Bool.Decides.{nat_tests}
use Rattle.std.proofs.lemmas.List.{get_or-set_other, get_or-set_same, length-map}
use Rattle.std.proofs.lemmas.List.Elements.{All-nil, All-cons, All-head, All-tail}
use Rattle.fsw_base.specs.declared.config.Budget.{Budget}
use Rattle.fsw_base.specs.Limits.{Limits}
use Rattle.journal_store.specs.declared.allowance.Allowance.{Allowance}
use Rattle.journal_store.specs.Budgets.{allowance_of, allowances, charged, left_from}
use Rattle.journal_store.proofs.Charges.{length-charged}
use Rattle.bus_words.specs.declared.history.Entry.{Entry}
use Rattle.bus_words.specs.Bus.{State, opening, standing_of}
use Rattle.bus_words.specs.Entries.{call_bytes}
use Rattle.bus_words.specs.Log.{Log, charge_of, left_of}
use Rattle.bus_words.specs.Machine.{IsLegal, LegalFrom, state_after, state_from, step}
use Rattle.bus_words.specs.Runs.{own_entries}
use Rattle.bus_words.proofs.LegalSteps.{caller-first, standing-step}

-- Charges. --

-- a charge of one application leaves what another may add
pub charged_other : (left : List Allowance) (app other bytes : ℕ) → 1 ≤ app → 1 ≤ other → eqb app other ≡ false → allowance_of (charged left app bytes) other ≡ allowance_of left other
charged_other left app other bytes first second apart =
    let a = allowance_of left app in
    get_or-set_other left (app - 1) (other - 1) (record { entries = a.entries - 1; bytes = a.bytes - bytes }) (record { entries = 0; bytes = 0 }) (λ same. true≢false (sym (one app other first second same) ∙ apart))
  where
    one : (m n : ℕ) → 1 ≤ m → 1 ≤ n → n - 1 ≡ m - 1 → eqb m n ≡ true
    one m n a b same = grind (arith, nat_tests)

-- and takes one entry and its bytes from its own
pub charged_own : (left : List Allowance) (app bytes : ℕ) → 1 ≤ app → app ≤ length left →
    allowance_of (charged left app bytes) app ≡ record { entries = (allowance_of left app).entries - 1; bytes = (allowance_of left app).bytes - bytes }
charged_own left app bytes first known =
    let a = allowance_of left app in
    get_or-set_same left (app - 1) (record { entries = a.entries - 1; bytes = a.bytes - bytes }) (record { entries = 0; bytes = 0 }) (omega (arith, first, known))

-- what the charge of an entry of the application's leaves of equal allowances, and one of another's of the one that it is of
charged_alike : (left other : List Allowance) (app : ℕ) (e : Entry) → 1 ≤ app → app ≤ length left → app ≤ length other → allowance_of left app ≡ allowance_of other app → e.app ≡ app →
    allowance_of (charged left e.app (call_bytes e.call)) app ≡ allowance_of (charged other e.app (call_bytes e.call)) app
charged_alike left other app e first known too same mine =
    let bytes = call_bytes e.call in
    let less : Allowance → Allowance = λ a. record { entries = a.entries - 1; bytes = a.bytes - bytes } in
    ap (λ n. allowance_of (charged left n bytes) app) mine ∙ charged_own left app bytes first known ∙ ap less same
    ∙ sym (ap (λ n. allowance_of (charged other n bytes) app) mine ∙ charged_own other app bytes first too)

alike : (left other : List Allowance) (app : ℕ) (es : List Entry) → 1 ≤ app → app ≤ length left → app ≤ length other → All (λ (e : Entry). 1 ≤ e.app) es → allowance_of left app ≡ allowance_of other app →
    allowance_of (left_from left (map charge_of (own_entries app es))) app ≡ allowance_of (left_from other (map charge_of es)) app
alike left other app [] first known too all same = same
alike left other app (e ∷ es) first known too all same =
    by (eqb e.app app) refl
    (λ mine. alike (charged left e.app bytes) (charged other e.app bytes) app es first (long left known) (long other too) rest (charged_alike left other app e first known too same mine))
    (λ apart. alike left (charged other e.app bytes) app es first known (long other too) rest
    (same ∙ sym (charged_other other e.app app bytes (All-head (λ (x : Entry). 1 ≤ x.app) e es all) first apart)))
  where
    bytes : ℕ
    bytes = call_bytes e.call

    rest : All (λ (x : Entry). 1 ≤ x.app) es
    rest = All-tail (λ (x : Entry). 1 ≤ x.app) e es all

    long : (l : List Allowance) → app ≤ length l → app ≤ length (charged l e.app bytes)
    long l fits = omega (arith, fits, length-charged l e.app bytes)

    after : Allowance
    after = allowance_of (left_from (charged other e.app bytes) (map charge_of es)) app

    by : (b : Bool) → eqb e.app app ≡ b →
        (e.app ≡ app → allowance_of (left_from (charged left e.app bytes) (map charge_of (own_entries app es))) app ≡ after) →
        (eqb e.app app ≡ false → allowance_of (left_from left (map charge_of (own_entries app es))) app ≡ after) →
        allowance_of (left_from left (map charge_of (cond {A = List Entry} b (e ∷ own_entries app es) (own_entries app es)))) app ≡ after
    by true is mine other = mine (eqb-true e.app app is)
    by false is mine other = other is

pub allowed_by_own : (left : List Allowance) (app : ℕ) (es : List Entry) → 1 ≤ app → app ≤ length left → All (λ (e : Entry). 1 ≤ e.app) es →
    allowance_of (left_from left (map charge_of (own_entries app es))) app ≡ allowance_of (left_from left (map charge_of es)) app
allowed_by_own left app es first known all = alike left left app es first known known all refl

-- Who calls. --

-- who made an entry of a legal history has a number, from 1
pub callers_from_one : (limits : Limits) (history : List Entry) (s : State) (es : List Entry) → LegalFrom limits history s es → All (λ (e : Entry). 1 ≤ e.app) es
callers_from_one limits history s [] legal = All-nil (λ (e : Entry). 1 ≤ e.app)
callers_from_one limits history s (e ∷ es) legal =
    All-cons (λ (x : Entry). 1 ≤ x.app) e es (caller-first s e.app e.call legal.0) (callers_from_one limits (history ++ e ∷ []) ((step limits history s e.app e.call).1) es legal.4)

-- Two parts of a history. --

pub legal_back : (limits : Limits) (history : List Entry) (s : State) (es more : List Entry) → LegalFrom limits history s (es ++ more) → LegalFrom limits (history ++ es) (state_from limits history s es) more
legal_back limits history s [] more legal = subst (λ (h : List Entry). LegalFrom limits h s more) (sym (append-nil history)) legal
legal_back limits history s (x ∷ es) more legal =
    let next = (step limits history s x.app x.call).1 in
    subst (λ (h : List Entry). LegalFrom limits h (state_from limits (history ++ x ∷ []) next es) more) (append_assoc history (x ∷ []) es)
    (legal_back limits (history ++ x ∷ []) next es more legal.4)

pub state_further : (limits : Limits) (history : List Entry) (s : State) (es more : List Entry) → state_from limits history s (es ++ more) ≡ state_from limits (history ++ es) (state_from limits history s es) more
state_further limits history s [] more = ap (λ (h : List Entry). state_from limits h s more) (sym (append-nil history))
state_further limits history s (x ∷ es) more =
    let next = (step limits history s x.app x.call).1 in
    state_further limits (history ++ x ∷ []) next es more
    ∙ ap (λ (h : List Entry). state_from limits h (state_from limits (history ++ x ∷ []) next es) more) (append_assoc history (x ∷ []) es)

pub left_further : (left : List Allowance) (es more : List Entry) → left_from left (map charge_of (es ++ more)) ≡ left_from (left_from left (map charge_of es)) (map charge_of more)
left_further left [] more = refl
left_further left (x ∷ es) more = left_further (charged left x.app (call_bytes x.call)) es more

-- Entries of others. --

pub left_alone : (left : List Allowance) (app : ℕ) (es : List Entry) → 1 ≤ app → All (λ (e : Entry). 1 ≤ e.app) es → All (λ (e : Entry). e.app ≢ app) es →
    allowance_of (left_from left (map charge_of es)) app ≡ allowance_of left app
left_alone left app [] first callers others = refl
left_alone left app (e ∷ es) first callers others =
    let from_one : Entry → Type 0 = λ x. 1 ≤ x.app in
    let other : Entry → Type 0 = λ x. x.app ≢ app in
    left_alone (charged left e.app (call_bytes e.call)) app es first (All-tail from_one e es callers) (All-tail other e es others)
    ∙ charged_other left e.app app (call_bytes e.call) (All-head from_one e es callers) first (ne_eqb e.app app (All-head other e es others))

pub standing_alone : (limits : Limits) (history : List Entry) (s : State) (app : ℕ) (es : List Entry) → All (λ (e : Entry). e.app ≢ app) es → LegalFrom limits history s es →
    standing_of (state_from limits history s es) app ≡ standing_of s app
standing_alone limits history s app [] others legal = refl
standing_alone limits history s app (e ∷ es) others legal =
    let other : Entry → Type 0 = λ x. x.app ≢ app in
    standing_alone limits (history ++ e ∷ []) ((step limits history s e.app e.call).1) app es (All-tail other e es others) legal.4
    ∙ standing-step limits history s e.app app e.call legal.0 (ne_eqb app e.app (λ same. All-head other e es others (sym same)))

-- The law. --

module _ (limits : Limits) (apps app : ℕ) (history more : List Entry) (legal : IsLegal limits apps (history ++ more)) (others : All (λ (e : Entry). e.app ≢ app) more) where
  behind : LegalFrom limits history (state_after limits apps history) more
  behind = legal_back limits [] (opening limits apps) history more legal

  pub standing_same : standing_of (state_after limits apps (history ++ more)) app ≡ standing_of (state_after limits apps history) app
  standing_same =
      ap (λ (t : State). standing_of t app) (state_further limits [] (opening limits apps) history more)
      ∙ standing_alone limits history (state_after limits apps history) app more others behind

  pub left_same : (budgets : List Budget) → 1 ≤ app →
      allowance_of (left_of (record { budgets = budgets; entries = history ++ more })) app ≡ allowance_of (left_of (record { budgets = budgets; entries = history })) app
  left_same budgets first =
      ap (λ (l : List Allowance). allowance_of l app) (left_further (allowances budgets) history more)
      ∙ left_alone (left_of (record { budgets = budgets; entries = history })) app more first
      (callers_from_one limits history (state_after limits apps history) more behind) others

abbrev allowance_by : Budget → Allowance
allowance_by budget = record { entries = budget.entries; bytes = budget.bytes }

pub left_by_own : (limits : Limits) (apps app : ℕ) (log : Log) → IsLegal limits apps log.entries → 1 ≤ app → app ≤ length log.budgets →
    allowance_of (left_of (record log { entries = own_entries app log.entries })) app ≡ allowance_of (left_of log) app
left_by_own limits apps app log legal first known =
    allowed_by_own (allowances log.budgets) app log.entries first (omega (arith, known, length-map log.budgets allowance_by))
    (callers_from_one limits [] (opening limits apps) log.entries legal)
