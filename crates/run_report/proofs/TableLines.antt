-- What the lines of a report tell of the tables, and what a whole report tells.
use Rattle.std.proofs.Common.{◌≡◌, ℕ, ◌+◌, ◌<◌, ◌≤◌, ◌^◌, ◌&&◌, ◌==◌, nat_lt, if◌then◌else◌, Bool, true, false, List, [], ◌∷◌, ◌++◌, length, get_or, drop, sum, find, Option, Some, All, codes, decimal, refl, ap, sym, ◌∙◌, arith, append_assoc}
use Rattle.std.specs.Str.{bytes_eq}
use Rattle.std.proofs.lemmas.Fmt.{decimal_injective}
use Rattle.std.proofs.lemmas.List.{append_cancel_left}
use Rattle.std.proofs.lemmas.List.Elements.{All-head, All-tail}
use Rattle.bus_words.specs.declared.history.Entry.{Entry as BusEntry}
use Rattle.tbl_words.specs.declared.statuses.TblStatus.{TblStatus}
use Rattle.tbl_words.specs.declared.statuses.TblStatus.TheVariants.{ErrInvalidHandle, ErrInvalidName, ErrInvalidSize, ErrInvalidOptions, ErrDuplicateNotOwned, ErrDuplicateDiffSize, ErrRegistryFull, ErrHandlesFull, ErrNoAccess, ErrUnregistered, ErrDumpOnly, ErrFileTooLarge, ErrPartialLoad, ErrLoadInProgress, ErrNoBufferAvail, InfoTableLocked, InfoNoUpdatePending, ErrMemBlockSize, NoLoad, NotValidated, Validation}
use Rattle.tbl_words.specs.declared.calls.TblAnswer.{TblAnswer}
use Rattle.tbl_words.specs.declared.calls.TblAnswer.TheVariants.{Done, Number, Duplicate, Address, State, Refused}
use Rattle.tbl_words.specs.declared.calls.TblState.{TblState}
use Rattle.tbl_words.specs.declared.calls.Told.{Told}
use Rattle.tbl_words.specs.declared.calls.Told.TheVariants.{Same, Updated, NeverLoaded}
use Rattle.tbl_words.specs.declared.history.Call.{Call}
use Rattle.tbl_words.specs.declared.history.Call.TheVariants.{Register, Share, Unregister, Stage, Validate, Update, Abort, Load, GetAddress, ReleaseAddress, Status, End}
use Rattle.tbl_words.specs.declared.history.Entry.{Entry}
use Rattle.tbl_words.specs.Statuses.{tbl_name}
use Rattle.text_page.specs.Texts.{name_text, numbered}
use Rattle.run_report.specs.BusText.{entry_text}
use Rattle.run_report.specs.ReadBack.{IsPlain, TellTheSame}
use Rattle.run_report.specs.TableReadBack.{has_plain_table_name, can_tables_answer, are_short_table_figures, has_short_rule, has_short_table_numbers, IsPlainAtTables, TablesTellTheSame}
use Rattle.run_report.specs.TableText.{table_call_text, flag_text, table_figures_text, table_answer_text, table_entry_text}
use Rattle.run_report.proofs.Splits.{above, above-append, and_first, and_second, split_once, decimal_above, letter_not_decimal}
use Rattle.run_report.proofs.ReportLines.{lines_tell}
use Rattle.run_report.proofs.Words.{short, same_fronts, name_word, word, behind_word, behind_number, split_four, beginning, fourth, line_parts}

-- Answers have no line end. --

number_above : (n : ℕ) → above 11 (decimal n) ≡ true
number_above n = decimal_above 11 n (omega arith)

flag_above : (loaded : Bool) → above 11 (flag_text loaded) ≡ true
flag_above true = refl
flag_above false = refl

figures_above : (figures : TblState) → above 11 (table_figures_text figures) ≡ true
figures_above figures = words (decimal figures.version) (flag_text figures.loaded) (decimal figures.staged) (decimal figures.holds)
    (number_above figures.version) (flag_above figures.loaded) (number_above figures.staged) (number_above figures.holds)
  where
    one_more : (u v : List ℕ) → above 11 u ≡ true → above 11 v ≡ true → above 11 ((u ++ 32 ∷ []) ++ v) ≡ true
    one_more u v first second = above-append 11 (u ++ 32 ∷ []) v (above-append 11 u (32 ∷ []) first refl) second

    words : (u v w z : List ℕ) → above 11 u ≡ true → above 11 v ≡ true → above 11 w ≡ true → above 11 z ≡ true →
        above 11 ((((((u ++ 32 ∷ []) ++ v) ++ 32 ∷ []) ++ w) ++ 32 ∷ []) ++ z) ≡ true
    words u v w z first second third fourth =
        one_more ((((u ++ 32 ∷ []) ++ v) ++ 32 ∷ []) ++ w) z (one_more ((u ++ 32 ∷ []) ++ v) w (one_more u v first second) third) fourth

told_above : (told : Told) (version : ℕ) → above 11 (table_answer_text (Address told version)) ≡ true
told_above Same version = number_above version
told_above Updated version = number_above version
told_above NeverLoaded version = number_above version

refusal_above : (status : TblStatus) → above 11 (table_answer_text (Refused status)) ≡ true
refusal_above ErrInvalidHandle = refl
refusal_above ErrInvalidName = refl
refusal_above ErrInvalidSize = refl
refusal_above ErrInvalidOptions = refl
refusal_above ErrDuplicateNotOwned = refl
refusal_above ErrDuplicateDiffSize = refl
refusal_above ErrRegistryFull = refl
refusal_above ErrHandlesFull = refl
refusal_above ErrNoAccess = refl
refusal_above ErrUnregistered = refl
refusal_above ErrDumpOnly = refl
refusal_above ErrFileTooLarge = refl
refusal_above ErrPartialLoad = refl
refusal_above ErrLoadInProgress = refl
refusal_above ErrNoBufferAvail = refl
refusal_above InfoTableLocked = refl
refusal_above InfoNoUpdatePending = refl
refusal_above ErrMemBlockSize = refl
refusal_above NoLoad = refl
refusal_above NotValidated = refl
refusal_above (Validation rule) = number_above rule

answer_above : (a : TblAnswer) → above 11 (table_answer_text a) ≡ true
answer_above Done = refl
answer_above (Number number) = number_above number
answer_above (Duplicate number) = number_above number
answer_above (Address told version) = told_above told version
answer_above (State figures) = figures_above figures
answer_above (Refused status) = refusal_above status

-- Answers of one kind that read the same are the same. --

-- the refusals that tell no number
all_refusals : List TblStatus
all_refusals =
    ErrInvalidHandle ∷ ErrInvalidName ∷ ErrInvalidSize ∷ ErrInvalidOptions ∷ ErrDuplicateNotOwned ∷ ErrDuplicateDiffSize ∷ ErrRegistryFull ∷ ErrHandlesFull
    ∷ ErrNoAccess ∷ ErrUnregistered ∷ ErrDumpOnly ∷ ErrFileTooLarge ∷ ErrPartialLoad ∷ ErrLoadInProgress ∷ ErrNoBufferAvail ∷ InfoTableLocked
    ∷ InfoNoUpdatePending ∷ ErrMemBlockSize ∷ NoLoad ∷ NotValidated ∷ []

refusal_of : List ℕ → Option TblStatus
refusal_of text = find (λ s. bytes_eq (tbl_name s) text) all_refusals

-- whether a refusal tells no number
abbrev is_bare : TblStatus → Bool
is_bare (Validation rule) = false
is_bare status = true

refusal_of-text : (s : TblStatus) → is_bare s ≡ true → refusal_of (table_answer_text (Refused s)) ≡ Some s
unfolding refusal_of all_refusals
refusal_of-text ErrInvalidHandle bare = refl
refusal_of-text ErrInvalidName bare = refl
refusal_of-text ErrInvalidSize bare = refl
refusal_of-text ErrInvalidOptions bare = refl
refusal_of-text ErrDuplicateNotOwned bare = refl
refusal_of-text ErrDuplicateDiffSize bare = refl
refusal_of-text ErrRegistryFull bare = refl
refusal_of-text ErrHandlesFull bare = refl
refusal_of-text ErrNoAccess bare = refl
refusal_of-text ErrUnregistered bare = refl
refusal_of-text ErrDumpOnly bare = refl
refusal_of-text ErrFileTooLarge bare = refl
refusal_of-text ErrPartialLoad bare = refl
refusal_of-text ErrLoadInProgress bare = refl
refusal_of-text ErrNoBufferAvail bare = refl
refusal_of-text InfoTableLocked bare = refl
refusal_of-text InfoNoUpdatePending bare = refl
refusal_of-text ErrMemBlockSize bare = refl
refusal_of-text NoLoad bare = refl
refusal_of-text NotValidated bare = refl
refusal_of-text (Validation rule) bare = absurd (cc bare)

-- what the words of an answer begin with: 0 of a call that is done, 1 of a duplicate, 2 of an update, 3 of a table never loaded,
-- 4 of a value that fails a rule, 5 of another refusal
abbrev kind_at : List ℕ → ℕ
kind_at text =
    let fifth = get_or text 4 0 in
    let ninth = get_or text 8 0 in
    if fifth == 83 then 0 else
    (if fifth == 68 then 4 else
    (if ninth == 87 then 1 else
    (if ninth == 73 then (if get_or text 13 0 == 85 then 2 else 5) else
    (if get_or text 12 0 == 78 then (if get_or text 13 0 == 69 then 3 else 5) else 5))))

abbrev told_kind : Told → ℕ
told_kind Same = 0
told_kind Updated = 2
told_kind NeverLoaded = 3

abbrev kind_of : TblAnswer → ℕ
kind_of Done = 0
kind_of (Number number) = 0
kind_of (Duplicate number) = 1
kind_of (Address told version) = told_kind told
kind_of (State figures) = 0
kind_of (Refused status) = if is_bare status then 5 else 4

refusal_kind : (s : TblStatus) → kind_at (table_answer_text (Refused s)) ≡ kind_of (Refused s)
refusal_kind ErrInvalidHandle = refl
refusal_kind ErrInvalidName = refl
refusal_kind ErrInvalidSize = refl
refusal_kind ErrInvalidOptions = refl
refusal_kind ErrDuplicateNotOwned = refl
refusal_kind ErrDuplicateDiffSize = refl
refusal_kind ErrRegistryFull = refl
refusal_kind ErrHandlesFull = refl
refusal_kind ErrNoAccess = refl
refusal_kind ErrUnregistered = refl
refusal_kind ErrDumpOnly = refl
refusal_kind ErrFileTooLarge = refl
refusal_kind ErrPartialLoad = refl
refusal_kind ErrLoadInProgress = refl
refusal_kind ErrNoBufferAvail = refl
refusal_kind InfoTableLocked = refl
refusal_kind InfoNoUpdatePending = refl
refusal_kind ErrMemBlockSize = refl
refusal_kind NoLoad = refl
refusal_kind NotValidated = refl
refusal_kind (Validation rule) = refl

address_kind : (told : Told) (version : ℕ) → kind_at (table_answer_text (Address told version)) ≡ told_kind told
address_kind Same version = refl
address_kind Updated version = refl
address_kind NeverLoaded version = refl

kind_read : (a : TblAnswer) → kind_at (table_answer_text a) ≡ kind_of a
kind_read Done = refl
kind_read (Number number) = refl
kind_read (Duplicate number) = refl
kind_read (Address told version) = address_kind told version
kind_read (State figures) = refl
kind_read (Refused status) = refusal_kind status

same_kind : (a b : TblAnswer) → table_answer_text a ≡ table_answer_text b → kind_of a ≡ kind_of b
same_kind a b e = sym (kind_read a) ∙ ap kind_at e ∙ kind_read b

-- a refusal's kind is above those of what is told
refusal_high : (s : TblStatus) → 4 ≤ kind_of (Refused s)
refusal_high s = either (is_bare s)
  where
    either : (bare : Bool) → 4 ≤ (if bare then 5 else 4)
    either true = omega arith
    either false = omega arith

told_low : (told : Told) → told_kind told ≤ 3
told_low Same = omega arith
told_low Updated = omega arith
told_low NeverLoaded = omega arith

same_bare : (s t : TblStatus) → is_bare s ≡ true → is_bare t ≡ true → table_answer_text (Refused s) ≡ table_answer_text (Refused t) → s ≡ t
same_bare s t one other e =
    let both : Some s ≡ Some t = sym (refusal_of-text s one) ∙ ap refusal_of e ∙ refusal_of-text t other in cc both

-- refusals that read the same are the same
same_refusal : (s t : TblStatus) → has_short_rule s ≡ true → has_short_rule t ≡ true → table_answer_text (Refused s) ≡ table_answer_text (Refused t) → s ≡ t
same_refusal (Validation m) (Validation n) one other e = ap Validation (decimal_injective m n (short m one) (short n other) (cc e))
same_refusal (Validation m) t one other e = absurd (omega (arith, same_kind (Refused (Validation m)) (Refused t) e))
same_refusal s (Validation n) one other e = absurd (omega (arith, same_kind (Refused s) (Refused (Validation n)) e))
same_refusal s t one other e = same_bare s t refl refl e

abbrev the_figures : ℕ → Bool → ℕ → ℕ → TblState
the_figures version loaded staged holds = record { version = version; loaded = loaded; staged = staged; holds = holds }

alike_figures : (f g : TblState) → f.version ≡ g.version → f.loaded ≡ g.loaded → f.staged ≡ g.staged → f.holds ≡ g.holds → f ≡ g
alike_figures f g version loaded staged holds =
    ap (λ n. the_figures n f.loaded f.staged f.holds) version
    ∙ ap (λ b. the_figures g.version b f.staged f.holds) loaded
    ∙ ap (λ n. the_figures g.version g.loaded n f.holds) staged
    ∙ ap (λ n. the_figures g.version g.loaded g.staged n) holds

flag_word : (loaded : Bool) → above 33 (flag_text loaded) ≡ true
flag_word true = refl
flag_word false = refl

same_flag : (one other : Bool) → flag_text one ≡ flag_text other → one ≡ other
same_flag true true e = refl
same_flag false false e = refl
same_flag true false e = absurd (omega (arith, ap beginning e))
same_flag false true e = absurd (omega (arith, ap beginning e))

-- figures that read the same are the same
same_figures : (f g : TblState) → are_short_table_figures f ≡ true → are_short_table_figures g ≡ true → table_figures_text f ≡ table_figures_text g → f ≡ g
same_figures f g one other e =
    let rest : decimal f.version ++ 32 ∷ (flag_text f.loaded ++ 32 ∷ (decimal f.staged ++ 32 ∷ decimal f.holds))
    ≡ decimal g.version ++ 32 ∷ (flag_text g.loaded ++ 32 ∷ (decimal g.staged ++ 32 ∷ decimal g.holds)) =
    sym (blanks (decimal f.version) (flag_text f.loaded) (decimal f.staged) (decimal f.holds)) ∙ e
    ∙ blanks (decimal g.version) (flag_text g.loaded) (decimal g.staged) (decimal g.holds) in
    let versions = same_fronts f.version g.version _ _ rest in
    let flags = split_once 33 32 (flag_text f.loaded) (flag_text g.loaded) _ _ (omega arith) (flag_word f.loaded) (flag_word g.loaded) versions.1 in
    let staged = same_fronts f.staged g.staged _ _ flags.1 in
    let few = shorts f.version f.staged f.holds one in
    let small = shorts g.version g.staged g.holds other in
    alike_figures f g
    (decimal_injective f.version g.version few.0 small.0 versions.0)
    (same_flag f.loaded g.loaded flags.0)
    (decimal_injective f.staged g.staged few.1 small.1 staged.0)
    (decimal_injective f.holds g.holds few.2 small.2 staged.1)
  where
    blanks : (u v w z : List ℕ) → (((((u ++ 32 ∷ []) ++ v) ++ 32 ∷ []) ++ w) ++ 32 ∷ []) ++ z ≡ u ++ 32 ∷ (v ++ 32 ∷ (w ++ 32 ∷ z))
    blanks u v w z = simp append_assoc

    shorts : (m n k : ℕ) → (nat_lt m (2 ^ 32) && nat_lt n (2 ^ 32) && nat_lt k (2 ^ 32)) ≡ true → (m < 2 ^ 64) × (n < 2 ^ 64) × (k < 2 ^ 64)
    shorts m n k all =
        let front = and_first (nat_lt m (2 ^ 32) && nat_lt n (2 ^ 32)) (nat_lt k (2 ^ 32)) all in (
          short m (and_first (nat_lt m (2 ^ 32)) (nat_lt n (2 ^ 32)) front),
          short n (and_second (nat_lt m (2 ^ 32)) (nat_lt n (2 ^ 32)) front),
          short k (and_second (nat_lt m (2 ^ 32) && nat_lt n (2 ^ 32)) (nat_lt k (2 ^ 32)) all),
        )

-- addresses that read the same are the same
same_address : (told shown : Told) (m n : ℕ) → nat_lt m (2 ^ 32) ≡ true → nat_lt n (2 ^ 32) ≡ true →
    table_answer_text (Address told m) ≡ table_answer_text (Address shown n) → Address told m ≡ Address shown n
same_address Same Same m n one other e = ap (Address Same) (decimal_injective m n (short m one) (short n other) (cc e))
same_address Updated Updated m n one other e = ap (Address Updated) (decimal_injective m n (short m one) (short n other) (ap (drop 21) e))
same_address NeverLoaded NeverLoaded m n one other e = ap (Address NeverLoaded) (decimal_injective m n (short m one) (short n other) (ap (drop 25) e))
same_address told shown m n one other e = absurd (omega (arith, same_kind (Address told m) (Address shown n) e))

-- what an answer of a call that is done tells
data Telling : Type 0 where
  NoMore : Telling
  ANumber : Telling
  ARegistration : Telling
  AnAddress : Telling
  Numbers : Telling

abbrev telling : Call → Telling
telling (Register name size option rules) = ARegistration
telling (Share name) = ANumber
telling (Unregister handle) = NoMore
telling (Stage handle offset bytes) = NoMore
telling (Validate handle) = NoMore
telling (Update handle) = NoMore
telling (Abort handle) = NoMore
telling (Load handle offset bytes) = NoMore
telling (GetAddress handle) = AnAddress
telling (ReleaseAddress handle) = NoMore
telling (Status handle) = Numbers
telling End = NoMore

-- whether an answer tells this, or is a refusal
abbrev tells : TblAnswer → Telling → Bool
tells (Refused status) what = true
tells Done NoMore = true
tells (Number number) ANumber = true
tells (Number number) ARegistration = true
tells (Duplicate number) ARegistration = true
tells (Address told version) AnAddress = true
tells (State figures) Numbers = true
tells a what = false

can_tell : (c : Call) (a : TblAnswer) → can_tables_answer c a ≡ true → tells a (telling c) ≡ true
can_tell c (Refused status) can = refl
can_tell (Register name size option rules) (Number number) can = refl
can_tell (Register name size option rules) (Duplicate number) can = refl
can_tell (Share name) (Number number) can = refl
can_tell (Unregister handle) Done can = refl
can_tell (Stage handle offset bytes) Done can = refl
can_tell (Validate handle) Done can = refl
can_tell (Update handle) Done can = refl
can_tell (Abort handle) Done can = refl
can_tell (Load handle offset bytes) Done can = refl
can_tell (GetAddress handle) (Address told version) can = refl
can_tell (ReleaseAddress handle) Done can = refl
can_tell (Status handle) (State figures) can = refl
can_tell End Done can = refl
can_tell c a can = absurd (cc can)

-- answers that tell one thing and read the same are the same
same_answer : (what : Telling) (a b : TblAnswer) → tells a what ≡ true → tells b what ≡ true →
    has_short_table_numbers a ≡ true → has_short_table_numbers b ≡ true → table_answer_text a ≡ table_answer_text b → a ≡ b
same_answer what (Refused s) (Refused t) tell say one other e = ap Refused (same_refusal s t one other e)
same_answer what Done Done tell say one other e = refl
same_answer what (Number m) (Number n) tell say one other e = ap Number (decimal_injective m n (short m one) (short n other) (cc e))
same_answer what (Duplicate m) (Duplicate n) tell say one other e = ap Duplicate (decimal_injective m n (short m one) (short n other) (ap (drop 23) e))
same_answer what (Address told m) (Address shown n) tell say one other e = same_address told shown m n one other e
same_answer what (State f) (State g) tell say one other e = ap State (same_figures f g one other (cc e))
same_answer what (Number m) (Duplicate n) tell say one other e = absurd (omega (arith, same_kind (Number m) (Duplicate n) e))
same_answer what (Duplicate m) (Number n) tell say one other e = absurd (omega (arith, same_kind (Duplicate m) (Number n) e))
same_answer what (Refused s) (Address shown n) tell say one other e =
    absurd (omega (arith, same_kind (Refused s) (Address shown n) e, refusal_high s, told_low shown))
same_answer what (Address told m) (Refused t) tell say one other e =
    absurd (omega (arith, same_kind (Address told m) (Refused t) e, refusal_high t, told_low told))
same_answer what (Refused s) b tell say one other e = absurd (omega (arith, same_kind (Refused s) b e, refusal_high s))
same_answer what a (Refused t) tell say one other e = absurd (omega (arith, same_kind a (Refused t) e, refusal_high t))
same_answer NoMore a b tell say one other e = absurd (cc)
same_answer ANumber a b tell say one other e = absurd (cc)
same_answer ARegistration a b tell say one other e = absurd (cc)
same_answer AnAddress a b tell say one other e = absurd (cc)
same_answer Numbers a b tell say one other e = absurd (cc)

-- Calls: what is behind a call can be read off, and the kind of its answer. --

-- what two calls tell that read the same: the kind of their answers, and what is behind them
record Tells (c d : Call) (x y : List ℕ) : Type 0 where
  kind : telling c ≡ telling d
  rest : x ≡ y

-- a load's four numbers
load_tells : (h k : ℕ) (o p : ℕ) (bytes octets x y : List ℕ) →
    ((((((decimal h ++ 32 ∷ []) ++ decimal o) ++ 32 ∷ []) ++ decimal (length bytes)) ++ 32 ∷ []) ++ decimal (sum bytes)) ++ 32 ∷ x
    ≡ ((((((decimal k ++ 32 ∷ []) ++ decimal p) ++ 32 ∷ []) ++ decimal (length octets)) ++ 32 ∷ []) ++ decimal (sum octets)) ++ 32 ∷ y → x ≡ y
load_tells h k o p bytes octets x y e =
    split_four (decimal h) (decimal k) (decimal o) (decimal p) (decimal (length bytes)) (decimal (length octets)) (decimal (sum bytes)) (decimal (sum octets)) x y
    (word h) (word k) (word o) (word p) (word (length bytes)) (word (length octets)) (word (sum bytes)) (word (sum octets)) e

call_tells : (c d : Call) (x y : List ℕ) → has_plain_table_name c ≡ true → has_plain_table_name d ≡ true →
    table_call_text c ++ 32 ∷ x ≡ table_call_text d ++ 32 ∷ y → Tells c d x y
call_tells (Register name size option rules) (Register title bytes choice checks) x y plain clear e = record {
  kind = refl;
  rest = split_four (name_text name) (name_text title) (decimal size) (decimal bytes) (decimal option) (decimal choice) (decimal (length rules)) (decimal (length checks)) x y
      (name_word name plain) (name_word title clear) (word size) (word bytes) (word option) (word choice) (word (length rules)) (word (length checks)) (cc e);
}
call_tells (Share name) (Share title) x y plain clear e = record {
  kind = refl;
  rest = behind_word (name_text name) (name_text title) x y (name_word name plain) (name_word title clear) (cc e);
}
call_tells (Unregister handle) (Unregister hold) x y plain clear e = record { kind = refl; rest = behind_number handle hold x y (cc e) }
call_tells (Stage handle offset bytes) (Stage hold place octets) x y plain clear e = record { kind = refl; rest = load_tells handle hold offset place bytes octets x y (cc e) }
call_tells (Validate handle) (Validate hold) x y plain clear e = record { kind = refl; rest = behind_number handle hold x y (cc e) }
call_tells (Update handle) (Update hold) x y plain clear e = record { kind = refl; rest = behind_number handle hold x y (cc e) }
call_tells (Abort handle) (Abort hold) x y plain clear e = record { kind = refl; rest = behind_number handle hold x y (cc e) }
call_tells (Load handle offset bytes) (Load hold place octets) x y plain clear e = record { kind = refl; rest = load_tells handle hold offset place bytes octets x y (cc e) }
call_tells (GetAddress handle) (GetAddress hold) x y plain clear e = record { kind = refl; rest = behind_number handle hold x y (cc e) }
call_tells (ReleaseAddress handle) (ReleaseAddress hold) x y plain clear e = record { kind = refl; rest = behind_number handle hold x y (cc e) }
call_tells (Status handle) (Status hold) x y plain clear e = record { kind = refl; rest = behind_number handle hold x y (cc e) }
call_tells End End x y plain clear e = record { kind = refl; rest = cc e }
call_tells (Register name size option rules) (ReleaseAddress hold) x y plain clear e = absurd (omega (arith, ap fourth e))
call_tells (ReleaseAddress handle) (Register name size option rules) x y plain clear e = absurd (omega (arith, ap fourth e))
call_tells (Stage handle offset bytes) (Status hold) x y plain clear e = absurd (omega (arith, ap fourth e))
call_tells (Status handle) (Stage hold offset bytes) x y plain clear e = absurd (omega (arith, ap fourth e))
call_tells c d x y plain clear e = absurd (omega (arith, ap beginning e))

-- Lines. --

-- a line and what is behind it, word by word
parts_of : (n : ℕ) (e : Entry) (x : List ℕ) →
    table_entry_text n e ++ x
    ≡ decimal n ++ 32 ∷ 97 ∷ (decimal e.app ++ 32 ∷ (table_call_text e.call ++ 32 ∷ 45 ∷ 62 ∷ 32 ∷ (table_answer_text e.answer ++ 10 ∷ x)))
parts_of n e x = line_parts (decimal n) (decimal e.app) (table_call_text e.call) (table_answer_text e.answer) x

-- what two lines tell that read the same
record LinesTell (e f : Entry) (x y : List ℕ) : Type 0 where
  app : e.app ≡ f.app
  answer : e.answer ≡ f.answer
  rest : x ≡ y

line_tells : (n : ℕ) (e f : Entry) (x y : List ℕ) → IsPlainAtTables e → IsPlainAtTables f → table_entry_text n e ++ x ≡ table_entry_text n f ++ y → LinesTell e f x y
line_tells n e f x y one other same =
    let text = sym (parts_of n e x) ∙ same ∙ parts_of n f y in
    let behind = append_cancel_left (decimal n) _ _ text in
    let apps = split_once 33 32 (decimal e.app) (decimal f.app)
    (table_call_text e.call ++ 32 ∷ 45 ∷ 62 ∷ 32 ∷ (table_answer_text e.answer ++ 10 ∷ x)) (table_call_text f.call ++ 32 ∷ 45 ∷ 62 ∷ 32 ∷ (table_answer_text f.answer ++ 10 ∷ y))
    (omega arith) (word e.app) (word f.app) (cc behind) in
    let calls = call_tells e.call f.call (45 ∷ 62 ∷ 32 ∷ (table_answer_text e.answer ++ 10 ∷ x)) (45 ∷ 62 ∷ 32 ∷ (table_answer_text f.answer ++ 10 ∷ y)) one.name other.name apps.1 in
    let answers = split_once 11 10 (table_answer_text e.answer) (table_answer_text f.answer) x y (omega arith) (answer_above e.answer) (answer_above f.answer) (cc calls.rest) in
    record {
      app = decimal_injective e.app f.app (omega (arith, one.app)) (omega (arith, other.app)) apps.0;
      answer = same_answer (telling e.call) e.answer f.answer (can_tell e.call e.answer one.answer)
          (ap (tells f.answer) calls.kind ∙ can_tell f.call f.answer other.answer) one.numbers other.numbers answers.0;
      rest = answers.1;
    }

-- Histories. --

-- a line is no letter's
line_not_letter : (n c : ℕ) (e : Entry) (x y : List ℕ) → 57 < c → table_entry_text n e ++ x ≡ c ∷ y → ⊥
line_not_letter n c e x y letter same = letter_not_decimal n c _ y letter (sym (parts_of n e x) ∙ same)

-- lines that are followed by the line of a letter
pub table_lines_tell : (n c : ℕ) (one other : List Entry) (x y : List ℕ) → 57 < c → All IsPlainAtTables one → All IsPlainAtTables other →
    numbered table_entry_text n one ++ c ∷ x ≡ numbered table_entry_text n other ++ c ∷ y → TablesTellTheSame one other
table_lines_tell n c [] [] x y letter plain clear same = record { apps = refl; answers = refl }
table_lines_tell n c [] (f ∷ fs) x y letter plain clear same =
    absurd (line_not_letter n c f (numbered table_entry_text (n + 1) fs ++ c ∷ y) x letter (sym (append_assoc (table_entry_text n f) (numbered table_entry_text (n + 1) fs) (c ∷ y)) ∙ sym same))
table_lines_tell n c (e ∷ es) [] x y letter plain clear same =
    absurd (line_not_letter n c e (numbered table_entry_text (n + 1) es ++ c ∷ x) y letter (sym (append_assoc (table_entry_text n e) (numbered table_entry_text (n + 1) es) (c ∷ x)) ∙ same))
table_lines_tell n c (e ∷ es) (f ∷ fs) x y letter plain clear same =
    let first = line_tells n e f (numbered table_entry_text (n + 1) es ++ c ∷ x) (numbered table_entry_text (n + 1) fs ++ c ∷ y)
    (All-head IsPlainAtTables e es plain) (All-head IsPlainAtTables f fs clear)
    (sym (append_assoc (table_entry_text n e) (numbered table_entry_text (n + 1) es) (c ∷ x)) ∙ same ∙ append_assoc (table_entry_text n f) (numbered table_entry_text (n + 1) fs) (c ∷ y)) in
    let others = table_lines_tell (n + 1) c es fs x y letter (All-tail IsPlainAtTables e es plain) (All-tail IsPlainAtTables f fs clear) first.rest in
    record { apps = cc (first.app, others.apps); answers = cc (first.answer, others.answers) }

-- what is behind the first letter of the line on tables
abbrev behind : (u t v q : List ℕ) → List ℕ
behind u t v q = codes "ables\n" ++ (u ++ 114 ∷ (codes "eceipts\n" ++ (t ++ (codes "events\n" ++ (v ++ q)))))

-- whole reports: the lines on the bus are followed by those on the tables, these by those on receipts, and by what is behind these
pub reports_tell : (one other : List BusEntry) (tables others : List Entry) (r s x y z w : List ℕ) → All IsPlain one → All IsPlain other →
    All IsPlainAtTables tables → All IsPlainAtTables others →
    numbered entry_text 1 one ++ codes "tables\n" ++ numbered table_entry_text 1 tables ++ codes "receipts\n" ++ r ++ codes "events\n" ++ x ++ z
    ≡ numbered entry_text 1 other ++ codes "tables\n" ++ numbered table_entry_text 1 others ++ codes "receipts\n" ++ s ++ codes "events\n" ++ y ++ w →
    TellTheSame one other × TablesTellTheSame tables others
reports_tell one other tables others r s x y z w plain clear fine sound same =
    let bus = lines_tell 1 116 one other (behind (numbered table_entry_text 1 tables) r x z) (behind (numbered table_entry_text 1 others) s y w) (omega arith) plain clear
    (sym (regroup (numbered entry_text 1 one) (numbered table_entry_text 1 tables) r x z) ∙ same
    ∙ regroup (numbered entry_text 1 other) (numbered table_entry_text 1 others) s y w) in
    let rest : numbered table_entry_text 1 tables ++ 114 ∷ (codes "eceipts\n" ++ (r ++ (codes "events\n" ++ (x ++ z))))
    ≡ numbered table_entry_text 1 others ++ 114 ∷ (codes "eceipts\n" ++ (s ++ (codes "events\n" ++ (y ++ w)))) = cc bus.rest in
    (bus.same, table_lines_tell 1 114 tables others _ _ (omega arith) fine sound rest)
  where
    regroup : (b u t v q : List ℕ) → b ++ codes "tables\n" ++ u ++ codes "receipts\n" ++ t ++ codes "events\n" ++ v ++ q ≡ b ++ 116 ∷ behind u t v q
    regroup b u t v q = simp append_assoc
