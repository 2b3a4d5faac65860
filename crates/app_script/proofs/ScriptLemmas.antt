-- Laws of what was read so far.
use Rattle.std.proofs.Common.{◌≡◌, ℕ, ◌<◌, Bool, true, false, not, ◌&&◌, ◌||◌, eqb, List, [], ◌∷◌, ◌++◌, length, Option, Some, None, refl, sym, ap, ◌∙◌, arith}
use Rattle.std.specs.List.{list_any, list_all}
use Rattle.std.proofs.lemmas.Bool.{eqb-false, ne_eqb, le-leb}
use Rattle.std.proofs.lemmas.List.{length-append}
use Rattle.std.proofs.lemmas.List.Sums.{fold_push}
use Rattle.fsw_base.specs.Starts.{are_distinct_ids, are_count_starts, is_start}
use Rattle.fsw_base.specs.Limits.{Limits}
use Rattle.script_settings.specs.declared.settings.LimitName.{LimitName}
use Rattle.script_settings.specs.declared.settings.LimitName.TheVariants.{MsgIds, Pipes, Dests, Depth, MsgMax, Pool, AppPool, Tables, Handles, TableMax, TablePool}
use Rattle.script_settings.specs.Settings.{with_limit}
use Rattle.script_lines.specs.declared.line.Line.{Line}
use Rattle.script_settings.specs.Accounts.{account_of, with_line, no_calls}
use Rattle.script_words.specs.Counts.{Word}
use Rattle.app_script.specs.declared.forms.Form.{Form}
use Rattle.app_script.specs.Forms.{form_of, file_form, form_in}

-- one line more is counted
pub account_of_push : (lines : List Line) (line : Line) → account_of (lines ++ line ∷ []) ≡ with_line (account_of lines) line
unfolding account_of
account_of_push lines line = fold_push with_line no_calls lines line

or_false : (b : Bool) → (b || false) ≡ b
or_false true = refl
or_false false = refl

-- one item more
pub list_any_push : {X : Type 0} (p : X → Bool) (xs : List X) (x : X) → list_any p (xs ++ x ∷ []) ≡ (list_any p xs || p x)
list_any_push p [] x = or_false (p x)
list_any_push p (y ∷ ys) x = elim (p y) as (λ b. (b || list_any p (ys ++ x ∷ [])) ≡ ((b || list_any p ys) || p x)) [ true ↦ refl | false ↦ list_any_push p ys x ]

pub list_all_push : {X : Type 0} (p : X → Bool) (xs : List X) (x : X) → list_all p xs ≡ true → p x ≡ true → list_all p (xs ++ x ∷ []) ≡ true
list_all_push p [] x all one = ap (λ b. b && true) one
list_all_push p (y ∷ ys) x all one =
    elim (p y) as (λ b. (b && list_all p ys) ≡ true → (b && list_all p (ys ++ x ∷ [])) ≡ true) [ true ↦ λ h. list_all_push p ys x h one | false ↦ λ h. absurd cc ] all

-- the parts of a conjunction, and of a failed disjunction
and_parts : (a b : Bool) → (a && b) ≡ true → (a ≡ true) × (b ≡ true)
and_parts true b h = (refl, h)
and_parts false b h = absurd cc

or_parts : (a b : Bool) → (a || b) ≡ false → (a ≡ false) × (b ≡ false)
or_parts true b h = absurd cc
or_parts false b h = (refl, h)

not_true : (a : Bool) → not a ≡ true → a ≡ false
not_true true h = absurd cc
not_true false h = refl

swapped : (a b : ℕ) → eqb a b ≡ false → eqb b a ≡ false
swapped a b h = ne_eqb b a (λ e. eqb-false a b h (sym e))

-- one id more, which none has
pub distinct_push : (pairs : List (ℕ × ℕ)) (pair : ℕ × ℕ) → are_distinct_ids pairs ≡ true → list_any (λ other. eqb other.0 pair.0) pairs ≡ false → are_distinct_ids (pairs ++ pair ∷ []) ≡ true
distinct_push [] pair distinct none = refl
distinct_push (first ∷ pairs) pair distinct none =
    let parts = and_parts (not (list_any (λ other. eqb other.0 first.0) pairs)) (are_distinct_ids pairs) distinct in
    let others = or_parts (eqb first.0 pair.0) (list_any (λ other. eqb other.0 pair.0) pairs) none in
    let alone : list_any (λ other. eqb other.0 first.0) (pairs ++ pair ∷ []) ≡ false =
    list_any_push (λ other. eqb other.0 first.0) pairs pair ∙ ap (λ b. b || eqb pair.0 first.0) (not_true _ parts.0) ∙ swapped first.0 pair.0 others.0 in
    ap (λ b. not b && are_distinct_ids (pairs ++ pair ∷ [])) alone ∙ distinct_push pairs pair parts.1 others.1

-- one start more
pub starts_push : (pairs : List (ℕ × ℕ)) (pair : ℕ × ℕ) → are_count_starts pairs ≡ true → length pairs < 16 → is_start pair ≡ true → list_any (λ other. eqb other.0 pair.0) pairs ≡ false → are_count_starts (pairs ++ pair ∷ []) ≡ true
starts_push pairs pair starts few start none =
    let first = and_parts _ _ starts in
    let second = and_parts _ _ first.0 in
    let room = le-leb (length (pairs ++ pair ∷ [])) 16 (omega (arith, length-append pairs (pair ∷ []))) in
    rw (room, list_all_push is_start pairs pair second.1 start, distinct_push pairs pair first.1 none) refl

-- the counts at which ids start are apart from the other limits
pub with_limit-starts : (limits : Limits) (name : LimitName) (value : ℕ) (starts : List (ℕ × ℕ)) → record (with_limit limits name value) { starts = starts } ≡ with_limit (record limits { starts = starts }) name value
with_limit-starts limits MsgIds value starts = refl
with_limit-starts limits Pipes value starts = refl
with_limit-starts limits Dests value starts = refl
with_limit-starts limits Depth value starts = refl
with_limit-starts limits MsgMax value starts = refl
with_limit-starts limits Pool value starts = refl
with_limit-starts limits AppPool value starts = refl
with_limit-starts limits Tables value starts = refl
with_limit-starts limits Handles value starts = refl
with_limit-starts limits TableMax value starts = refl
with_limit-starts limits TablePool value starts = refl

-- what is a form in every version is one in each
pub known_form : (version : ℕ) (word : Word) (form : Form) → form_of word ≡ Some form → form_in version word ≡ Some form
unfolding form_in
known_form version word form known = ap (λ (o : Option Form). elim o as (λ _. Option Form) [ Some f ↦ Some f | None ↦ file_form version word ]) known
