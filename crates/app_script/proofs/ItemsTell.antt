-- What was taken in, item by item, stands in the order of a script.
use Rattle.std.proofs.Common.{◌≡◌, ℕ, ◌+◌, Bool, true, false, cond, not, ◌||◌, eqb, nat_le, nat_lt, List, [], ◌∷◌, ◌++◌, length, map, Option, Some, None, Ok, Err, refl, ap, sym, ◌∙◌, subst, append_assoc, append-nil}
use Rattle.std.specs.List.{list_any, flat_map}
use Rattle.std.proofs.lemmas.List.{map_push}
use Rattle.std.proofs.lemmas.List.Sums.{fold_push}
use Rattle.std.proofs.lemmas.Grind.{flat_map-append}
use Rattle.fsw_base.specs.declared.script_faults.FaultKind.TheVariants.{Misplaced, OutOfRange, Repeated, TooManyApps}
use Rattle.fsw_base.specs.Limits.{Limits, usual_limits}
use Rattle.script_words.specs.Readings.{◌>>=◌}
use Rattle.script_words.specs.Text.{is_same}
use Rattle.script_words.specs.Counts.{Word}
use Rattle.script_lines.specs.declared.line.Line.{Line}
use Rattle.script_settings.specs.declared.settings.LimitName.{LimitName}
use Rattle.script_settings.specs.Settings.{limit_number, is_among}
use Rattle.script_lines.proofs.Booleans.{and_first, and_second, both, not_false}
use Rattle.app_script.specs.Items.{Setting, Limit, Sizes, Start, Item, Version, Configures, Begins, Calls}
use Rattle.app_script.specs.Language.{with_setting, version_in, configured, is_same_setting, are_new_settings, app_items, version_items, script_items}
use Rattle.app_script.specs.Script.{Application}
use Rattle.app_script.specs.Grammar.{Progress, opening, apps_of, after_call}
use Rattle.app_script.proofs.ScriptLemmas.{list_any_push}
use Rattle.app_script.proofs.ReadScripts.{set_starts}
use Rattle.app_script.proofs.ItemSteps.{is_again, is_past, named_after, sized_after, with_version, set_to, begun_by, after_item, called, call_read, not_false_is, taken, all_taken, passes}

-- ---- settings

-- what was set so far is what these settings give, in this version
pub record Given (version : ℕ) (settings : List Setting) (limits : Limits) (named : List LimitName) (sized : Bool) : Type 0 where
  pub limits_are : limits ≡ configured version settings
  pub again : (x : Setting) → list_any (λ other. is_same_setting other x) settings ≡ is_again limits named sized x

pub nothing_given : (version : ℕ) → Given version [] (record usual_limits { version = version }) [] false
nothing_given version = record { limits_are = refl; again = none }
  where
    none : (x : Setting) → list_any (λ other. is_same_setting other x) [] ≡ is_again (record usual_limits { version = version }) [] false x
    none (Limit name value) = refl
    none (Sizes sizes) = refl
    none (Start id count) = refl

or_false : (b : Bool) → (b || false) ≡ b
or_false true = refl
or_false false = refl

or_true : (b : Bool) → (b || true) ≡ true
or_true true = refl
or_true false = refl

-- whether it stands among the settings with one more
again_after : (limits : Limits) (named : List LimitName) (sized : Bool) (setting x : Setting) → (is_again limits named sized x || is_same_setting setting x) ≡ is_again (with_setting limits setting) (named_after named setting) (sized_after sized setting) x
again_after limits named sized (Limit name value) (Limit other to) = sym (list_any_push (λ one. eqb (limit_number one) (limit_number other)) named name)
again_after limits named sized (Limit name value) (Sizes sizes) = or_false sized
again_after limits named sized (Limit name value) (Start id count) =
    or_false (list_any (λ other. eqb other.0 id) limits.starts) ∙ ap (list_any (λ other. eqb other.0 id)) (sym (set_starts limits name value))
again_after limits named sized (Sizes all) (Limit other to) = or_false (is_among other named)
again_after limits named sized (Sizes all) (Sizes sizes) = or_true sized
again_after limits named sized (Sizes all) (Start id count) = or_false (list_any (λ other. eqb other.0 id) limits.starts)
again_after limits named sized (Start one from) (Limit other to) = or_false (is_among other named)
again_after limits named sized (Start one from) (Sizes sizes) = or_false sized
again_after limits named sized (Start one from) (Start id count) = sym (list_any_push (λ other. eqb other.0 id) limits.starts (one, from))

pub given_more : (version : ℕ) (settings : List Setting) (limits : Limits) (named : List LimitName) (sized : Bool) (setting : Setting) → Given version settings limits named sized
    → Given version (settings ++ setting ∷ []) (with_setting limits setting) (named_after named setting) (sized_after sized setting)
given_more version settings limits named sized setting given = record {
  limits_are = ap (λ l. with_setting l setting) given.limits_are ∙ sym (fold_push with_setting (record usual_limits { version = version }) settings setting);
  again = λ x. list_any_push (λ other. is_same_setting other x) settings setting ∙ ap (λ b. b || is_same_setting setting x) (given.again x) ∙ again_after limits named sized setting x;
}

new_more : (before settings : List Setting) (setting : Setting) → are_new_settings before settings ≡ true → list_any (λ other. is_same_setting other setting) (before ++ settings) ≡ false → are_new_settings before (settings ++ setting ∷ []) ≡ true
new_more before [] setting h new = both (not_false (ap (list_any (λ other. is_same_setting other setting)) (sym (append-nil before)) ∙ new)) refl
new_more before (first ∷ settings) setting h new =
    let alone = not (list_any (λ other. is_same_setting other first) before) in
    both (and_first alone (are_new_settings (before ++ first ∷ []) settings) h)
    (new_more (before ++ first ∷ []) settings setting (and_second alone (are_new_settings (before ++ first ∷ []) settings) h) (ap (list_any (λ other. is_same_setting other setting)) (append_assoc before (first ∷ []) settings) ∙ new))

-- ---- the order of a script

version_more : (v : Option ℕ) (settings : List Setting) (apps : List Application) (version : ℕ) → v ≡ None → settings ≡ [] → apps ≡ [] → script_items v settings apps ++ Version version ∷ [] ≡ script_items (Some version) settings apps
version_more (Some other) settings apps version a b c = absurd cc
version_more None (x ∷ settings) apps version a b c = absurd cc
version_more None [] (x ∷ apps) version a b c = absurd cc
version_more None [] [] version a b c = refl

-- with the version alone, nothing else was given
version_given : (v : Option ℕ) (settings : List Setting) (limits : Limits) (named : List LimitName) (sized : Bool) (version : ℕ) → v ≡ None → settings ≡ [] → Given (version_in v) settings limits named sized
    → Given version settings (record limits { version = version }) named sized
version_given (Some other) settings limits named sized version a b given = absurd cc
version_given None (x ∷ settings) limits named sized version a b given = absurd cc
version_given None [] limits named sized version a b given = record {
  limits_are = ap (λ (l : Limits). record l { version = version }) given.limits_are;
  again = λ x. given.again x ∙ same x;
}
  where
    same : (x : Setting) → is_again limits named sized x ≡ is_again (record limits { version = version }) named sized x
    same (Limit name value) = refl
    same (Sizes sizes) = refl
    same (Start id count) = refl

setting_more : (v : Option ℕ) (settings : List Setting) (setting : Setting) (apps : List Application) → apps ≡ [] → script_items v settings apps ++ Configures setting ∷ [] ≡ script_items v (settings ++ setting ∷ []) apps
setting_more v settings setting (x ∷ apps) none = absurd cc
setting_more v settings setting [] none =
    ap (λ l. l ++ Configures setting ∷ []) (append-nil (version_items v ++ map Configures settings))
    ∙ append_assoc (version_items v) (map Configures settings) (Configures setting ∷ [])
    ∙ ap (λ l. version_items v ++ l) (sym (map_push Configures settings setting))
    ∙ sym (append-nil (version_items v ++ map Configures (settings ++ setting ∷ [])))

app_more : (v : Option ℕ) (settings : List Setting) (apps : List Application) (app : Application) → script_items v settings apps ++ app_items app ≡ script_items v settings (apps ++ app ∷ [])
app_more v settings apps app =
    let front = version_items v ++ map Configures settings in
    append_assoc front (flat_map app_items apps) (app_items app)
    ∙ ap (λ l. front ++ l) (sym (flat_map-append app_items apps (app ∷ []) ∙ ap (λ l. flat_map app_items apps ++ l) (append-nil (app_items app))))

call_more : (v : Option ℕ) (settings : List Setting) (apps : List Application) (app : Application) (line : Line)
    → script_items v settings (apps ++ app ∷ []) ++ Calls line ∷ [] ≡ script_items v settings (apps ++ record app { lines = app.lines ++ line ∷ [] } ∷ [])
call_more v settings apps app line =
    ap (λ l. l ++ Calls line ∷ []) (sym (app_more v settings apps app))
    ∙ append_assoc (script_items v settings apps) (app_items app) (Calls line ∷ [])
    ∙ ap (λ l. script_items v settings apps ++ (Begins app.name ∷ l)) (sym (map_push Calls app.lines line))
    ∙ app_more v settings apps (record app { lines = app.lines ++ line ∷ [] })

-- ---- what was taken in so far

record Has (items : List Item) (s : Progress) : Type 0 where
  version : Option ℕ
  settings : List Setting
  order : items ≡ script_items version settings (apps_of s)
  given : Given (version_in version) settings s.limits s.named s.sized
  once : are_new_settings [] settings ≡ true
  fresh : s.begun ≡ false → (version ≡ None) × (settings ≡ []) × (apps_of s ≡ [])
  before : s.started ≡ false → apps_of s ≡ []

has_nothing : Has [] opening
has_nothing = record { version = None; settings = []; order = refl; given = nothing_given 1; once = refl; fresh = λ e. (refl, refl, refl); before = λ e. refl }

has_version : (items : List Item) (s u : Progress) (version : ℕ) → Has items s → taken s (Version version) ≡ Ok u → Has (items ++ Version version ∷ []) u
has_version items s u version has e =
    let way = passes s.begun Misplaced (Ok (with_version (record s { begun = true }) version)) u e in
    let same : with_version (record s { begun = true }) version ≡ u = (let f = way.1 in cc) in
    let fresh = has.fresh way.0 in
    subst (Has (items ++ Version version ∷ [])) same (record {
      version = Some version;
      settings = has.settings;
      order = ap (λ l. l ++ Version version ∷ []) has.order ∙ version_more has.version has.settings (apps_of s) version fresh.0 fresh.1 fresh.2;
      given = version_given has.version has.settings s.limits s.named s.sized version fresh.0 fresh.1 has.given;
      once = has.once;
      fresh = λ f. absurd cc;
      before = has.before;
    })

has_setting : (items : List Item) (s u : Progress) (setting : Setting) → Has items s → taken s (Configures setting) ≡ Ok u → Has (items ++ Configures setting ∷ []) u
has_setting items s u setting has e =
    let way = passes s.started Misplaced (after_item (record s { begun = true }) (Configures setting)) u e in
    let room = passes (is_past s.limits setting) OutOfRange (cond (is_again s.limits s.named s.sized setting) (Err Repeated) (Ok (set_to (record s { begun = true }) setting))) u way.1 in
    let new = passes (is_again s.limits s.named s.sized setting) Repeated (Ok (set_to (record s { begun = true }) setting)) u room.1 in
    let same : set_to (record s { begun = true }) setting ≡ u = (let f = new.1 in cc) in
    subst (Has (items ++ Configures setting ∷ [])) same (record {
      version = has.version;
      settings = has.settings ++ setting ∷ [];
      order = ap (λ l. l ++ Configures setting ∷ []) has.order ∙ setting_more has.version has.settings setting (apps_of s) (has.before way.0);
      given = given_more (version_in has.version) has.settings s.limits s.named s.sized setting has.given;
      once = new_more [] has.settings setting has.once (has.given.again setting ∙ new.0);
      fresh = λ f. absurd cc;
      before = has.before;
    })

has_app : (items : List Item) (s u : Progress) (name : Word) → Has items s → taken s (Begins name) ≡ Ok u → Has (items ++ Begins name ∷ []) u
has_app items s u name has e =
    let new = passes (list_any (λ app. is_same app.name name) (apps_of s)) Repeated (cond (nat_le 16 (length (apps_of s))) (Err TooManyApps) (Ok (begun_by (record s { begun = true }) name))) u e in
    let room = passes (nat_le 16 (length (apps_of s))) TooManyApps (Ok (begun_by (record s { begun = true }) name)) u new.1 in
    let same : begun_by (record s { begun = true }) name ≡ u = (let f = room.1 in cc) in
    subst (Has (items ++ Begins name ∷ [])) same (record {
      version = has.version;
      settings = has.settings;
      order = ap (λ l. l ++ Begins name ∷ []) has.order ∙ app_more has.version has.settings (apps_of s) (record { name = name; lines = [] });
      given = has.given;
      once = has.once;
      fresh = λ f. absurd cc;
      before = λ f. absurd cc;
    })

apps_begun : (s : Progress) (present : Application) → s.started ≡ true → cond s.started (s.done ++ present ∷ []) s.done ≡ s.done ++ present ∷ []
apps_begun s present e = ap (λ b. cond b (s.done ++ present ∷ []) s.done) e

has_call : (items : List Item) (s u : Progress) (line : Line) → Has items s → taken s (Calls line) ≡ Ok u → Has (items ++ Calls line ∷ []) u
has_call items s u line has e =
    let way = passes (not s.started) Misplaced (after_call (record s { begun = true }) line) u e in
    let started = not_false_is s.started way.0 in
    let now = record s { begun = true } in
    subst (Has (items ++ Calls line ∷ [])) (call_read now u line way.1) (record {
      version = has.version;
      settings = has.settings;
      order = ap (λ l. l ++ Calls line ∷ []) (has.order ∙ ap (script_items has.version has.settings) (apps_begun s s.present started))
          ∙ call_more has.version has.settings s.done s.present line
          ∙ ap (script_items has.version has.settings) (sym (apps_begun s (record s.present { lines = s.present.lines ++ line ∷ [] }) started));
      given = has.given;
      once = has.once;
      fresh = λ f. absurd cc;
      before = λ f. let g : true ≡ false = sym started ∙ f in absurd cc;
    })

has_item : (items : List Item) (s u : Progress) (item : Item) → Has items s → taken s item ≡ Ok u → Has (items ++ item ∷ []) u
has_item items s u (Version version) has e = has_version items s u version has e
has_item items s u (Configures setting) has e = has_setting items s u setting has e
has_item items s u (Begins name) has e = has_app items s u name has e
has_item items s u (Calls line) has e = has_call items s u line has e

has_all : (rest items : List Item) (s t : Progress) → Has items s → all_taken s rest ≡ Ok t → Has (items ++ rest) t
has_all [] items s t has e =
    let same : s ≡ t = cc in
    subst (λ l. Has l t) (sym (append-nil items)) (subst (Has items) same has)
has_all (item ∷ rest) items s t has e =
    elim (taken s item) as (λ r. taken s item ≡ r → (r >>= λ u. all_taken u rest) ≡ Ok t → Has (items ++ item ∷ rest) t) [
      | Ok u ↦ λ one h. subst (λ l. Has l t) (append_assoc items (item ∷ []) rest) (has_all rest (items ++ item ∷ []) u t (has_item items s u item has one) h)
      | Err fault ↦ λ one h. absurd cc
    ] refl e

-- what was taken in is a script's version, settings and applications
pub record InOrder (items : List Item) (s : Progress) : Type 0 where
  pub version : Option ℕ
  pub settings : List Setting
  pub order : items ≡ script_items version settings (apps_of s)
  pub limits : s.limits ≡ configured (version_in version) settings
  pub once : are_new_settings [] settings ≡ true

pub in_order : (items : List Item) (t : Progress) → all_taken opening items ≡ Ok t → InOrder items t
in_order items t e =
    let has = has_all items [] opening t has_nothing e in
    record { version = has.version; settings = has.settings; order = has.order; limits = has.given.limits_are; once = has.once }
