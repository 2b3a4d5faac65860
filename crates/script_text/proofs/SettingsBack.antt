-- The version and the settings of a script are read again from their spelling.
use Rattle.std.proofs.Common.{◌≡◌, ℕ, ◌+◌, ◌<◌, Bool, true, false, cond, not, ◌&&◌, ◌||◌, eqb, ltb, nat_le, List, [], ◌∷◌, ◌++◌, length, map, Some, Ok, refl, ap, sym, ◌∙◌, subst, arith, append_assoc, append-nil, codes, decimal}
use Rattle.std.specs.List.{list_all, list_any, flat_map}
use Rattle.std.proofs.lemmas.Bool.{eqb-true, ne_eqb, eqb-false, lt-ltb, ltb-true, leb-true, le-leb, lt-leb}
use Rattle.std.proofs.lemmas.List.{length-append}
use Rattle.fsw_base.specs.Limits.{Limits, usual_limits}
use Rattle.fsw_base.specs.Blocks.{are_block_sizes, are_rising_from, usual_sizes}
use Rattle.fsw_base.specs.Starts.{are_distinct_ids, are_count_starts, is_start}
use Rattle.text_page.specs.Texts.{hex_id}
use Rattle.script_words.specs.Numbers.{number_of}
use Rattle.script_words.specs.Text.{is_same}
use Rattle.script_words.specs.Counts.{Word, next, none, one, two, few}
use Rattle.script_text.specs.Spelling.{spaced}
use Rattle.script_lines.proofs.Booleans.{and_first, and_second, both, all_append, all_weaker}
use Rattle.script_text.proofs.WordLemmas.{IsWord, AreWords, no_words, ◌◃◌, keyword}
use Rattle.script_text.proofs.SpelledNumbers.{number_reads, number_fits, within_reads, within_most, id_reads, id_fits}
use Rattle.script_text.proofs.SpelledWords.{each-same, elements_fit, map_length}
use Rattle.script_settings.specs.declared.settings.LimitName.{LimitName}
use Rattle.script_settings.specs.declared.settings.LimitName.TheVariants.{MsgIds, Pipes, Dests, Depth, MsgMax, Pool, AppPool, Tables, Handles, TableMax, TablePool}
use Rattle.app_script.specs.declared.forms.Form.TheVariants.{Script, Set, Sizes, Seq}
use Rattle.app_script.specs.Forms.{form_of}
use Rattle.script_settings.specs.Settings.{limit_name, limit_number, least, greatest, with_limit, is_among, limit_named, set_of, some_words, sizes_within, sizes_of, seq_of, is_version, script_of}
use Rattle.app_script.specs.Grammar.{Progress, opening, after_version, after_set, after_sizes, after_seq, after_form, after_line}
use Rattle.app_script.specs.ScriptRanges.{limit_of}
use Rattle.script_text.specs.ScriptSpelling.{version_lines, limit_word, set_lines_of, set_lines, sizes_lines, seq_text}
use Rattle.app_script.specs.ScriptRanges.{are_limits}
use Rattle.script_text.proofs.PrintLemmas.{same_numbers}
use Rattle.script_text.proofs.LinesAgain.{Leads, leads_none, leads_one, leads_then, known_line, spaced_line}

-- ---- limits

-- before the first application: these limits, and no limit set from number k on
pub record Configuring (limits : Limits) (k : ℕ) (s : Progress) : Type 0 where
  pub has : s.limits ≡ limits
  pub named : list_all (λ other. ltb (limit_number other) k) s.named ≡ true
  pub sized : s.sized ≡ false
  pub started : s.started ≡ false
  pub done : s.done ≡ []
  pub calls : s.calls ≡ 0
  pub charged : s.charged ≡ 0

named_reads : (name : LimitName) → limit_named (limit_word name) ≡ Ok name
unfolding limit_named limit_name
named_reads MsgIds = refl
named_reads Pipes = refl
named_reads Dests = refl
named_reads Depth = refl
named_reads MsgMax = refl
named_reads Pool = refl
named_reads AppPool = refl
named_reads Tables = refl
named_reads Handles = refl
named_reads TableMax = refl
named_reads TablePool = refl

name_fits : (name : LimitName) → IsWord 9 (limit_word name)
name_fits MsgIds = record { form = refl; short = omega arith }
name_fits Pipes = record { form = refl; short = omega arith }
name_fits Dests = record { form = refl; short = omega arith }
name_fits Depth = record { form = refl; short = omega arith }
name_fits MsgMax = record { form = refl; short = omega arith }
name_fits Pool = record { form = refl; short = omega arith }
name_fits AppPool = record { form = refl; short = omega arith }
name_fits Tables = record { form = refl; short = omega arith }
name_fits Handles = record { form = refl; short = omega arith }
name_fits TableMax = record { form = refl; short = omega arith }
name_fits TablePool = record { form = refl; short = omega arith }

greatest_small : (name : LimitName) → nat_le (greatest name) 4294967295 ≡ true
greatest_small MsgIds = refl
greatest_small Pipes = refl
greatest_small Dests = refl
greatest_small Depth = refl
greatest_small MsgMax = refl
greatest_small Pool = refl
greatest_small AppPool = refl
greatest_small Tables = refl
greatest_small Handles = refl
greatest_small TableMax = refl
greatest_small TablePool = refl

with_same : (limits : Limits) (name : LimitName) → with_limit limits name (limit_of limits name) ≡ limits
with_same limits MsgIds = refl
with_same limits Pipes = refl
with_same limits Dests = refl
with_same limits Depth = refl
with_same limits MsgMax = refl
with_same limits Pool = refl
with_same limits AppPool = refl
with_same limits Tables = refl
with_same limits Handles = refl
with_same limits TableMax = refl
with_same limits TablePool = refl

set_reads : (name : LimitName) (value : ℕ) → nat_le (least name) value ≡ true → nat_le value (greatest name) ≡ true → set_of (limit_word name ∷ decimal value ∷ []) ≡ Ok (name, value)
unfolding set_of two one next none
set_reads name value from to =
    let a = named_reads name in
    let b = number_reads (greatest name) value to (greatest_small name) in
    let c = within_reads (least name) (greatest name) value from to in
    rw a (rw b (rw c refl))

not_among : (name : LimitName) (names : List LimitName) → list_all (λ other. ltb (limit_number other) (limit_number name)) names ≡ true → is_among name names ≡ false
not_among name [] h = refl
not_among name (other ∷ names) h =
    let less = ltb-true (limit_number other) (limit_number name) (and_first (ltb (limit_number other) (limit_number name)) (list_all (λ o. ltb (limit_number o) (limit_number name)) names) h) in
    let differs : eqb (limit_number other) (limit_number name) ≡ false = ne_eqb (limit_number other) (limit_number name) (λ e. omega arith) in
    ap (λ b. b || is_among name names) differs ∙ not_among name names (and_second (ltb (limit_number other) (limit_number name)) (list_all (λ o. ltb (limit_number o) (limit_number name)) names) h)

below_next : (k : ℕ) (other : LimitName) → ltb (limit_number other) k ≡ true → ltb (limit_number other) (k + 1) ≡ true
below_next k other h = let less = ltb-true (limit_number other) k h in lt-ltb (limit_number other) (k + 1) (omega arith)

set_known : form_of (codes "set") ≡ Some Set
unfolding form_of
set_known = refl

-- a set line is read
set_line : (s : Progress) (limits : Limits) (name : LimitName) (value : ℕ) → Configuring limits (limit_number name) s → nat_le (least name) value ≡ true → nat_le value (greatest name) ≡ true
    → (t : Progress) × (after_line s (spaced (codes "set" ∷ limit_word name ∷ decimal value ∷ [])) ≡ Ok t) × Configuring (with_limit limits name value) (limit_number name + 1) t
unfolding after_form after_set
set_line s limits name value now from to =
    let are : AreWords 30 (codes "set" ∷ limit_word name ∷ decimal value ∷ []) = keyword (codes "set") refl refl ◃ name_fits name ◃ number_fits (greatest name) value to (greatest_small name) ◃ no_words in
    let spelled = spaced_line (codes "set") (limit_word name ∷ decimal value ∷ []) are (omega arith) in
    let text = spaced (codes "set" ∷ limit_word name ∷ decimal value ∷ []) in
    let line = known_line s (spaced (codes "set" ∷ limit_word name ∷ decimal value ∷ [])) (codes "set") (limit_word name ∷ decimal value ∷ []) Set spelled.short spelled.printed spelled.words refl set_known now.started in
    let reads = set_reads name value from to in
    let fresh : is_among name s.named ≡ false = not_among name s.named now.named in
    let after : after_set (record s { begun = true }) (limit_word name ∷ decimal value ∷ []) ≡ Ok (record s { begun = true; limits = with_limit s.limits name value; named = s.named ++ name ∷ [] }) = rw reads (rw fresh refl) in (
      (record s { begun = true; limits = with_limit s.limits name value; named = s.named ++ name ∷ [] }),
      line ∙ ap (after_set (record s { begun = true })) spelled.back ∙ after,
      record {
        has = ap (λ l. with_limit l name value) now.has;
        named = all_append (λ other. ltb (limit_number other) (limit_number name + 1)) s.named (name ∷ []) (all_weaker (λ other. ltb (limit_number other) (limit_number name)) (λ other. ltb (limit_number other) (limit_number name + 1)) (below_next (limit_number name)) s.named now.named)
            (both (lt-ltb (limit_number name) (limit_number name + 1) (omega arith)) refl);
        sized = now.sized;
        started = now.started;
        done = now.done;
        calls = now.calls;
        charged = now.charged;
      },
    )

-- a limit that is set, or the usual one
pub set_leads : (s : Progress) (limits : Limits) (name : LimitName) (value : ℕ) → Configuring limits (limit_number name) s → limit_of limits name ≡ limit_of usual_limits name → (nat_le (least name) value && nat_le value (greatest name)) ≡ true
    → Leads s (set_lines_of name value) (Configuring (with_limit limits name value) (limit_number name + 1))
unfolding set_lines_of
set_leads s limits name value now usual range =
    elim (eqb value (limit_of usual_limits name)) as (λ b. eqb value (limit_of usual_limits name) ≡ b → Leads s (cond b [] (spaced (codes "set" ∷ limit_word name ∷ decimal value ∷ []) ∷ [])) (Configuring (with_limit limits name value) (limit_number name + 1))) [
      | true ↦ λ e.
          let same : value ≡ limit_of limits name = eqb-true value (limit_of usual_limits name) e ∙ sym usual in
          leads_none s (Configuring (with_limit limits name value) (limit_number name + 1)) (record {
            has = now.has ∙ sym (ap (with_limit limits name) same ∙ with_same limits name);
            named = all_weaker (λ other. ltb (limit_number other) (limit_number name)) (λ other. ltb (limit_number other) (limit_number name + 1)) (below_next (limit_number name)) s.named now.named;
            sized = now.sized;
            started = now.started;
            done = now.done;
            calls = now.calls;
            charged = now.charged;
          })
      | false ↦ λ e. leads_one s (spaced (codes "set" ∷ limit_word name ∷ decimal value ∷ [])) (Configuring (with_limit limits name value) (limit_number name + 1))
          (set_line s limits name value now (and_first (nat_le (least name) value) (nat_le value (greatest name)) range) (and_second (nat_le (least name) value) (nat_le value (greatest name)) range))
    ] refl

-- ---- all limits

-- whether a limit is in its range
abbrev in_range : Limits → LimitName → Bool
in_range limits name = nat_le (least name) (limit_of limits name) && nat_le (limit_of limits name) (greatest name)

range_of : (limits : Limits) (names : List LimitName) (name : LimitName) → list_all (in_range limits) (name ∷ names) ≡ true → in_range limits name ≡ true
range_of limits names name h = and_first (in_range limits name) (list_all (in_range limits) names) h

ranges_behind : (limits : Limits) (names : List LimitName) (name : LimitName) → list_all (in_range limits) (name ∷ names) ≡ true → list_all (in_range limits) names ≡ true
ranges_behind limits names name h = and_second (in_range limits name) (list_all (in_range limits) names) h

-- the limits with those before a place set
abbrev set_0 : Limits → Limits
set_0 limits = record usual_limits { version = limits.version }

abbrev set_1 : Limits → Limits
set_1 limits = with_limit (set_0 limits) MsgIds (limit_of limits MsgIds)

abbrev set_2 : Limits → Limits
set_2 limits = with_limit (set_1 limits) Pipes (limit_of limits Pipes)

abbrev set_3 : Limits → Limits
set_3 limits = with_limit (set_2 limits) Dests (limit_of limits Dests)

abbrev set_4 : Limits → Limits
set_4 limits = with_limit (set_3 limits) Depth (limit_of limits Depth)

abbrev set_5 : Limits → Limits
set_5 limits = with_limit (set_4 limits) MsgMax (limit_of limits MsgMax)

abbrev set_6 : Limits → Limits
set_6 limits = with_limit (set_5 limits) Pool (limit_of limits Pool)

abbrev set_7 : Limits → Limits
set_7 limits = with_limit (set_6 limits) AppPool (limit_of limits AppPool)

abbrev set_8 : Limits → Limits
set_8 limits = with_limit (set_7 limits) Tables (limit_of limits Tables)

abbrev set_9 : Limits → Limits
set_9 limits = with_limit (set_8 limits) Handles (limit_of limits Handles)

abbrev set_10 : Limits → Limits
set_10 limits = with_limit (set_9 limits) TableMax (limit_of limits TableMax)

abbrev set_11 : Limits → Limits
set_11 limits = with_limit (set_10 limits) TablePool (limit_of limits TablePool)

abbrev lines_from : Limits → List LimitName → List (List ℕ)
lines_from limits names = flat_map (λ name. set_lines_of name (limit_of limits name)) names

leads_11 : (limits : Limits) (s : Progress) → Configuring (set_11 limits) 11 s → Leads s [] (Configuring (record limits { sizes = usual_sizes; starts = [] }) 11)
leads_11 limits s now = leads_none s (Configuring (record limits { sizes = usual_sizes; starts = [] }) 11) now

leads_10 : (limits : Limits) (s : Progress) → list_all (in_range limits) (TablePool ∷ []) ≡ true → Configuring (set_10 limits) 10 s → Leads s (lines_from limits (TablePool ∷ [])) (Configuring (record limits { sizes = usual_sizes; starts = [] }) 11)
leads_10 limits s h now =
    leads_then s (set_lines_of TablePool (limit_of limits TablePool)) (lines_from limits []) (Configuring (set_11 limits) 11) (Configuring (record limits { sizes = usual_sizes; starts = [] }) 11)
    (set_leads s (set_10 limits) TablePool (limit_of limits TablePool) now refl (range_of limits [] TablePool h)) (λ t now. leads_11 limits t now)

leads_9 : (limits : Limits) (s : Progress) → list_all (in_range limits) (TableMax ∷ TablePool ∷ []) ≡ true → Configuring (set_9 limits) 9 s → Leads s (lines_from limits (TableMax ∷ TablePool ∷ [])) (Configuring (record limits { sizes = usual_sizes; starts = [] }) 11)
leads_9 limits s h now =
    leads_then s (set_lines_of TableMax (limit_of limits TableMax)) (lines_from limits (TablePool ∷ [])) (Configuring (set_10 limits) 10) (Configuring (record limits { sizes = usual_sizes; starts = [] }) 11)
    (set_leads s (set_9 limits) TableMax (limit_of limits TableMax) now refl (range_of limits (TablePool ∷ []) TableMax h)) (λ t now. leads_10 limits t (ranges_behind limits (TablePool ∷ []) TableMax h) now)

leads_8 : (limits : Limits) (s : Progress) → list_all (in_range limits) (Handles ∷ TableMax ∷ TablePool ∷ []) ≡ true → Configuring (set_8 limits) 8 s → Leads s (lines_from limits (Handles ∷ TableMax ∷ TablePool ∷ [])) (Configuring (record limits { sizes = usual_sizes; starts = [] }) 11)
leads_8 limits s h now =
    leads_then s (set_lines_of Handles (limit_of limits Handles)) (lines_from limits (TableMax ∷ TablePool ∷ [])) (Configuring (set_9 limits) 9) (Configuring (record limits { sizes = usual_sizes; starts = [] }) 11)
    (set_leads s (set_8 limits) Handles (limit_of limits Handles) now refl (range_of limits (TableMax ∷ TablePool ∷ []) Handles h)) (λ t now. leads_9 limits t (ranges_behind limits (TableMax ∷ TablePool ∷ []) Handles h) now)

leads_7 : (limits : Limits) (s : Progress) → list_all (in_range limits) (Tables ∷ Handles ∷ TableMax ∷ TablePool ∷ []) ≡ true → Configuring (set_7 limits) 7 s → Leads s (lines_from limits (Tables ∷ Handles ∷ TableMax ∷ TablePool ∷ [])) (Configuring (record limits { sizes = usual_sizes; starts = [] }) 11)
leads_7 limits s h now =
    leads_then s (set_lines_of Tables (limit_of limits Tables)) (lines_from limits (Handles ∷ TableMax ∷ TablePool ∷ [])) (Configuring (set_8 limits) 8) (Configuring (record limits { sizes = usual_sizes; starts = [] }) 11)
    (set_leads s (set_7 limits) Tables (limit_of limits Tables) now refl (range_of limits (Handles ∷ TableMax ∷ TablePool ∷ []) Tables h)) (λ t now. leads_8 limits t (ranges_behind limits (Handles ∷ TableMax ∷ TablePool ∷ []) Tables h) now)

leads_6 : (limits : Limits) (s : Progress) → list_all (in_range limits) (AppPool ∷ Tables ∷ Handles ∷ TableMax ∷ TablePool ∷ []) ≡ true → Configuring (set_6 limits) 6 s → Leads s (lines_from limits (AppPool ∷ Tables ∷ Handles ∷ TableMax ∷ TablePool ∷ [])) (Configuring (record limits { sizes = usual_sizes; starts = [] }) 11)
leads_6 limits s h now =
    leads_then s (set_lines_of AppPool (limit_of limits AppPool)) (lines_from limits (Tables ∷ Handles ∷ TableMax ∷ TablePool ∷ [])) (Configuring (set_7 limits) 7) (Configuring (record limits { sizes = usual_sizes; starts = [] }) 11)
    (set_leads s (set_6 limits) AppPool (limit_of limits AppPool) now refl (range_of limits (Tables ∷ Handles ∷ TableMax ∷ TablePool ∷ []) AppPool h)) (λ t now. leads_7 limits t (ranges_behind limits (Tables ∷ Handles ∷ TableMax ∷ TablePool ∷ []) AppPool h) now)

leads_5 : (limits : Limits) (s : Progress) → list_all (in_range limits) (Pool ∷ AppPool ∷ Tables ∷ Handles ∷ TableMax ∷ TablePool ∷ []) ≡ true → Configuring (set_5 limits) 5 s → Leads s (lines_from limits (Pool ∷ AppPool ∷ Tables ∷ Handles ∷ TableMax ∷ TablePool ∷ [])) (Configuring (record limits { sizes = usual_sizes; starts = [] }) 11)
leads_5 limits s h now =
    leads_then s (set_lines_of Pool (limit_of limits Pool)) (lines_from limits (AppPool ∷ Tables ∷ Handles ∷ TableMax ∷ TablePool ∷ [])) (Configuring (set_6 limits) 6) (Configuring (record limits { sizes = usual_sizes; starts = [] }) 11)
    (set_leads s (set_5 limits) Pool (limit_of limits Pool) now refl (range_of limits (AppPool ∷ Tables ∷ Handles ∷ TableMax ∷ TablePool ∷ []) Pool h)) (λ t now. leads_6 limits t (ranges_behind limits (AppPool ∷ Tables ∷ Handles ∷ TableMax ∷ TablePool ∷ []) Pool h) now)

leads_4 : (limits : Limits) (s : Progress) → list_all (in_range limits) (MsgMax ∷ Pool ∷ AppPool ∷ Tables ∷ Handles ∷ TableMax ∷ TablePool ∷ []) ≡ true → Configuring (set_4 limits) 4 s → Leads s (lines_from limits (MsgMax ∷ Pool ∷ AppPool ∷ Tables ∷ Handles ∷ TableMax ∷ TablePool ∷ [])) (Configuring (record limits { sizes = usual_sizes; starts = [] }) 11)
leads_4 limits s h now =
    leads_then s (set_lines_of MsgMax (limit_of limits MsgMax)) (lines_from limits (Pool ∷ AppPool ∷ Tables ∷ Handles ∷ TableMax ∷ TablePool ∷ [])) (Configuring (set_5 limits) 5) (Configuring (record limits { sizes = usual_sizes; starts = [] }) 11)
    (set_leads s (set_4 limits) MsgMax (limit_of limits MsgMax) now refl (range_of limits (Pool ∷ AppPool ∷ Tables ∷ Handles ∷ TableMax ∷ TablePool ∷ []) MsgMax h)) (λ t now. leads_5 limits t (ranges_behind limits (Pool ∷ AppPool ∷ Tables ∷ Handles ∷ TableMax ∷ TablePool ∷ []) MsgMax h) now)

leads_3 : (limits : Limits) (s : Progress) → list_all (in_range limits) (Depth ∷ MsgMax ∷ Pool ∷ AppPool ∷ Tables ∷ Handles ∷ TableMax ∷ TablePool ∷ []) ≡ true → Configuring (set_3 limits) 3 s → Leads s (lines_from limits (Depth ∷ MsgMax ∷ Pool ∷ AppPool ∷ Tables ∷ Handles ∷ TableMax ∷ TablePool ∷ [])) (Configuring (record limits { sizes = usual_sizes; starts = [] }) 11)
leads_3 limits s h now =
    leads_then s (set_lines_of Depth (limit_of limits Depth)) (lines_from limits (MsgMax ∷ Pool ∷ AppPool ∷ Tables ∷ Handles ∷ TableMax ∷ TablePool ∷ [])) (Configuring (set_4 limits) 4) (Configuring (record limits { sizes = usual_sizes; starts = [] }) 11)
    (set_leads s (set_3 limits) Depth (limit_of limits Depth) now refl (range_of limits (MsgMax ∷ Pool ∷ AppPool ∷ Tables ∷ Handles ∷ TableMax ∷ TablePool ∷ []) Depth h)) (λ t now. leads_4 limits t (ranges_behind limits (MsgMax ∷ Pool ∷ AppPool ∷ Tables ∷ Handles ∷ TableMax ∷ TablePool ∷ []) Depth h) now)

leads_2 : (limits : Limits) (s : Progress) → list_all (in_range limits) (Dests ∷ Depth ∷ MsgMax ∷ Pool ∷ AppPool ∷ Tables ∷ Handles ∷ TableMax ∷ TablePool ∷ []) ≡ true → Configuring (set_2 limits) 2 s → Leads s (lines_from limits (Dests ∷ Depth ∷ MsgMax ∷ Pool ∷ AppPool ∷ Tables ∷ Handles ∷ TableMax ∷ TablePool ∷ [])) (Configuring (record limits { sizes = usual_sizes; starts = [] }) 11)
leads_2 limits s h now =
    leads_then s (set_lines_of Dests (limit_of limits Dests)) (lines_from limits (Depth ∷ MsgMax ∷ Pool ∷ AppPool ∷ Tables ∷ Handles ∷ TableMax ∷ TablePool ∷ [])) (Configuring (set_3 limits) 3) (Configuring (record limits { sizes = usual_sizes; starts = [] }) 11)
    (set_leads s (set_2 limits) Dests (limit_of limits Dests) now refl (range_of limits (Depth ∷ MsgMax ∷ Pool ∷ AppPool ∷ Tables ∷ Handles ∷ TableMax ∷ TablePool ∷ []) Dests h)) (λ t now. leads_3 limits t (ranges_behind limits (Depth ∷ MsgMax ∷ Pool ∷ AppPool ∷ Tables ∷ Handles ∷ TableMax ∷ TablePool ∷ []) Dests h) now)

leads_1 : (limits : Limits) (s : Progress) → list_all (in_range limits) (Pipes ∷ Dests ∷ Depth ∷ MsgMax ∷ Pool ∷ AppPool ∷ Tables ∷ Handles ∷ TableMax ∷ TablePool ∷ []) ≡ true → Configuring (set_1 limits) 1 s → Leads s (lines_from limits (Pipes ∷ Dests ∷ Depth ∷ MsgMax ∷ Pool ∷ AppPool ∷ Tables ∷ Handles ∷ TableMax ∷ TablePool ∷ [])) (Configuring (record limits { sizes = usual_sizes; starts = [] }) 11)
leads_1 limits s h now =
    leads_then s (set_lines_of Pipes (limit_of limits Pipes)) (lines_from limits (Dests ∷ Depth ∷ MsgMax ∷ Pool ∷ AppPool ∷ Tables ∷ Handles ∷ TableMax ∷ TablePool ∷ [])) (Configuring (set_2 limits) 2) (Configuring (record limits { sizes = usual_sizes; starts = [] }) 11)
    (set_leads s (set_1 limits) Pipes (limit_of limits Pipes) now refl (range_of limits (Dests ∷ Depth ∷ MsgMax ∷ Pool ∷ AppPool ∷ Tables ∷ Handles ∷ TableMax ∷ TablePool ∷ []) Pipes h)) (λ t now. leads_2 limits t (ranges_behind limits (Dests ∷ Depth ∷ MsgMax ∷ Pool ∷ AppPool ∷ Tables ∷ Handles ∷ TableMax ∷ TablePool ∷ []) Pipes h) now)

leads_0 : (limits : Limits) (s : Progress) → list_all (in_range limits) (MsgIds ∷ Pipes ∷ Dests ∷ Depth ∷ MsgMax ∷ Pool ∷ AppPool ∷ Tables ∷ Handles ∷ TableMax ∷ TablePool ∷ []) ≡ true → Configuring (set_0 limits) 0 s → Leads s (lines_from limits (MsgIds ∷ Pipes ∷ Dests ∷ Depth ∷ MsgMax ∷ Pool ∷ AppPool ∷ Tables ∷ Handles ∷ TableMax ∷ TablePool ∷ [])) (Configuring (record limits { sizes = usual_sizes; starts = [] }) 11)
leads_0 limits s h now =
    leads_then s (set_lines_of MsgIds (limit_of limits MsgIds)) (lines_from limits (Pipes ∷ Dests ∷ Depth ∷ MsgMax ∷ Pool ∷ AppPool ∷ Tables ∷ Handles ∷ TableMax ∷ TablePool ∷ [])) (Configuring (set_1 limits) 1) (Configuring (record limits { sizes = usual_sizes; starts = [] }) 11)
    (set_leads s (set_0 limits) MsgIds (limit_of limits MsgIds) now refl (range_of limits (Pipes ∷ Dests ∷ Depth ∷ MsgMax ∷ Pool ∷ AppPool ∷ Tables ∷ Handles ∷ TableMax ∷ TablePool ∷ []) MsgIds h)) (λ t now. leads_1 limits t (ranges_behind limits (Pipes ∷ Dests ∷ Depth ∷ MsgMax ∷ Pool ∷ AppPool ∷ Tables ∷ Handles ∷ TableMax ∷ TablePool ∷ []) MsgIds h) now)

-- ---- the version

version_reads : (version : ℕ) → is_version version ≡ true → script_of (decimal version ∷ []) ≡ Ok version
unfolding script_of one next none
version_reads version h =
    let from = and_first (nat_le 1 version) (nat_le version 2) h in
    let to = and_second (nat_le 1 version) (nat_le version 2) h in
    let a = number_reads 2 version to refl in
    rw a (within_reads 1 2 version from to)

script_known : form_of (codes "script") ≡ Some Script
unfolding form_of
script_known = refl

version_line : (limits : Limits) → is_version limits.version ≡ true → (t : Progress) × (after_line opening (spaced (codes "script" ∷ decimal limits.version ∷ [])) ≡ Ok t) × Configuring (set_0 limits) 0 t
unfolding after_form after_version
version_line limits h =
    let word = decimal limits.version in
    let are : AreWords 20 (codes "script" ∷ word ∷ []) = keyword (codes "script") refl refl ◃ number_fits 2 limits.version (and_second (nat_le 1 limits.version) (nat_le limits.version 2) h) refl ◃ no_words in
    let spelled = spaced_line (codes "script") (word ∷ []) are (omega arith) in
    let line = known_line opening (spaced (codes "script" ∷ word ∷ [])) (codes "script") (word ∷ []) Script spelled.short spelled.printed spelled.words refl script_known refl in
    let reads = version_reads limits.version h in
    let after : after_version (record opening { begun = true }) (word ∷ []) ≡ Ok (record opening { begun = true; limits = set_0 limits }) = rw reads refl in (
      (record opening { begun = true; limits = set_0 limits }),
      line ∙ ap (after_version (record opening { begun = true })) spelled.back ∙ after,
      record { has = refl; named = refl; sized = refl; started = refl; done = refl; calls = refl; charged = refl },
    )

-- the line of version 2, or none
version_leads : (limits : Limits) → is_version limits.version ≡ true → Leads opening (version_lines limits.version) (Configuring (set_0 limits) 0)
unfolding version_lines
version_leads limits h =
    elim (eqb limits.version 1) as (λ b. eqb limits.version 1 ≡ b → Leads opening (cond b [] (spaced (codes "script" ∷ decimal limits.version ∷ []) ∷ [])) (Configuring (set_0 limits) 0)) [
      | true ↦ λ e.
          leads_none opening (Configuring (set_0 limits) 0)
          (record { has = ap (λ v. record usual_limits { version = v }) (sym (eqb-true limits.version 1 e)); named = refl; sized = refl; started = refl; done = refl; calls = refl; charged = refl })
      | false ↦ λ e. leads_one opening (spaced (codes "script" ∷ decimal limits.version ∷ [])) (Configuring (set_0 limits) 0) (version_line limits h)
    ] refl

-- ---- block sizes and starts

-- before the first application, with these limits
pub record Starting (limits : Limits) (s : Progress) : Type 0 where
  pub has : s.limits ≡ limits
  pub started : s.started ≡ false
  pub done : s.done ≡ []
  pub calls : s.calls ≡ 0
  pub charged : s.charged ≡ 0

sizes_small : (from : ℕ) (sizes : List ℕ) → are_rising_from from sizes ≡ true → list_all (λ size. nat_le size 80000) sizes ≡ true
sizes_small from [] h = refl
sizes_small from (size ∷ sizes) h =
    let front = and_first _ (are_rising_from (size + 1) sizes) h in
    both (and_second _ (nat_le size 80000) front) (sizes_small (size + 1) sizes (and_second _ (are_rising_from (size + 1) sizes) h))

some_sizes : (sizes : List ℕ) → nat_le 1 (length sizes) ≡ true → some_words (map decimal sizes) ≡ Ok tt
unfolding some_words
some_sizes [] h = absurd cc
some_sizes (size ∷ sizes) h = refl

few_words : (most : ℕ) (words : List Word) → nat_le (length words) most ≡ true → few most words ≡ Ok tt
unfolding few
few_words most words h = rw h refl

kept_sizes : (sizes : List ℕ) → are_block_sizes sizes ≡ true → sizes_within sizes ≡ Ok sizes
unfolding sizes_within
kept_sizes sizes h = rw h refl

size_reads : (size : ℕ) → nat_le size 80000 ≡ true → number_of (decimal size) ≡ Ok size
size_reads size h = number_reads 80000 size h refl

size_fits : (size : ℕ) → nat_le size 80000 ≡ true → IsWord 10 (decimal size)
size_fits size h = number_fits 80000 size h refl

-- the parts of what block sizes are
some_of : (sizes : List ℕ) → are_block_sizes sizes ≡ true → nat_le 1 (length sizes) ≡ true
some_of sizes h = and_first (nat_le 1 (length sizes)) (nat_le (length sizes) 17) (and_first (nat_le 1 (length sizes) && nat_le (length sizes) 17) (are_rising_from 0 sizes) h)

few_of : (sizes : List ℕ) → are_block_sizes sizes ≡ true → nat_le (length sizes) 17 ≡ true
few_of sizes h = and_second (nat_le 1 (length sizes)) (nat_le (length sizes) 17) (and_first (nat_le 1 (length sizes) && nat_le (length sizes) 17) (are_rising_from 0 sizes) h)

small_of : (sizes : List ℕ) → are_block_sizes sizes ≡ true → list_all (λ size. nat_le size 80000) sizes ≡ true
small_of sizes h = sizes_small 0 sizes (and_second (nat_le 1 (length sizes) && nat_le (length sizes) 17) (are_rising_from 0 sizes) h)

sizes_read : (sizes : List ℕ) → are_block_sizes sizes ≡ true → sizes_of (map decimal sizes) ≡ Ok sizes
unfolding sizes_of
sizes_read sizes h =
    let a = some_sizes sizes (some_of sizes h) in
    let b = few_words 17 (map decimal sizes) (ap (λ n. nat_le n 17) (map_length decimal sizes) ∙ few_of sizes h) in
    let c = each-same (λ size. nat_le size 80000) number_of decimal size_reads sizes (small_of sizes h) in
    let d = kept_sizes sizes h in
    rw a (rw b (rw c d))

sizes_known : form_of (codes "sizes") ≡ Some Sizes
unfolding form_of
sizes_known = refl

sizes_line : (s : Progress) (limits : Limits) (sizes : List ℕ) → Configuring limits 11 s → are_block_sizes sizes ≡ true
    → (t : Progress) × (after_line s (spaced (codes "sizes" ∷ map decimal sizes)) ≡ Ok t) × Starting (record limits { sizes = sizes }) t
unfolding after_form after_sizes
sizes_line s limits sizes now h =
    let are : AreWords 196 (codes "sizes" ∷ map decimal sizes) = keyword (codes "sizes") refl refl ◃ elements_fit (λ size. nat_le size 80000) decimal 10 size_fits sizes 17 (leb-true (length sizes) 17 (few_of sizes h)) (small_of sizes h) in
    let spelled = spaced_line (codes "sizes") (map decimal sizes) are (omega arith) in
    let line = known_line s (spaced (codes "sizes" ∷ map decimal sizes)) (codes "sizes") (map decimal sizes) Sizes spelled.short spelled.printed spelled.words refl sizes_known now.started in
    let reads = sizes_read sizes h in
    let fresh = now.sized in
    let after : after_sizes (record s { begun = true }) (map decimal sizes) ≡ Ok (record s { begun = true; limits = record s.limits { sizes = sizes }; sized = true }) = rw reads (rw fresh refl) in (
      (record s { begun = true; limits = record s.limits { sizes = sizes }; sized = true }),
      line ∙ ap (after_sizes (record s { begun = true })) spelled.back ∙ after,
      record {
        has = ap (λ (l : Limits). record l { sizes = sizes }) now.has;
        started = now.started;
        done = now.done;
        calls = now.calls;
        charged = now.charged;
      },
    )

sizes_lead : (s : Progress) (limits : Limits) (sizes : List ℕ) → Configuring (record limits { sizes = usual_sizes }) 11 s → are_block_sizes sizes ≡ true → Leads s (sizes_lines sizes) (Starting (record limits { sizes = sizes }))
unfolding sizes_lines
sizes_lead s limits sizes now h =
    elim (is_same sizes usual_sizes) as (λ b. is_same sizes usual_sizes ≡ b → Leads s (cond b [] (spaced (codes "sizes" ∷ map decimal sizes) ∷ [])) (Starting (record limits { sizes = sizes }))) [
      | true ↦ λ e.
          let same : sizes ≡ usual_sizes = same_numbers sizes usual_sizes e in
          leads_none s (Starting (record limits { sizes = sizes })) (record {
            has = now.has ∙ ap (λ (l : List ℕ). record limits { sizes = l }) (sym same);
            started = now.started;
            done = now.done;
            calls = now.calls;
            charged = now.charged;
          })
      | false ↦ λ e. leads_one s (spaced (codes "sizes" ∷ map decimal sizes)) (Starting (record limits { sizes = sizes })) (sizes_line s (record limits { sizes = usual_sizes }) sizes now h)
    ] refl

-- ---- starts

seq_reads : (start : ℕ × ℕ) → is_start start ≡ true → seq_of (hex_id start.0 ∷ decimal start.1 ∷ []) ≡ Ok start
unfolding seq_of two one next none
seq_reads start h =
    let front = and_first (nat_le 1 start.0 && nat_le start.0 8191) (nat_le start.1 16383) h in
    let some = and_first (nat_le 1 start.0) (nat_le start.0 8191) front in
    let small = and_second (nat_le 1 start.0) (nat_le start.0 8191) front in
    let count = and_second (nat_le 1 start.0 && nat_le start.0 8191) (nat_le start.1 16383) h in
    let bound = leb-true start.0 8191 small in
    let a = id_reads start.0 (le-leb start.0 65535 (omega arith)) in
    let b = number_reads 16383 start.1 count refl in
    let c = within_reads 1 8191 start.0 some small in
    let d = within_most 16383 start.1 count in
    rw a (rw b (rw c (rw d refl)))

seq_known : form_of (codes "seq") ≡ Some Seq
unfolding form_of
seq_known = refl

not_true : (b : Bool) → not b ≡ true → b ≡ false
not_true true h = absurd cc
not_true false h = refl

or_false : (a b : Bool) → (a || b) ≡ false → (a ≡ false) × (b ≡ false)
or_false true b h = absurd cc
or_false false b h = (refl, h)

any_append : {X : Type 0} (p : X → Bool) (xs ys : List X) → list_any p (xs ++ ys) ≡ false → (list_any p xs ≡ false) × (list_any p ys ≡ false)
any_append p [] ys h = (refl, h)
any_append p (x ∷ xs) ys h =
    let parts = or_false (p x) (list_any p (xs ++ ys)) h in
    let more = any_append p xs ys parts.1 in
    (ap (λ b. b || list_any p xs) parts.0 ∙ more.0, more.1)

-- an id that stands behind others is none of theirs
distinct_cut : (front : List (ℕ × ℕ)) (start : ℕ × ℕ) (rest : List (ℕ × ℕ)) → are_distinct_ids (front ++ start ∷ rest) ≡ true → list_any (λ other. eqb other.0 start.0) front ≡ false
distinct_cut [] start rest h = refl
distinct_cut (first ∷ front) start rest h =
    let none = not_true (list_any (λ other. eqb other.0 first.0) (front ++ start ∷ rest)) (and_first (not (list_any (λ other. eqb other.0 first.0) (front ++ start ∷ rest))) (are_distinct_ids (front ++ start ∷ rest)) h) in
    let here = or_false (eqb start.0 first.0) (list_any (λ other. eqb other.0 first.0) rest) (any_append (λ other. eqb other.0 first.0) front (start ∷ rest) none).1 in
    let other : eqb first.0 start.0 ≡ false = ne_eqb first.0 start.0 (λ e. eqb-false start.0 first.0 here.0 (sym e)) in
    ap (λ b. b || list_any (λ o. eqb o.0 start.0) front) other ∙ distinct_cut front start rest (and_second (not (list_any (λ o. eqb o.0 first.0) (front ++ start ∷ rest))) (are_distinct_ids (front ++ start ∷ rest)) h)

all_behind : {X : Type 0} (p : X → Bool) (xs ys : List X) → list_all p (xs ++ ys) ≡ true → list_all p ys ≡ true
all_behind p [] ys h = h
all_behind p (x ∷ xs) ys h = all_behind p xs ys (and_second (p x) (list_all p (xs ++ ys)) h)

seq_line : (s : Progress) (limits : Limits) (front : List (ℕ × ℕ)) (start : ℕ × ℕ) → Starting (record limits { starts = front }) s → is_start start ≡ true → length front < 16 → list_any (λ other. eqb other.0 start.0) front ≡ false
    → (t : Progress) × (after_line s (seq_text start) ≡ Ok t) × Starting (record limits { starts = front ++ start ∷ [] }) t
unfolding after_form after_seq
seq_line s limits front start now valid short new =
    let id_small = and_second (nat_le 1 start.0) (nat_le start.0 8191) (and_first (nat_le 1 start.0 && nat_le start.0 8191) (nat_le start.1 16383) valid) in
    let bound = leb-true start.0 8191 id_small in
    let count = and_second (nat_le 1 start.0 && nat_le start.0 8191) (nat_le start.1 16383) valid in
    let are : AreWords 27 (codes "seq" ∷ hex_id start.0 ∷ decimal start.1 ∷ []) = keyword (codes "seq") refl refl ◃ id_fits start.0 (le-leb start.0 65535 (omega arith)) ◃ number_fits 16383 start.1 count refl ◃ no_words in
    let spelled = spaced_line (codes "seq") (hex_id start.0 ∷ decimal start.1 ∷ []) are (omega arith) in
    let line = known_line s (seq_text start) (codes "seq") (hex_id start.0 ∷ decimal start.1 ∷ []) Seq spelled.short spelled.printed spelled.words refl seq_known now.started in
    let reads = seq_reads start valid in
    let same : s.limits.starts ≡ front = ap (λ (l : Limits). l.starts) now.has in
    let room : nat_le 16 (length s.limits.starts) ≡ false = ap (λ (l : List (ℕ × ℕ)). nat_le 16 (length l)) same ∙ lt-leb 16 (length front) short in
    let fresh : list_any (λ other. eqb other.0 start.0) s.limits.starts ≡ false = ap (list_any (λ other. eqb other.0 start.0)) same ∙ new in
    let after : after_seq (record s { begun = true }) (hex_id start.0 ∷ decimal start.1 ∷ []) ≡ Ok (record s { begun = true; limits = record s.limits { starts = s.limits.starts ++ start ∷ [] } }) = rw reads (rw room (rw fresh refl)) in (
      (record s { begun = true; limits = record s.limits { starts = s.limits.starts ++ start ∷ [] } }),
      line ∙ ap (after_seq (record s { begun = true })) spelled.back ∙ after,
      record {
        has = ap (λ (l : Limits). record l { starts = l.starts ++ start ∷ [] }) now.has;
        started = now.started;
        done = now.done;
        calls = now.calls;
        charged = now.charged;
      },
    )

starts_lead : (rest : List (ℕ × ℕ)) (front : List (ℕ × ℕ)) (s : Progress) (limits : Limits) → Starting (record limits { starts = front }) s → are_count_starts (front ++ rest) ≡ true
    → Leads s (map seq_text rest) (Starting (record limits { starts = front ++ rest }))
starts_lead [] front s limits now h = leads_none s (Starting (record limits { starts = front ++ [] })) (subst (λ (l : List (ℕ × ℕ)). Starting (record limits { starts = l }) s) (sym (append-nil front)) now)
starts_lead (start ∷ rest) front s limits now h =
    let all = front ++ start ∷ rest in
    let counts = and_first (nat_le (length (front ++ start ∷ rest)) 16 && list_all is_start (front ++ start ∷ rest)) (are_distinct_ids (front ++ start ∷ rest)) h in
    let few = leb-true (length (front ++ start ∷ rest)) 16 (and_first (nat_le (length (front ++ start ∷ rest)) 16) (list_all is_start (front ++ start ∷ rest)) counts) in
    let valid = and_first (is_start start) (list_all is_start rest) (all_behind is_start front (start ∷ rest) (and_second (nat_le (length (front ++ start ∷ rest)) 16) (list_all is_start (front ++ start ∷ rest)) counts)) in
    let new = distinct_cut front start rest (and_second (nat_le (length (front ++ start ∷ rest)) 16 && list_all is_start (front ++ start ∷ rest)) (are_distinct_ids (front ++ start ∷ rest)) h) in
    let whole : (front ++ start ∷ []) ++ rest ≡ front ++ start ∷ rest = append_assoc front (start ∷ []) rest in
    leads_then s (seq_text start ∷ []) (map seq_text rest) (Starting (record limits { starts = front ++ start ∷ [] })) (Starting (record limits { starts = front ++ start ∷ rest }))
    (leads_one s (seq_text start) (Starting (record limits { starts = front ++ start ∷ [] })) (seq_line s limits front start now valid (omega (arith, length-append front (start ∷ rest))) new))
    (λ t now. subst (λ (l : List (ℕ × ℕ)). Leads t (map seq_text rest) (Starting (record limits { starts = l }))) whole (starts_lead rest (front ++ start ∷ []) t limits now (ap are_count_starts whole ∙ h)))

-- ---- all settings

pub settings_lead : (limits : Limits) → is_version limits.version ≡ true → are_limits limits ≡ true → are_block_sizes limits.sizes ≡ true → are_count_starts limits.starts ≡ true
    → Leads opening (((version_lines limits.version ++ set_lines limits) ++ sizes_lines limits.sizes) ++ map seq_text limits.starts) (Starting limits)
settings_lead limits version one two three =
    leads_then opening ((version_lines limits.version ++ set_lines limits) ++ sizes_lines limits.sizes) (map seq_text limits.starts) (Starting (record limits { starts = [] })) (Starting limits)
    (leads_then opening (version_lines limits.version ++ set_lines limits) (sizes_lines limits.sizes) (Configuring (record limits { sizes = usual_sizes; starts = [] }) 11) (Starting (record limits { starts = [] }))
    (leads_then opening (version_lines limits.version) (set_lines limits) (Configuring (set_0 limits) 0) (Configuring (record limits { sizes = usual_sizes; starts = [] }) 11)
    (version_leads limits version) (λ t now. leads_0 limits t one now))
    (λ t now. sizes_lead t (record limits { starts = [] }) limits.sizes now two))
    (λ t now. starts_lead limits.starts [] t limits now three)
