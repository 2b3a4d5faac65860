-- The receipts of an application at the tables, line by line.
use Rattle.std.proofs.Common.{◌≡◌, ℕ, ◌+◌, ◌==◌, if◌then◌else◌, Bool, true, false, cond, List, [], ◌∷◌, ◌++◌, drop, map, Option, Some, None, refl, ap, sym, ◌∙◌, subst, append_assoc, append-nil}
use Rattle.std.specs.Prelude.{slice_get, is_some}
use Rattle.std.specs.Option.{option_map_or}
use Rattle.fsw_base.specs.Limits.{Limits}
use Rattle.tbl_words.specs.declared.calls.TblAnswer.{TblAnswer}
use Rattle.tbl_words.specs.declared.history.Call.{Call}
use Rattle.tbl_words.specs.declared.history.Entry.{Entry}
use Rattle.tbl_words.specs.Machine.{step}
use Rattle.tbl_words.specs.Tables.{State}
use Rattle.script_lines.specs.declared.line.Line.{Line}
use Rattle.script_runs.specs.TableTrace.{IsTableEnd, TableLineEntries, TableTrace, handles_after, own_table_entries, table_call_of}
use Rattle.script_runs.specs.Told.{TableSeen, table_receipts_of, table_seen_from}
use Rattle.run_check.specs.Places.{Made, made_at}
use Rattle.run_check.specs.TablePlaces.{TablePlace, behind_at_tables, passed_at_tables, past_at_tables, settled_at_tables, shown_at_tables, table_place_from}
use Rattle.run_check.proofs.TablePlaces.{line_there, no_line_there}

-- The entries of an application. --

abbrev pub entries_in : List TableSeen → List Entry
entries_in seen = map (λ x. x.entry) seen

entry_front : (test : Bool) (e : Entry) (t : State) (xs : List TableSeen) (es : List Entry) → entries_in xs ≡ es →
    entries_in ((if test then (let x : TableSeen = record { entry = e; after = t } in x) ∷ [] else []) ++ xs) ≡ cond {A = List Entry} test (e ∷ es) es
entry_front true e t xs es is = ap (λ l. e ∷ l) is
entry_front false e t xs es is = is

pub seen_entries : (limits : Limits) (t : State) (app : ℕ) (es : List Entry) → entries_in (table_seen_from limits t app es) ≡ own_table_entries app es
seen_entries limits t app [] = refl
seen_entries limits t app (e ∷ es) =
    let after = (step limits t e.app e.call).1 in
    entry_front (e.app == app) e after (table_seen_from limits after app es) (own_table_entries app es) (seen_entries limits after app es)

-- A place behind them. --

abbrev pub over : ℕ → List Line → TablePlace → List TableSeen → TablePlace
over app lines p [] = p
over app lines p (x ∷ xs) = over app lines (settled_at_tables app x.after lines x.entry.call x.entry.answer p) xs

over_front : (app : ℕ) (lines : List Line) (p : TablePlace) (test : Bool) (x : TableSeen) (xs : List TableSeen) →
    over app lines p ((if test then x ∷ [] else []) ++ xs) ≡ over app lines (cond {A = TablePlace} test (settled_at_tables app x.after lines x.entry.call x.entry.answer p) p) xs
over_front app lines p true x xs = refl
over_front app lines p false x xs = refl

pub place_over : (limits : Limits) (t : State) (app : ℕ) (lines : List Line) (p : TablePlace) (es : List Entry) →
    table_place_from limits t app lines p es ≡ over app lines p (table_seen_from limits t app es)
place_over limits t app lines p [] = refl
place_over limits t app lines p (e ∷ es) =
    let after = (step limits t e.app e.call).1 in
    place_over limits after app lines (if e.app == app then settled_at_tables app after lines e.call e.answer p else p) es
    ∙ sym (over_front app lines p (e.app == app) (record { entry = e; after = after }) (table_seen_from limits after app es))

-- Line by line. --

abbrev pub by_table_call : ℕ → ℕ → Option Call → (TblAnswer → State → List TableSeen → List Made) → List Made → List TableSeen → List Made
by_table_call app n None next same seen = same
by_table_call app n (Some call) next same [] = []
by_table_call app n (Some call) next same (own ∷ others) = made_at n (table_receipts_of app own) ++ next own.entry.answer own.after others

-- the receipts of these lines at the tables, the first of which has this place
abbrev pub table_made : ℕ → ℕ → List ℕ → State → List Line → List TableSeen → List Made
table_made app n handles t [] seen = []
table_made app n handles t (line ∷ lines) seen =
    by_table_call app n (table_call_of handles line) (λ answer after others. table_made app (n + 1) (handles_after handles line answer) after lines others)
    (made_at n (shown_at_tables app t handles line) ++ table_made app (n + 1) handles t lines seen) seen

module _ (app : ℕ) (all : List Line) where
  -- what lines that are left make, from any place on
  abbrev Goes : List Line → Type 0
  Goes left =
      (p : TablePlace) (t : State) (seen : List TableSeen) → drop p.place all ≡ left → TableTrace p.handles left (entries_in seen) →
      (over app all (passed_at_tables app t left p) seen).receipts ≡ p.receipts ++ table_made app p.place p.handles t left seen

  at_end : (p : TablePlace) (t : State) (seen : List TableSeen) → drop p.place all ≡ [] → IsTableEnd (entries_in seen) → (over app all p seen).receipts ≡ p.receipts ++ []
  at_end p t [] is end = absurd end
  at_end p t (x ∷ []) is end =
      ap
      (λ (o : Option Line). (option_map_or
      (λ line. passed_at_tables app x.after (drop (p.place + 1) all) (behind_at_tables app x.after line x.entry.call x.entry.answer p)) o p).receipts)
      (no_line_there all p.place is)
      ∙ sym (append-nil p.receipts)
  at_end p t (x ∷ y ∷ seen) is end = absurd end

  a_line : (line : Line) (left : List Line) → Goes left → Goes (line ∷ left)
  a_line line left goes p t seen is trace = by (table_call_of p.handles line) refl
    where
      found : (slice_get all p.place ≡ Some line) × (drop (p.place + 1) all ≡ left)
      found = line_there all p.place line left is

      Owed : Option Call → List Entry → Type 0
      Owed made es =
          TableLineEntries made (λ answer rest. TableTrace (handles_after p.handles line answer) left rest) (λ rest. TableTrace p.handles left rest) es

      Due : List TableSeen → Option Call → Type 0
      Due xs made =
          (over app all (cond {A = TablePlace} (is_some made) p (passed_at_tables app t left (past_at_tables app t line p))) xs).receipts
          ≡ p.receipts
          ++ by_table_call app p.place made (λ answer after others. table_made app (p.place + 1) (handles_after p.handles line answer) after left others)
          (made_at p.place (shown_at_tables app t p.handles line) ++ table_made app (p.place + 1) p.handles t left xs) xs

      unseen : Owed None (entries_in seen) → Due seen None
      unseen owed =
          goes (past_at_tables app t line p) t seen found.1 owed
          ∙ append_assoc p.receipts (made_at p.place (shown_at_tables app t p.handles line)) (table_made app (p.place + 1) p.handles t left seen)

      called : (call : Call) (xs : List TableSeen) → Owed (Some call) (entries_in xs) → Due xs (Some call)
      called call [] owed = absurd owed
      called call (own ∷ others) owed =
          let q : TablePlace = behind_at_tables app own.after line own.entry.call own.entry.answer p in
          ap
          (λ (o : Option Line). (over app all (option_map_or
          (λ l. passed_at_tables app own.after (drop (p.place + 1) all) (behind_at_tables app own.after l own.entry.call own.entry.answer p)) o p) others).receipts)
          found.0
          ∙ ap (λ (l : List Line). (over app all (passed_at_tables app own.after l q) others).receipts) found.1
          ∙ goes q own.after others found.1 owed.1
          ∙ append_assoc p.receipts (made_at p.place (table_receipts_of app own)) (table_made app (p.place + 1) (handles_after p.handles line own.entry.answer) own.after left others)

      by : (made : Option Call) → table_call_of p.handles line ≡ made → Due seen (table_call_of p.handles line)
      by None none = subst (Due seen) (sym none) (unseen (subst (λ (m : Option Call). Owed m (entries_in seen)) none trace))
      by (Some call) some = subst (Due seen) (sym some) (called call seen (subst (λ (m : Option Call). Owed m (entries_in seen)) some trace))

  pub lines_make : (left : List Line) → Goes left
  lines_make [] p t seen is trace = at_end p t seen is trace
  lines_make (line ∷ left) p t seen is trace = a_line line left (lines_make left) p t seen is trace
