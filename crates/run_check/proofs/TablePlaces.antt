-- Where an application is at the tables: past the lines that they don't see.
use Rattle.std.proofs.Common.{◌≡◌, ℕ, ◌+◌, zero, suc, Bool, true, false, cond, true≢false, List, [], ◌∷◌, ◌++◌, drop, Option, Some, None, refl, ap, sym, ◌∙◌, subst, add-one}
use Rattle.std.specs.Prelude.{slice_get, is_some}
use Rattle.std.specs.Option.{option_map_or}
use Rattle.tbl_words.specs.declared.history.Call.{Call}
use Rattle.tbl_words.specs.declared.history.Call.TheVariants as calls
use Rattle.tbl_words.specs.declared.history.Entry.{Entry}
use Rattle.tbl_words.specs.Tables.{State as Tables}
use Rattle.script_lines.specs.declared.line.Line.{Line}
use Rattle.app_script.specs.Script.{ScriptText}
use Rattle.script_runs.specs.Rotation.{Running, behind_table}
use Rattle.script_runs.specs.TableTrace.{handles_after, table_call_of}
use Rattle.run_check.specs.Places.{lines_of}
use Rattle.run_check.specs.TablePlaces.{TablePlace, behind_at_tables, passed_at_tables, past_at_tables, running_at_tables, settled_at_tables}
use Rattle.run_check.specs.TableProgress.{IsAtTables}
use Rattle.run_check.proofs.TableProgress.{applications_go_on_at_tables}

-- the line at a place is one that the tables see, or there is none
abbrev pub Ready : List Line → TablePlace → Type 0
Ready lines p = (line : Line) → slice_get lines p.place ≡ Some line → is_some (table_call_of p.handles line) ≡ true

-- the line at a place is the first that is left
pub line_there : (lines : List Line) (n : ℕ) (line : Line) (rest : List Line) → drop n lines ≡ line ∷ rest → (slice_get lines n ≡ Some line) × (drop (n + 1) lines ≡ rest)
line_there [] zero line rest is = absurd (cc is)
line_there [] (suc n) line rest is = absurd (cc is)
line_there (x ∷ lines) zero line rest is = (ap (λ l. slice_get l 0) is, ap (drop 1) is)
line_there (x ∷ lines) (suc n) line rest is =
    let found = line_there lines n line rest is in
    (found.0, ap (λ k. drop k (x ∷ lines)) (add-one (suc n)) ∙ ap (λ k. drop k lines) (sym (add-one n)) ∙ found.1)

pub line_here : (lines : List Line) (n : ℕ) (line : Line) → slice_get lines n ≡ Some line → drop n lines ≡ line ∷ drop (n + 1) lines
line_here [] n line is = absurd (cc is)
line_here (x ∷ lines) zero line is = let same : x ≡ line = cc is in ap (λ l. l ∷ lines) same
line_here (x ∷ lines) (suc n) line is =
    line_here lines n line is ∙ ap (λ k. line ∷ drop k lines) (add-one n) ∙ ap (λ k. line ∷ drop k (x ∷ lines)) (sym (add-one (suc n)))

pub no_line_there : (lines : List Line) (n : ℕ) → drop n lines ≡ [] → slice_get lines n ≡ None
no_line_there [] n is = refl
no_line_there (x ∷ lines) zero is = absurd (cc is)
no_line_there (x ∷ lines) (suc n) is = no_line_there lines n is

none_of : (o : Option Call) → is_some o ≡ false → o ≡ None
none_of None is = refl
none_of (Some call) is = absurd (true≢false is)

-- past the lines that the tables don't see it is ready
pub passed_ready : (app : ℕ) (t : Tables) (lines left : List Line) (p : TablePlace) → drop p.place lines ≡ left → Ready lines (passed_at_tables app t left p)
passed_ready app t lines [] p is = λ line there. absurd (cc (sym (no_line_there lines p.place is) ∙ there))
passed_ready app t lines (x ∷ left) p is = by (is_some (table_call_of p.handles x)) refl (passed_ready app t lines left (past_at_tables app t x p) found.1)
  where
    found : (slice_get lines p.place ≡ Some x) × (drop (p.place + 1) lines ≡ left)
    found = line_there lines p.place x left is

    by : (b : Bool) → is_some (table_call_of p.handles x) ≡ b → Ready lines (passed_at_tables app t left (past_at_tables app t x p)) →
        Ready lines (cond {A = TablePlace} b p (passed_at_tables app t left (past_at_tables app t x p)))
    by true seen behind = λ line there.
        let same : x ≡ line = cc (found.0, there) in
        subst (λ (l : Line). is_some (table_call_of p.handles l) ≡ true) same seen
    by false unseen behind = behind

-- past one line more that the tables don't see
pub pass_on : (app : ℕ) (t : Tables) (lines : List Line) (line : Line) (p : TablePlace) → slice_get lines p.place ≡ Some line → is_some (table_call_of p.handles line) ≡ false →
    passed_at_tables app t (drop p.place lines) p ≡ passed_at_tables app t (drop (p.place + 1) lines) (past_at_tables app t line p)
pass_on app t lines line p there unseen =
    ap (λ l. passed_at_tables app t l p) (line_here lines p.place line there)
    ∙ ap (λ (b : Bool). cond {A = TablePlace} b p (passed_at_tables app t (drop (p.place + 1) lines) (past_at_tables app t line p))) unseen

-- as far as one that they see
pub pass_stops : (app : ℕ) (t : Tables) (lines : List Line) (line : Line) (p : TablePlace) → slice_get lines p.place ≡ Some line → is_some (table_call_of p.handles line) ≡ true →
    passed_at_tables app t (drop p.place lines) p ≡ p
pass_stops app t lines line p there seen =
    ap (λ l. passed_at_tables app t l p) (line_here lines p.place line there)
    ∙ ap (λ (b : Bool). cond {A = TablePlace} b p (passed_at_tables app t (drop (p.place + 1) lines) (past_at_tables app t line p))) seen

-- and it has to make what it had to make before
pub passed_at : (script : ScriptText) (app : ℕ) (t : Tables) (own : List Entry) (left : List Line) (p : TablePlace) → drop p.place (lines_of script app) ≡ left →
    IsAtTables script app own (Some (running_at_tables script app p)) → IsAtTables script app own (Some (running_at_tables script app (passed_at_tables app t left p)))
passed_at script app t own [] p is at = at
passed_at script app t own (x ∷ left) p is at =
    by (is_some (table_call_of p.handles x)) refl (λ unseen. passed_at script app t own left (past_at_tables app t x p) found.1 (past_one unseen))
  where
    r : Running
    r = running_at_tables script app p

    found : (slice_get (lines_of script app) p.place ≡ Some x) × (drop (p.place + 1) (lines_of script app) ≡ left)
    found = line_there (lines_of script app) p.place x left is

    past_one : is_some (table_call_of p.handles x) ≡ false → IsAtTables script app own (Some (running_at_tables script app (past_at_tables app t x p)))
    past_one unseen =
        subst (λ (l : List Line). IsAtTables script app own (Some (behind_table r l r.handles))) (sym found.1)
        ((applications_go_on_at_tables script app).unseen own r x left is (none_of (table_call_of p.handles x) unseen) at)

    Behind : Type 0
    Behind = IsAtTables script app own (Some (running_at_tables script app (passed_at_tables app t left (past_at_tables app t x p))))

    by : (b : Bool) → is_some (table_call_of p.handles x) ≡ b → (is_some (table_call_of p.handles x) ≡ false → Behind) →
        IsAtTables script app own (Some (running_at_tables script app (cond {A = TablePlace} b p (passed_at_tables app t left (past_at_tables app t x p)))))
    by true seen behind = at
    by false unseen behind = behind unseen

-- behind its end nothing is left
pub ended_at : (script : ScriptText) (app : ℕ) (own : List Entry) (p : TablePlace) (e : Entry) → drop p.place (lines_of script app) ≡ [] → e.call ≡ calls.End →
    IsAtTables script app own (Some (running_at_tables script app p)) → IsAtTables script app (own ++ e ∷ []) None
ended_at script app own p e is end at = (applications_go_on_at_tables script app).end own (running_at_tables script app p) e is end at

-- behind a line whose call was answered it has to make what its new place says
pub settled_at : (script : ScriptText) (app : ℕ) (t : Tables) (own : List Entry) (p : TablePlace) (e : Entry) (x : Line) (left : List Line) → drop p.place (lines_of script app) ≡ x ∷ left →
    table_call_of p.handles x ≡ Some e.call → IsAtTables script app own (Some (running_at_tables script app p)) →
    IsAtTables script app (own ++ e ∷ []) (Some (running_at_tables script app (settled_at_tables app t (lines_of script app) e.call e.answer p)))
settled_at script app t own p e x left is made at =
    subst (λ (o : Option Line). IsAtTables script app (own ++ e ∷ []) (Some (running_at_tables script app (option_map_or (λ line. gone line) o p)))) (sym found.0)
    (passed_at script app t (own ++ e ∷ []) (drop (p.place + 1) (lines_of script app)) now refl there)
  where
    r : Running
    r = running_at_tables script app p

    now : TablePlace
    now = behind_at_tables app t x e.call e.answer p

    gone : Line → TablePlace
    gone line =
        passed_at_tables app t (drop (p.place + 1) (lines_of script app)) (behind_at_tables app t line e.call e.answer p)

    found : (slice_get (lines_of script app) p.place ≡ Some x) × (drop (p.place + 1) (lines_of script app) ≡ left)
    found = line_there (lines_of script app) p.place x left is

    there : IsAtTables script app (own ++ e ∷ []) (Some (running_at_tables script app now))
    there =
        subst (λ (l : List Line). IsAtTables script app (own ++ e ∷ []) (Some (behind_table r l (handles_after r.handles x e.answer)))) (sym found.1)
        ((applications_go_on_at_tables script app).line own r x left e is made at)

-- and is ready there
pub settled_ready : (script : ScriptText) (app : ℕ) (t : Tables) (p : TablePlace) (e : Entry) (x : Line) → slice_get (lines_of script app) p.place ≡ Some x →
    Ready (lines_of script app) (settled_at_tables app t (lines_of script app) e.call e.answer p)
settled_ready script app t p e x there =
    subst (λ (o : Option Line). Ready (lines_of script app) (option_map_or (λ line. gone line) o p)) (sym there)
    (passed_ready app t (lines_of script app) (drop (p.place + 1) (lines_of script app)) (behind_at_tables app t x e.call e.answer p) refl)
  where
    gone : Line → TablePlace
    gone line =
        passed_at_tables app t (drop (p.place + 1) (lines_of script app)) (behind_at_tables app t line e.call e.answer p)

-- if no line is left it stays where it is
pub settled_none : (script : ScriptText) (app : ℕ) (t : Tables) (p : TablePlace) (e : Entry) → slice_get (lines_of script app) p.place ≡ None →
    settled_at_tables app t (lines_of script app) e.call e.answer p ≡ p
settled_none script app t p e none = ap (λ (o : Option Line). option_map_or (λ line. gone line) o p) none
  where
    gone : Line → TablePlace
    gone line =
        passed_at_tables app t (drop (p.place + 1) (lines_of script app)) (behind_at_tables app t line e.call e.answer p)
