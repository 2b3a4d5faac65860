-- The answers of a legal history of the tables are such as their calls can get.
use Rattle.std.proofs.Common.{◌≡◌, ℕ, true, List, [], ◌∷◌, Option, Some, None, All, IsTrue, refl, ap, ◌∙◌}
use Rattle.std.specs.Option.{option_map_or}
use Rattle.std.proofs.lemmas.List.Elements.{All-cons, All-nil}
use Rattle.fsw_base.specs.Limits.{Limits}
use Rattle.tbl_words.specs.declared.statuses.TblStatus.{TblStatus}
use Rattle.tbl_words.specs.declared.statuses.TblStatus.TheVariants.{ErrInvalidHandle}
use Rattle.tbl_rules.specs.declared.rules.Rule.{Rule}
use Rattle.tbl_words.specs.declared.calls.TblAnswer.{TblAnswer}
use Rattle.tbl_words.specs.declared.calls.TblAnswer.TheVariants as answers
use Rattle.tbl_words.specs.declared.history.Call.{Call}
use Rattle.tbl_words.specs.declared.history.Call.TheVariants.{Register, Share, Unregister, Stage, Validate, Update, Abort, Load, GetAddress, ReleaseAddress, Status, End}
use Rattle.tbl_words.specs.declared.history.Entry.{Entry}
use Rattle.tbl_words.specs.Tables.{Table, Handle, State, handle_at, table_named, table_of}
use Rattle.tbl_words.specs.Machine.{told_of, figures_of, with_new_table, cause, outcome, step, LegalFrom}
use Rattle.run_report.specs.TableReadBack.{can_tables_answer}

-- any call may be refused
refused_answer : (call : Call) (why : TblStatus) → can_tables_answer call (answers.Refused why) ≡ true
refused_answer (Register name size option rules) why = refl
refused_answer (Share name) why = refl
refused_answer (Unregister handle) why = refl
refused_answer (Stage handle offset bytes) why = refl
refused_answer (Validate handle) why = refl
refused_answer (Update handle) why = refl
refused_answer (Abort handle) why = refl
refused_answer (Load handle offset bytes) why = refl
refused_answer (GetAddress handle) why = refl
refused_answer (ReleaseAddress handle) why = refl
refused_answer (Status handle) why = refl
refused_answer End why = refl

-- what a registration answers, by the table that has its name already
registered_can : (name : List ℕ) (size option : ℕ) (rules : List Rule) (s next : State) (number : ℕ) (found : Option Table) →
    can_tables_answer (Register name size option rules) (option_map_or {U = TblAnswer × State} (λ (t : Table). (answers.Duplicate t.number, s)) found (answers.Number number, next)).0 ≡ true
registered_can name size option rules s next number None = refl
registered_can name size option rules s next number (Some t) = refl

-- what an address answers, by the handle and its table
address_can : (handle : ℕ) (held : Option Handle) (found : Option Table) →
    can_tables_answer (GetAddress handle)
    (option_map_or (λ (h : Handle). option_map_or (λ (t : Table). answers.Address (told_of t h) t.version) found (answers.Refused ErrInvalidHandle)) held (answers.Refused ErrInvalidHandle))
    ≡ true
address_can handle None found = refl
address_can handle (Some h) None = refl
address_can handle (Some h) (Some t) = refl

-- what a status answers, by the handle's table
status_can : (s : State) (handle : ℕ) (found : Option Table) →
    can_tables_answer (Status handle) (option_map_or (λ (t : Table). answers.State (figures_of s t)) found (answers.Refused ErrInvalidHandle)) ≡ true
status_can s handle None = refl
status_can s handle (Some t) = refl

-- a step's answer, whether refused or not
outcome_answer : (limits : Limits) (s : State) (app : ℕ) (call : Call) (why : Option TblStatus) → can_tables_answer call (outcome limits s app call why).0 ≡ true
outcome_answer limits s app call (Some why) = refused_answer call why
outcome_answer limits s app (Register name size option rules) None =
    registered_can name size option rules s (with_new_table limits s app name size option rules) _ (table_named s.tables name)
outcome_answer limits s app (Share name) None = refl
outcome_answer limits s app (Unregister handle) None = refl
outcome_answer limits s app (Stage handle offset bytes) None = refl
outcome_answer limits s app (Validate handle) None = refl
outcome_answer limits s app (Update handle) None = refl
outcome_answer limits s app (Abort handle) None = refl
outcome_answer limits s app (Load handle offset bytes) None = refl
outcome_answer limits s app (GetAddress handle) None = address_can handle (handle_at s.handles handle) (table_of s handle)
outcome_answer limits s app (ReleaseAddress handle) None = refl
outcome_answer limits s app (Status handle) None = status_can s handle (table_of s handle)
outcome_answer limits s app End None = refl

pub legal_table_answers : (limits : Limits) (s : State) (es : List Entry) → LegalFrom limits s es → All (λ e. IsTrue (can_tables_answer e.call e.answer)) es
legal_table_answers limits s [] legal = All-nil (λ (e : Entry). IsTrue (can_tables_answer e.call e.answer))
legal_table_answers limits s (e ∷ es) legal =
    All-cons (λ (x : Entry). IsTrue (can_tables_answer x.call x.answer)) e es
    (ap (can_tables_answer e.call) legal.1 ∙ outcome_answer limits s e.app e.call (cause limits s e.app e.call))
    (legal_table_answers limits ((step limits s e.app e.call).1) es legal.2)
