-- Versions that are answered are those of tables, and fit into 32 bits if these do.
use Rattle.std.proofs.Common.{◌≡◌, ℕ, ◌+◌, ◌^◌, ◌<◌, Bool, true, false, cond, eqb, Option, Some, None, IfSome, List, [], ◌∷◌, find, All, subst, arith}
use Rattle.std.specs.Option.{option_map_or, option_and_then}
use Rattle.std.proofs.lemmas.List.Elements.{All-head, All-tail}
use Rattle.fsw_base.specs.Limits.{Limits}
use Rattle.tbl_words.specs.declared.statuses.TblStatus.{TblStatus}
use Rattle.tbl_words.specs.declared.statuses.TblStatus.TheVariants.{ErrInvalidHandle}
use Rattle.tbl_words.specs.declared.calls.TblAnswer.{TblAnswer}
use Rattle.tbl_words.specs.declared.calls.TblAnswer.TheVariants as answers
use Rattle.tbl_words.specs.declared.history.Call.TheVariants.{GetAddress, Status}
use Rattle.tbl_words.specs.Tables.{Table, Handle, State, handle_at, table_at, table_of}
use Rattle.tbl_words.specs.Machine.{cause, outcome, step, told_of, figures_of}

-- the number of a version that an answer tells; 0 if it tells none
abbrev pub version_in : TblAnswer → ℕ
version_in answers.Done = 0
version_in (answers.Number number) = 0
version_in (answers.Duplicate number) = 0
version_in (answers.Address told version) = version
version_in (answers.State figures) = figures.version
version_in (answers.Refused status) = 0

-- what holds of all holds of what is found
found : {X : Type 0} (P : X → Type 0) (p : X → Bool) (xs : List X) → All P xs → IfSome (find p xs) P
found P p [] all = tt
found {X} P p (x ∷ xs) all = by_test (p x) (found P p xs (All-tail P x xs all))
  where
    by_test : (b : Bool) → IfSome (find p xs) P → IfSome (cond {A = Option X} b (Some x) (find p xs)) P
    by_test true rest = All-head P x xs all
    by_test false rest = rest

pub version_of_few : (s : State) (handle : ℕ) → All (λ t. t.version + 1 < 2 ^ 32) s.tables → IfSome (table_of s handle) (λ t. t.version + 1 < 2 ^ 32)
version_of_few s handle few = by_handle (handle_at s.handles handle)
  where
    by_handle : (o : Option Handle) → IfSome (option_and_then (λ (h : Handle). table_at s.tables h.table) o) (λ (t : Table). t.version + 1 < 2 ^ 32)
    by_handle None = tt
    by_handle (Some h) = found (λ (t : Table). t.version + 1 < 2 ^ 32) (λ t. eqb t.number h.table) s.tables few

-- what an address or a status tells
module _ (limits : Limits) (s : State) (app handle : ℕ) (few : All (λ t. t.version + 1 < 2 ^ 32) s.tables) where
  told_few : (h : Handle) (o : Option Table) → IfSome o (λ t. t.version + 1 < 2 ^ 32) →
      version_in (option_map_or (λ t. answers.Address (told_of t h) t.version) o (answers.Refused ErrInvalidHandle)) < 2 ^ 32
  told_few h None none = omega arith
  told_few h (Some t) fits = omega (arith, fits)

  addressed_few : (o : Option Handle) →
      version_in (option_map_or (λ h. option_map_or (λ t. answers.Address (told_of t h) t.version) (table_of s handle) (answers.Refused ErrInvalidHandle)) o (answers.Refused ErrInvalidHandle)) < 2 ^ 32
  addressed_few None = omega arith
  addressed_few (Some h) = told_few h (table_of s handle) (version_of_few s handle few)

  figures_few : (o : Option Table) → IfSome o (λ t. t.version + 1 < 2 ^ 32) → version_in (option_map_or (λ t. answers.State (figures_of s t)) o (answers.Refused ErrInvalidHandle)) < 2 ^ 32
  figures_few None none = omega arith
  figures_few (Some t) fits = omega (arith, fits)

  pub address_few : (answer : TblAnswer) (left : State) → step limits s app (GetAddress handle) ≡ (answer, left) → version_in answer < 2 ^ 32
  address_few answer left made = subst (λ (x : TblAnswer × State). version_in x.0 < 2 ^ 32) made (by_cause (cause limits s app (GetAddress handle)))
    where
      by_cause : (why : Option TblStatus) → version_in ((outcome limits s app (GetAddress handle) why).0) < 2 ^ 32
      by_cause None = addressed_few (handle_at s.handles handle)
      by_cause (Some status) = omega arith

  pub status_few : (answer : TblAnswer) (left : State) → step limits s app (Status handle) ≡ (answer, left) → version_in answer < 2 ^ 32
  status_few answer left made = subst (λ (x : TblAnswer × State). version_in x.0 < 2 ^ 32) made (by_cause (cause limits s app (Status handle)))
    where
      by_cause : (why : Option TblStatus) → version_in ((outcome limits s app (Status handle) why).0) < 2 ^ 32
      by_cause None = figures_few (table_of s handle) (version_of_few s handle few)
      by_cause (Some status) = omega arith
