-- What a service says of its core, so that a port can be made of it, and the laws that it proves of
-- these words.
use Rattle.std.specs.Prelude.{◌≡◌, ◌≢◌, ℕ, ◌-◌, ◌≤◌, Bool, List, [], ◌∷◌, ◌++◌, length, slice_index_or, All}
use Rattle.fsw_base.specs.Limits.{Limits}
use Rattle.fsw_base.specs.declared.config.Budget.{Budget}
use Rattle.lend_block.specs.declared.note.Note.{Note}

-- what never changes: the limits, and the budgets of the applications 1, 2, 3 and so on
pub record Fixed : Type 0 where
  pub limits : Limits
  pub budgets : List Budget

-- an application's budget; one that is not known has none
abbrev pub budget_of : List Budget → ℕ → Budget
budget_of budgets app =
    slice_index_or budgets (app - 1) (record { entries = 0; bytes = 0; buffers = 0 })

-- The words, over what contracts see of the core, its entries, calls and answers, and of what a
-- port tells without the lock.
pub record Words (S N C A L : Type 0) : Type 1 where
  -- a core is what never changes, its entries in order, and a note beside each
  pub core : Fixed → List N → List Note → S
  pub fixed : S → Fixed
  pub entries : S → List N
  pub notes : S → List Note
  -- an entry is who called, the call, and its answer
  pub entry : ℕ → C → A → N
  pub caller : N → ℕ
  pub call : N → C
  pub answer : N → A
  -- how many views an application's bag has room for
  pub view_room : Limits → ℕ
  -- what is always true of a core; and whether it has news for an application that waits
  pub sound : S → Type 0
  pub news : S → Bool
  -- the second core is the first one after entries of applications that aren't this one
  pub others : S → S → ℕ → Type 0
  -- an application may make a call; and it was answered so
  pub may : S → ℕ → C → Type 0
  pub does : S → S → ℕ → C → A → Type 0
  -- what a port tells of its application is so
  pub tells : S → ℕ → L → Type 0

-- The laws of these words.
pub record Laws {S N C A L : Type 0} (w : Words S N C A L) : Type 0 where
  -- a core is its parts, and so is an entry
  pub core_is : (s : S) → w.core (w.fixed s) (w.entries s) (w.notes s) ≡ s
  pub its_fixed : (f : Fixed) (es : List N) (ns : List Note) → w.fixed (w.core f es ns) ≡ f
  pub its_entries : (f : Fixed) (es : List N) (ns : List Note) → w.entries (w.core f es ns) ≡ es
  pub its_notes : (f : Fixed) (es : List N) (ns : List Note) → w.notes (w.core f es ns) ≡ ns
  pub entry_is : (e : N) → w.entry (w.caller e) (w.call e) (w.answer e) ≡ e
  pub its_caller : (app : ℕ) (call : C) (answer : A) → w.caller (w.entry app call answer) ≡ app
  -- each entry has one note, and is of an application, which are numbered from 1
  pub even : (s : S) → w.sound s → length (w.notes s) ≡ length (w.entries s)
  pub called : (s : S) → w.sound s → All (λ e. 1 ≤ w.caller e) (w.entries s)
  -- entries of others are that
  pub grown : (f : Fixed) (es more : List N) (ns fresh : List Note) (app : ℕ) →
      length ns ≡ length es → w.sound (w.core f (es ++ more) (ns ++ fresh)) →
      All (λ e. w.caller e ≢ app) more →
      w.others (w.core f es ns) (w.core f (es ++ more) (ns ++ fresh)) app
  -- they leave what an application may call, which is one that has a budget
  pub still_may : (s t : S) (app : ℕ) (call : C) → 1 ≤ app → w.others s t app → w.may s app call →
      w.may t app call
  pub known : (s : S) (app : ℕ) (call : C) → w.may s app call → app ≤ length (w.fixed s).budgets
  -- a call adds its entry, with a note
  pub adds : (s t : S) (app : ℕ) (call : C) (answer : A) → w.does s t app call answer →
      (n : Note) ×
      (t ≡ w.core (w.fixed s) (w.entries s ++ w.entry app call answer ∷ []) (w.notes s ++ n ∷ []))
