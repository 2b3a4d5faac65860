-- The entries of one application in a history.
use Rattle.std.proofs.Common.{◌≡◌, ◌≢◌, ℕ, cond, ne_eqb, List, [], ◌∷◌, ◌++◌, refl, ap, sym, ◌∙◌, append-nil}
use Rattle.std.specs.Prelude.{◌==◌}
use Rattle.std.proofs.lemmas.List.Elements.{filter-append}
use mathlib.Core.List.{IsPrefix}
use Rattle.turn_lock.specs.Views.{entries_of}

module _ {E : Type 0} where
  entries_of-append : (app : ℕ) (log more : List (ℕ × E)) → entries_of app (log ++ more) ≡ entries_of app log ++ entries_of app more
  entries_of-append app log more = filter-append (λ e. e.0 == app) log more

  -- one entry of another application
  pub entries_of-one : (app other : ℕ) (event : E) → app ≢ other → entries_of app ((other, event) ∷ []) ≡ []
  entries_of-one app other event apart = ap (λ b. cond {A = List (ℕ × E)} b ((other, event) ∷ []) []) (ne_eqb other app (λ e. apart (sym e)))

  -- entries of one application leave those of another as they were
  pub entries_of-append_other : (other app : ℕ) (log more : List (ℕ × E)) → ((third : ℕ) → third ≢ app → entries_of third more ≡ []) → other ≢ app → entries_of other (log ++ more) ≡ entries_of other log
  entries_of-append_other other app log more theirs apart = entries_of-append other log more ∙ (ap (λ l. entries_of other log ++ l) (theirs other apart) ∙ append-nil (entries_of other log))

  nothing_before : (xs ys : List (ℕ × E)) → xs ++ ys ≡ [] → xs ≡ []
  nothing_before [] ys is = refl
  nothing_before (x ∷ xs) ys is = absurd (cc (is))

  -- a beginning of a history has no entries of whom the history has none
  pub entries_of-beginning : (app : ℕ) (seen log : List (ℕ × E)) → IsPrefix seen log → entries_of app log ≡ [] → entries_of app seen ≡ []
  entries_of-beginning app seen log begins none =
      nothing_before (entries_of app seen) (entries_of app begins.0) (sym (entries_of-append app seen begins.0) ∙ (ap (entries_of app) begins.1 ∙ none))

  -- a beginning of a history has a beginning of each application's entries
  pub entries_of-prefix : (app : ℕ) (seen log : List (ℕ × E)) → IsPrefix seen log → IsPrefix (entries_of app seen) (entries_of app log)
  entries_of-prefix app seen log begins = (entries_of app begins.0, sym (entries_of-append app seen begins.0) ∙ ap (entries_of app) begins.1)
