-- How a reading stands within an application and between two, and how it ends.
use Rattle.std.proofs.Common.{◌≡◌, ℕ, ◌+◌, ◌≤◌, true, List, [], ◌∷◌, ◌++◌, length, Ok, refl, ap, ◌∙◌, arith, append_assoc, append-nil}
use Rattle.std.proofs.lemmas.Bool.{le-ltb}
use Rattle.fsw_base.specs.Limits.{Limits}
use Rattle.script_words.specs.Text.{lines_of}
use Rattle.script_lines.specs.declared.line.Line.{Line}
use Rattle.script_settings.specs.Accounts.{account_of}
use Rattle.app_script.specs.Script.{Application, ScriptText}
use Rattle.app_script.specs.Grammar.{Progress, opening, apps_of, after_lines, progress_of, grammar, ◌>=>◌}
use Rattle.app_script.proofs.ScriptLemmas.{account_of_push}

-- within an application: those before it, its name and its lines so far, and the calls and charges before it
pub record Calling (limits : Limits) (front : List Application) (name : List ℕ) (calls bytes : ℕ) (lines : List Line) (s : Progress) : Type 0 where
  pub has : s.limits ≡ limits
  pub started : s.started ≡ true
  pub done : s.done ≡ front
  pub present : s.present ≡ record { name = name; lines = lines }
  pub counted : s.calls ≡ calls + length lines
  pub charged : s.charged ≡ bytes + (account_of lines).bytes

-- between two applications
pub record Ready (limits : Limits) (apps : List Application) (calls bytes : ℕ) (s : Progress) : Type 0 where
  pub has : s.limits ≡ limits
  pub read : apps_of s ≡ apps
  pub begins : 1 ≤ length apps → s.started ≡ true
  pub counted : s.calls ≡ calls
  pub charged : s.charged ≡ bytes

pub nothing_taken : (account_of []).bytes ≡ 0
unfolding account_of
nothing_taken = refl

pub account_grows : (front rest : List Line) → (account_of front).bytes ≤ (account_of (front ++ rest)).bytes
account_grows front [] = omega (arith, ap (λ (l : List Line). (account_of l).bytes) (append-nil front))
account_grows front (line ∷ rest) =
    let more = ap (λ a. a.bytes) (account_of_push front line) in
    let others = account_grows (front ++ line ∷ []) rest in
    omega (arith, ap (λ (l : List Line). (account_of l).bytes) (append_assoc front (line ∷ []) rest))

-- ---- the whole

pub progress_back : (bytes : List ℕ) (lines : List (List ℕ)) (t : Progress) → length bytes ≤ 1048576 → lines_of bytes ≡ lines → after_lines 1 opening lines ≡ Ok t → t.started ≡ true → progress_of bytes ≡ Ok t
unfolding progress_of
progress_back bytes lines t short again reads started =
    let size = le-ltb 1048576 (length bytes) short in
    rw (size, again, reads, started) refl

pub grammar_back : (bytes : List ℕ) (t : Progress) (script : ScriptText) → progress_of bytes ≡ Ok t → t.limits ≡ script.limits → apps_of t ≡ script.apps → grammar bytes ≡ Ok script
unfolding grammar
grammar_back bytes t script e has read = ap (λ r. r >=> λ s. Ok (record { limits = s.limits; apps = apps_of s })) e ∙ (λ i. Ok (record { limits = has i; apps = read i }))
