-- What an application and a reading keep when a line is added.
use Rattle.std.proofs.Common.{◌≡◌, ℕ, ◌+◌, ◌<◌, ◌≤◌, true, false, cond, eqb, List, [], ◌∷◌, ◌++◌, length, Ok, Err, refl, sym, ap, ◌∙◌, arith}
use Rattle.std.specs.List.{list_any}
use Rattle.std.proofs.lemmas.Bool.{lt-leb}
use Rattle.fsw_base.specs.declared.script_faults.FaultKind.TheVariants.{Repeated}
use Rattle.std.proofs.lemmas.List.{length-append}
use Rattle.fsw_base.specs.Starts.{are_count_starts}
use Rattle.app_script.specs.declared.app.App.TheInside as app
use Rattle.app_script.specs.declared.reading.Reading.TheInside as reading
use Rattle.script_settings.specs.declared.account.Account.{Account}
use Rattle.script_lines.specs.declared.line.Line.{Line}
use Rattle.script_lines.specs.declared.line.Line.TheVariants.{Pend, Allocate}
use Rattle.script_settings.specs.Accounts.{account_of, charge_of, with_line, waits_of, buffers_of}
use Rattle.app_script.specs.Inside.{Fits, KeepsCounts, progress_in}
use Rattle.script_settings.specs.Settings.{seq_of}
use Rattle.app_script.specs.Grammar.{Progress, after_seq, apps_of}
use Rattle.app_script.proofs.ScriptLemmas.{account_of_push}

pub waits_few : (line : Line) → waits_of line ≤ 1
unfolding waits_of
waits_few (Pend pipe) = omega arith
waits_few line = omega arith

pub buffers_few : (line : Line) → buffers_of line ≤ 1
unfolding buffers_of
buffers_few (Allocate buf size) = omega arith
buffers_few line = omega arith

-- an application with one line more
pub fits_push : (a b : app.Inside) (line : Line) → Fits a → b.lines.items ≡ a.lines.items ++ line ∷ [] → b.account ≡ with_line a.account line → length a.lines.items < 20000 → Fits b
fits_push a b line fits pushed count few =
    let longer : length b.lines.items ≡ length a.lines.items + 1 = omega (arith, ap length pushed, length-append a.lines.items (line ∷ [])) in
    record {
      account = count ∙ ap (λ (x : Account). with_line x line) fits.account ∙ sym (account_of_push a.lines.items line) ∙ ap account_of (sym pushed);
      calls = omega (arith, ap (λ (x : Account). x.calls) count, fits.calls, longer);
      waits = omega (arith, ap (λ (x : Account). x.waits) count, fits.waits, longer, waits_few line);
      buffers = omega (arith, ap (λ (x : Account). x.buffers) count, fits.buffers, longer, buffers_few line);
      few = omega (arith, longer);
    }

-- a reading with one call line more
pub keeps_call : (a b : reading.Inside) (line : Line) (charge : ℕ) → KeepsCounts a → b.present.lines ≡ a.present.lines ++ line ∷ [] → charge ≡ charge_of (account_of a.present.lines) line
    → b.calls ≡ a.calls + 1 → a.calls < 20000 → b.charged ≡ a.charged + charge → a.charged + charge ≤ 16777216 → b.starts.items ≡ a.starts.items → b.done.items ≡ a.done.items → KeepsCounts b
keeps_call a b line charge keeps pushed costs calls few charged within starts done =
    let longer : length b.present.lines ≡ length a.present.lines + 1 = omega (arith, ap length pushed, length-append a.present.lines (line ∷ [])) in
    let account : account_of b.present.lines ≡ with_line (account_of a.present.lines) line = ap account_of pushed ∙ account_of_push a.present.lines line in
    record {
      calls = omega (arith, calls);
      charged = omega (arith, charged);
      lines = omega (arith, longer, calls, keeps.lines);
      bytes = omega (arith, ap (λ (x : Account). x.bytes) account, keeps.bytes, charged, costs);
      starts = ap are_count_starts starts ∙ keeps.starts;
      apps = omega (arith, ap length done, keeps.apps);
    }

nothing_taken : (account_of []).bytes ≡ 0
unfolding account_of
nothing_taken = refl

-- a reading with an application more
pub keeps_app : (a b : reading.Inside) → KeepsCounts a → b.present.lines ≡ [] → b.calls ≡ a.calls → b.charged ≡ a.charged → b.starts.items ≡ a.starts.items → length b.done.items ≤ 15 → KeepsCounts b
keeps_app a b keeps fresh calls charged starts few = record {
  calls = omega (arith, calls, keeps.calls);
  charged = omega (arith, charged, keeps.charged);
  lines = omega (arith, ap length fresh);
  bytes = omega (arith, ap (λ (x : List Line). (account_of x).bytes) fresh, nothing_taken);
  starts = ap are_count_starts starts ∙ keeps.starts;
  apps = few;
}

-- if an application has begun there is one more than those before it
pub more_apps : (a : reading.Inside) (s : Progress) (count : ℕ) → progress_in a ≡ s → count ≡ length (apps_of s) → a.started ≡ true → count ≡ length a.done.items + 1
more_apps a s count view counted started =
    let all : length (apps_of s) ≡ length (cond true (a.done.items ++ a.present ∷ []) a.done.items) =
    ap (λ (x : Progress). length (apps_of x)) (sym view) ∙ ap (λ b. length (cond b (a.done.items ++ a.present ∷ []) a.done.items)) started in
    omega (arith, counted, all, length-append a.done.items (a.present ∷ []))

-- a start whose id stood before, and one whose id did not
pub seq_again : (s : Progress) (words : List (List ℕ)) (start : ℕ × ℕ) → seq_of words ≡ Ok start → length s.limits.starts < 16 → list_any (λ other. eqb other.0 start.0) s.limits.starts ≡ true → after_seq s words ≡ Err Repeated
unfolding after_seq
seq_again s words start one few again =
    let room = lt-leb 16 (length s.limits.starts) few in
    rw (one, room, again) refl

pub seq_more : (s : Progress) (words : List (List ℕ)) (start : ℕ × ℕ) → seq_of words ≡ Ok start → length s.limits.starts < 16 → list_any (λ other. eqb other.0 start.0) s.limits.starts ≡ false
    → after_seq s words ≡ Ok (record s { limits = record s.limits { starts = s.limits.starts ++ start ∷ [] } })
unfolding after_seq
seq_more s words start one few new =
    let room = lt-leb 16 (length s.limits.starts) few in
    rw (one, room, new) refl
