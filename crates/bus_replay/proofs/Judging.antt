-- The first wrong line of a report, among those on the bus.
use Rattle.std.proofs.Common.{◌≡◌, ℕ, ◌+◌, List, [], ◌∷◌, ◌++◌, length, ap, sym, ◌∙◌, append_assoc, append-nil}
use Rattle.bus_words.specs.declared.history.Entry.{Entry}
use Rattle.run_report.specs.BusText.{entries_text, entry_text}
use Rattle.app_script.specs.Script.{ScriptText}
use Rattle.app_script.specs.ScriptRanges.{IsScript}
use Rattle.run_check.specs.declared.judgement.Judgement.TheVariants.{No}
use Rattle.run_check.specs.Checks.{IsAnswer}
use Rattle.run_check.specs.Fronts.{line_ends, wrong_line}
use Rattle.run_check.specs.Judged.{NobodysEntry, WrongEntry}
use Rattle.run_check.specs.Openings.{bus_part, head}
use Rattle.run_check.proofs.Fronts.{line_ends-append}
use Rattle.run_check.proofs.Judgements.{judged_is_answered}
use Rattle.replay_parts.specs.Compared.{Compared}
use Rattle.replay_parts.proofs.LineTexts.{entries_push}
use Rattle.replay_parts.proofs.Passing.{wrong_behind}
use Rattle.bus_replay.specs.Replayed.{AreWrongLines}
use Rattle.bus_replay.specs.Replays.{IsWrongNext, Nobodys, Another}

pub first_wrong : (script : ScriptText) (from : Compared) (line : ℕ) → IsScript script → AreWrongLines script from line → from.lines ≡ line_ends (head script) →
    IsAnswer script (head script ++ from.rest) (No line)
first_wrong script from line fine are lines = by are.wrong
  where
    bytes : List ℕ
    bytes = head script ++ from.rest

    part : List ℕ
    part = bus_part script are.history

    there : bytes ≡ part ++ are.then.rest
    there =
        ap (λ t. head script ++ t) are.text.rest
        ∙ sym (append_assoc (head script) (entries_text are.history) are.then.rest)

    counted : are.then.lines ≡ line_ends part
    counted =
        are.text.lines
        ∙ ap (λ n. n + line_ends (entries_text are.history)) lines
        ∙ sym (line_ends-append (head script) (entries_text are.history))

    -- the number of the wrong line of the whole
    number : (text : List ℕ) → are.then.lines + wrong_line are.then.rest text ≡ wrong_line bytes (part ++ text)
    number text =
        ap (λ n. n + wrong_line are.then.rest text) counted
        ∙ sym (wrong_behind part are.then.rest text)
        ∙ ap (λ b. wrong_line b (part ++ text)) (sym there)

    pushed : (e : Entry) → part ++ entry_text (length are.history + 1) e ≡ bus_part script (are.history ++ e ∷ [])
    pushed e =
        append_assoc (head script) (entries_text are.history) (entry_text (length are.history + 1) e)
        ∙ ap (λ t. head script ++ t) (sym (entries_push entry_text are.history e))

    by : IsWrongNext script are.history are.then line → IsAnswer script bytes (No line)
    by (Nobodys missing nobody is) =
        judged_is_answered script bytes (No line) fine
        (NobodysEntry are.history are.then.rest are.begun missing there nobody (ap No (is ∙ number [] ∙ ap (λ t. wrong_line bytes t) (append-nil part))))
    by (Another e next headed wrong is) =
        judged_is_answered script bytes (No line) fine
        (WrongEntry are.history e are.then.rest next there headed wrong
        (ap No (is ∙ number (entry_text (length are.history + 1) e) ∙ ap (λ t. wrong_line bytes t) (pushed e))))
