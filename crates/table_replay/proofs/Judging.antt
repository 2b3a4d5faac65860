-- The first wrong line of a report, among those on the tables.
use Rattle.std.proofs.Common.{◌≡◌, ℕ, ◌+◌, List, [], ◌∷◌, ◌++◌, length, codes, ap, sym, ◌∙◌, append_assoc, append-nil}
use Rattle.bus_words.specs.declared.history.Entry.{Entry as BusEntry}
use Rattle.tbl_words.specs.declared.history.Entry.{Entry}
use Rattle.run_report.specs.TableText.{table_entries_text, table_entry_text}
use Rattle.app_script.specs.Script.{ScriptText}
use Rattle.app_script.specs.ScriptRanges.{IsScript}
use Rattle.script_runs.specs.Histories.{Histories}
use Rattle.run_check.specs.declared.judgement.Judgement.TheVariants.{No}
use Rattle.run_check.specs.Begun.{IsBegun, IsWhole}
use Rattle.run_check.specs.Checks.{IsAnswer}
use Rattle.run_check.specs.Fronts.{line_ends, wrong_line}
use Rattle.run_check.specs.Judged.{NobodysTableEntry, WrongTableEntry, entries_part}
use Rattle.run_check.specs.Openings.{bus_part}
use Rattle.run_check.proofs.Fronts.{line_ends-append}
use Rattle.run_check.proofs.Judgements.{judged_is_answered}
use Rattle.replay_parts.specs.Compared.{Compared}
use Rattle.replay_parts.proofs.LineTexts.{entries_push}
use Rattle.replay_parts.proofs.Passing.{wrong_behind}
use Rattle.table_replay.specs.Replayed.{AreWrongLines, before_tables}
use Rattle.table_replay.specs.Replays.{IsWrongNext, Nobodys, Another}

pub first_wrong : (script : ScriptText) (from : Compared) (line : ℕ) → IsScript script → AreWrongLines script from line → (bus : List BusEntry) → IsBegun script bus → IsWhole script bus →
    from.lines ≡ line_ends (before_tables script bus) → IsAnswer script (before_tables script bus ++ from.rest) (No line)
first_wrong script from line fine are bus begun whole lines = by are.wrong
  where
    g : Histories
    g = record { bus = bus; tables = are.history }

    bytes : List ℕ
    bytes = before_tables script bus ++ from.rest

    -- what is before the wrong line
    part : before_tables script bus ++ table_entries_text are.history ≡ entries_part script g
    part = append_assoc (bus_part script bus) (codes "tables\n") (table_entries_text are.history)

    there : bytes ≡ entries_part script g ++ are.then.rest
    there =
        ap (λ t. before_tables script bus ++ t) are.text.rest
        ∙ sym (append_assoc (before_tables script bus) (table_entries_text are.history) are.then.rest)
        ∙ ap (λ t. t ++ are.then.rest) part

    counted : are.then.lines ≡ line_ends (entries_part script g)
    counted =
        are.text.lines
        ∙ ap (λ n. n + line_ends (table_entries_text are.history)) lines
        ∙ sym (line_ends-append (before_tables script bus) (table_entries_text are.history))
        ∙ ap line_ends part

    -- the number of the wrong line of the whole
    number : (text : List ℕ) → are.then.lines + wrong_line are.then.rest text ≡ wrong_line bytes (entries_part script g ++ text)
    number text =
        ap (λ n. n + wrong_line are.then.rest text) counted
        ∙ sym (wrong_behind (entries_part script g) are.then.rest text)
        ∙ ap (λ b. wrong_line b (entries_part script g ++ text)) (sym there)

    by : IsWrongNext script are.history are.then line → IsAnswer script bytes (No line)
    by (Nobodys missing nobody is) =
        judged_is_answered script bytes (No line) fine
        (NobodysTableEntry g are.then.rest begun whole are.begun missing there nobody
        (ap No (is ∙ number [] ∙ ap (λ t. wrong_line bytes t) (append-nil (entries_part script g)))))
    by (Another e next headed wrong is) =
        judged_is_answered script bytes (No line) fine
        (WrongTableEntry g e are.then.rest begun whole next there headed wrong
        (ap No (is ∙ number (table_entry_text (length are.history + 1) e) ∙ ap (λ t. wrong_line bytes t) (pushed e))))
      where
        pushed : (e : Entry) → entries_part script g ++ table_entry_text (length are.history + 1) e ≡ entries_part script (record g { tables = are.history ++ e ∷ [] })
        pushed e =
            append_assoc (bus_part script bus) (codes "tables\n" ++ table_entries_text are.history) (table_entry_text (length are.history + 1) e)
            ∙ ap (λ t. bus_part script bus ++ t)
            (append_assoc (codes "tables\n") (table_entries_text are.history) (table_entry_text (length are.history + 1) e)
            ∙ ap (λ t. codes "tables\n" ++ t) (sym (entries_push table_entry_text are.history e)))
