-- What a script is, and what is wrong with one: its lines in order, each with the first fault of a
-- line.
use Rattle.std.specs.Prelude.{ℕ, ◌+◌, ◌==◌, nat_le, nat_lt, Bool, true, false, List, [], ◌∷◌, ◌++◌, length, Option, Some, None, Result, Ok, Err, codes, if◌then◌else◌}
use Rattle.std.specs.List.{list_any, list_all, starts_with}
use Rattle.fsw_base.specs.declared.script_faults.FaultKind.{FaultKind}
use Rattle.fsw_base.specs.declared.script_faults.FaultKind.TheVariants.{LineTooLong, BadByte, UnknownWord, Misplaced, OutOfRange, Repeated, TooManyApps, TooManyCalls, TooManyBytes, TooLarge, NoApp}
use Rattle.fsw_base.specs.declared.script_faults.ScriptFault.{ScriptFault}
use Rattle.fsw_base.specs.Limits.{Limits, usual_limits}
use Rattle.script_lines.specs.declared.line.Line.{Line}
use Rattle.script_settings.specs.declared.settings.LimitName.{LimitName}
use Rattle.app_script.specs.declared.forms.Form.{Form}
use Rattle.app_script.specs.declared.forms.Form.TheVariants.{Script, Set, Sizes, Seq, App, Call, File}
use Rattle.script_words.specs.Readings.{◌>>=◌}
use Rattle.script_words.specs.Text.{lines_of, words_of, behind_word, is_text, is_same}
use Rattle.script_words.specs.Counts.{Word}
use Rattle.app_script.specs.Forms.{form_in, is_misplaced}
use Rattle.script_lines.specs.CallLines.{call_line_of}
use Rattle.script_lines.specs.FileLines.{tfile_of}
use Rattle.script_settings.specs.Settings.{with_limit, is_among, set_of, sizes_of, seq_of, app_of, script_of}
use Rattle.script_settings.specs.Accounts.{charge_of, account_of}
use Rattle.app_script.specs.Script.{Application, ScriptText}

-- what was read of a script so far
pub record Progress : Type 0 where
  -- a line that isn't skipped came before
  pub begun : Bool
  -- the limits, which of them were set, and whether the block sizes were
  pub limits : Limits
  pub named : List LimitName
  pub sized : Bool
  -- an application has begun; those before it, and the present one
  pub started : Bool
  pub done : List Application
  pub present : Application
  -- the call lines so far, and the sum of their charges
  pub calls : ℕ
  pub charged : ℕ

-- before the first line
abbrev pub opening : Progress
opening = record {
  begun = false;
  limits = usual_limits;
  named = [];
  sized = false;
  started = false;
  done = [];
  present = record { name = []; lines = [] };
  calls = 0;
  charged = 0;
}

-- ---- version and configuration

unfoldable pub after_version : Progress → List Word → Result Progress FaultKind
after_version s words =
    script_of words >>= λ version. Ok (record s { limits = record s.limits { version = version } })

unfoldable pub after_set : Progress → List Word → Result Progress FaultKind
after_set s words = set_of words >>= λ set.
    if is_among set.0 s.named then Err Repeated
    else Ok (record s {
      limits = with_limit s.limits set.0 set.1;
      named = s.named ++ set.0 ∷ [];
    })

unfoldable pub after_sizes : Progress → List Word → Result Progress FaultKind
after_sizes s words = sizes_of words >>= λ sizes.
    if s.sized then Err Repeated
    else Ok (record s { limits = record s.limits { sizes = sizes }; sized = true })

unfoldable pub after_seq : Progress → List Word → Result Progress FaultKind
after_seq s words = seq_of words >>= λ start.
    if nat_le 16 (length s.limits.starts) then Err OutOfRange
    else (if list_any (λ other. other.0 == start.0) s.limits.starts then Err Repeated
    else Ok (record s { limits = record s.limits { starts = s.limits.starts ++ start ∷ [] } }))

-- ---- applications

-- the applications so far, the present one last
abbrev pub apps_of : Progress → List Application
apps_of s = if s.started then s.done ++ s.present ∷ [] else s.done

unfoldable pub after_app : Progress → List Word → Result Progress FaultKind
after_app s words = app_of words >>= λ name.
    if list_any (λ app. is_same app.name name) (apps_of s) then Err Repeated
    else (if nat_le 16 (length (apps_of s)) then Err TooManyApps
    else Ok (record s
    { started = true; done = apps_of s; present = record { name = name; lines = [] } }))

-- ---- call lines

-- one call line more, if the script may have it
unfoldable pub after_call : Progress → Line → Result Progress FaultKind
after_call s line =
    let charge = charge_of (account_of s.present.lines) line in
    if nat_le 20000 s.calls then Err TooManyCalls
    else (if nat_lt 16777216 (s.charged + charge) then Err TooManyBytes
    else Ok (record s {
      present = record s.present { lines = s.present.lines ++ line ∷ [] };
      calls = s.calls + 1;
      charged = s.charged + charge;
    }))

-- the two call lines of a table file, if the script may have both
unfoldable pub after_file : Progress → Line × Line → Result Progress FaultKind
after_file s calls =
    if nat_le 19999 s.calls then Err TooManyCalls
    else (after_call s calls.0 >>= λ t. after_call t calls.1)

-- ---- lines

-- a line of this form, from the line behind its first word
unfoldable pub after_form : Progress → Form → List ℕ → Result Progress FaultKind
after_form s Script rest = after_version s (words_of rest)
after_form s Set rest = after_set s (words_of rest)
after_form s Sizes rest = after_sizes s (words_of rest)
after_form s Seq rest = after_seq s (words_of rest)
after_form s App rest = after_app s (words_of rest)
after_form s (Call first) rest = call_line_of first rest >>= after_call s
after_form s File rest = tfile_of (words_of rest) >>= after_file s

-- a line with this first word
unfoldable pub after_known : Progress → Option Form → List ℕ → Result Progress FaultKind
after_known s None rest = Err UnknownWord
after_known s (Some form) rest =
    if is_misplaced form s.begun s.started then Err Misplaced
    else after_form (record s { begun = true }) form rest

unfoldable pub after_words : Progress → List Word → List ℕ → Result Progress FaultKind
after_words s [] rest = Ok s
after_words s (first ∷ words) rest =
    if starts_with (λ a b. a == b) first (codes "#") then Ok s
    else after_known s (form_in s.limits.version first) rest

-- a line: skipped if it has no word or begins with a hash sign
unfoldable pub after_line : Progress → List ℕ → Result Progress FaultKind
after_line s line =
    if nat_lt 1024 (length line) then Err LineTooLong
    else (if list_all is_text line then after_words s (words_of line) (behind_word line)
    else Err BadByte)

-- a fault of the line with this number
abbrev pub at_line : {A : Type 0} → ℕ → Result A FaultKind → Result A ScriptFault
at_line number (Ok x) = Ok x
at_line number (Err kind) = Err (record { line = number; kind = kind })

infixl 10 ◌>=>◌
abbrev pub ◌>=>◌ : {A B : Type 0} → Result A ScriptFault → (A → Result B ScriptFault) →
    Result B ScriptFault
(Ok x) >=> next = next x
(Err fault) >=> next = Err fault

-- the lines from one number on
unfoldable pub after_lines : ℕ → Progress → List (List ℕ) → Result Progress ScriptFault
after_lines number s [] = Ok s
after_lines number s (line ∷ lines) =
    at_line number (after_line s line) >=> λ t. after_lines (number + 1) t lines

-- a fault of the whole script
abbrev pub whole_fault : FaultKind → ScriptFault
whole_fault kind = record { line = 0; kind = kind }

-- all lines, of which there are an application's at least
unfoldable pub progress_of : List ℕ → Result Progress ScriptFault
progress_of bytes =
    if nat_lt 1048576 (length bytes) then Err (whole_fault TooLarge)
    else (after_lines 1 opening (lines_of bytes) >=>
    λ s. if s.started then Ok s else Err (whole_fault NoApp))

-- The script that the bytes are, or the first fault.
unfoldable pub grammar : List ℕ → Result ScriptText ScriptFault
grammar bytes = progress_of bytes >=> λ s. Ok (record { limits = s.limits; apps = apps_of s })
