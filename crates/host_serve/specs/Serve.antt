-- What the program does: what it reads, what it writes and what it shows an audit, by how it ended.
use Rattle.std.specs.Prelude.{◌≡◌, ◌⊎◌, ℕ, ◌≤◌, List, [], ◌∷◌, ◌++◌, length, codes, decimal, Option, Some, None, Result, Ok, Err}
use Rattle.fsw_base.specs.Guards.{GuardedSink, GuardedSource}
use Rattle.fsw_base.specs.Outside.{Rose}
use Rattle.fsw_base.specs.ScriptFaults.{fault_name}
use Rattle.fsw_base.specs.declared.script_faults.FaultKind.TheVariants.{TooLarge}
use Rattle.fsw_base.specs.declared.script_faults.ScriptFault.{ScriptFault}
use Rattle.bus_words.specs.declared.history.Entry.{Entry}
use Rattle.bus_words.specs.Machine.{state_after}
use Rattle.fsw_base.specs.Limits.{Limits}
use Rattle.text_page.specs.Pieces.{Grew, CutShort}
use Rattle.run_report.specs.CounterText.{BusFigures}
use Rattle.run_report.specs.Report.{ending_text, figures_shown, table_figures_shown}
use Rattle.run_check.specs.Openings.{report}
use Rattle.app_script.specs.Grammar.{grammar}
use Rattle.script_runs.specs.Histories.{Histories}
use Rattle.script_runs.specs.Runs.{IsRunOf, Guarantees}
use Rattle.script_runs.specs.Rotation.{rotation}
use Rattle.app_script.specs.Script.{ScriptText}
use Rattle.script_text.specs.Generated.{generated}
use Rattle.script_text.specs.ScriptSpelling.{spelled_script}
use Rattle.bridge_plan.specs.declared.fail.PlanFault.{PlanFault}
use Rattle.bridge_plan.specs.declared.fail.PlanFault.TheVariants as no_plan
use Rattle.bridge_plan.specs.Grammar.{plan_of}
use Rattle.bridge_plan.specs.Plan.{PlanText}
use Rattle.bridge_runs.specs.Bridged.{IsBridged}
use Rattle.host_report.specs.Audit.{IsShown, GuardedAudit}
use Rattle.host_serve.specs.Bridging.{AreShown, both_reports, most_plan}
use Rattle.host_serve.specs.Status.{IsNoMemory}
use Rattle.host_serve.specs.Input.{most_input, IsWhole, IsTooLarge, IsPartRead}
use Rattle.host_serve.specs.Checking.{most_checked, illegal_text, legal_text, missing_text}
use Rattle.report_check.specs.Parts.{parts_in}
use Rattle.run_check.specs.Checks.{IsAnswer}
use Rattle.run_check.specs.declared.judgement.Judgement.{Judgement}
use Rattle.run_check.specs.declared.judgement.Judgement.TheVariants.{Yes, No}
use Rattle.host_serve.specs.Images.{most_image, most_table}
use Rattle.table_images.specs.Images.{image_text, image_fault_text, packed_file}
use Rattle.tbl_file.specs.Image.{image_fault, name_in, offset_in, sub_in, table_in}
use Rattle.tbl_file.specs.declared.image.ImageFault.{ImageFault}
use Rattle.tbl_file.specs.declared.image.ImageFault.TheVariants as no_image
use Rattle.host_report.specs.declared.reporting.Part.{Part}
use Rattle.host_report.specs.declared.reporting.Part.TheVariants.{Whole, Ending}
use Rattle.host_serve.specs.declared.words.Task.{Task}
use Rattle.host_serve.specs.declared.words.Task.TheVariants as task
use Rattle.host_serve.specs.declared.status.HostStatus.{HostStatus}
use Rattle.host_serve.specs.declared.status.HostStatus.TheVariants as status

-- Texts. --

-- the line that tells which words the program knows
abbrev pub usage_text : List ℕ
usage_text =
    codes "usage: run | lockstep | gen N | soak N | check | image | pack NAME OFFSET SUB | bridge\n"

-- the line that tells a fault
abbrev pub fault_text : ScriptFault → List ℕ
fault_text fault =
    codes "script:" ++ decimal fault.line ++ codes ":" ++ fault_name fault.kind ++ codes "\n"

-- the fault of an input that is longer than any script
abbrev pub too_large : ScriptFault
too_large = record { line = 0; kind = TooLarge }

-- what a report shows of the bus after a history of so many applications, beside the history
abbrev pub figures_after : Limits → ℕ → List Entry → BusFigures
figures_after limits apps history = figures_shown limits (state_after limits apps history)

-- the end of the report of a script's histories, from its line `counters` on
abbrev pub report_ending : ScriptText → Histories → List ℕ
report_ending script histories =
    ending_text (figures_after script.limits (length script.apps) histories.bus)
    (table_figures_shown script.limits (length script.apps) histories.tables)

-- this much of the report of a script's histories
abbrev pub report_part : Part → ScriptText → Histories → List ℕ
report_part Whole script histories = report script histories
report_part Ending script histories = report_ending script histories

-- A source: the input left, if it is told, and the count of its faults.
pub record Fed : Type 0 where
  pub left : Option (List ℕ)
  pub faults : ℕ

-- a source as it is, by what its trait shows
abbrev pub fed_by : {S : Type 0} → (S → Option (List ℕ)) → (S → ℕ) → S → Fed
fed_by left faults source = record { left = left source; faults = faults source }

-- a source as it is behind its guard
abbrev pub fed_through : GuardedSource → Fed
fed_through source = record { left = source.left; faults = source.faults }

-- What the program made: the bytes written, if they are told, the count of the sink's faults,
-- and the histories of the runs that an audit was shown, if it tells them.
pub record Made : Type 0 where
  pub written : Option (List ℕ)
  pub faults : ℕ
  pub shown : Option (List Histories)

-- a sink and an audit as they are, by what their traits tell
abbrev pub made_by : {K A : Type 0} → (K → Option (List ℕ)) → (K → ℕ) →
    (A → Option (List Histories)) → K → A → Made
made_by written faults shown sink audit =
    record { written = written sink; faults = faults sink; shown = shown audit }

-- a sink and an audit as they are behind their guards
abbrev pub made_through : GuardedSink → GuardedAudit → Made
made_through sink audit =
    record { written = sink.written; faults = sink.faults; shown = audit.shown }

-- nothing was written or shown
abbrev pub MakesNothing : Made → Made → Type 0
MakesNothing old new = new ≡ old

-- a text was written, and nothing shown
pub record Tells (old new : Made) (text : List ℕ) : Type 0 where
  pub written : Grew old.written new.written text
  pub shown : new.shown ≡ old.shown

-- a front of a text was written, the sink's count of faults rose, and nothing was shown
pub record TellsFront (old new : Made) (text : List ℕ) : Type 0 where
  pub front : CutShort old.written new.written text
  pub cause : Rose old.faults new.faults
  pub shown : new.shown ≡ old.shown

-- the histories of a run were shown, and a text written
pub record Reports (old new : Made) (histories : Histories) (text : List ℕ) : Type 0 where
  pub written : Grew old.written new.written text
  pub shown : IsShown old.shown new.shown histories

-- the histories of a run were shown, a front of a text written, and the sink's count of faults rose
pub record ReportsFront (old new : Made) (histories : Histories) (text : List ℕ) : Type 0 where
  pub front : CutShort old.written new.written text
  pub cause : Rose old.faults new.faults
  pub shown : IsShown old.shown new.shown histories

-- the histories of side 1 and of side 2 of a bridge were shown, and a text written
pub record ReportsPair (old new : Made) (one two : Histories) (text : List ℕ) : Type 0 where
  pub written : Grew old.written new.written text
  pub shown : AreShown old.shown new.shown one two

-- these histories were shown, a front of a text written, and the sink's count of faults rose
pub record ReportsPairFront (old new : Made) (one two : Histories) (text : List ℕ) : Type 0 where
  pub front : CutShort old.written new.written text
  pub cause : Rose old.faults new.faults
  pub shown : AreShown old.shown new.shown one two

-- What was made, by how a call ended: all that was due, at the wanted end; a front of it, if the
-- sink failed; what is made without memory, if some was refused. There is no other end.
abbrev pub Ends : HostStatus → HostStatus → Type 0 → Type 0 → Type 0 → Type 0
Ends wanted status.WriteFault whole front without = front
Ends wanted (status.NoMemory refused) whole front without = without
Ends wanted result whole front without = (result ≡ wanted) × whole

-- how a call ends of which a text is due
abbrev pub EndsText : HostStatus → HostStatus → List ℕ → Type 0 → Made → Made → Type 0
EndsText wanted result text without old new =
    Ends wanted result (Tells old new text) (TellsFront old new text) without

-- How the applications of a script are run: in strict rotation, or each on a thread of its own.
pub data Way : Type 0 where
  Rotating : Way
  OnThreads : Way

-- the histories that a run of a script leaves: in rotation those of its rotation; on threads,
-- whatever the interleaving, ones that both services can have and that merge the calls of its
-- applications
abbrev pub IsLeftBy : Way → ScriptText → Histories → Type 0
IsLeftBy Rotating script histories = histories ≡ rotation script
IsLeftBy OnThreads script histories = IsRunOf script histories

-- the histories that a run of a script left were shown, and this part of their report written
abbrev pub ReportsRun : Way → Part → ScriptText → Made → Made → Type 0
ReportsRun how part script old new =
    (histories : Histories) × IsLeftBy how script histories ×
    Reports old new histories (report_part part script histories)

-- the same, but that a front of the report was written, since the sink failed
abbrev pub ReportsRunFront : Way → Part → ScriptText → Made → Made → Type 0
ReportsRunFront how part script old new =
    (histories : Histories) × IsLeftBy how script histories ×
    ReportsFront old new histories (report_part part script histories)

-- how the run of a script ends, of whose report this much is due
abbrev pub EndsScript : HostStatus → Way → Part → ScriptText → Made → Made → Type 0
EndsScript result how part script old new =
    Ends status.Done result (ReportsRun how part script old new)
    (ReportsRunFront how part script old new) (MakesNothing old new)

-- how an input ends that is no script: the line of its fault is due
abbrev pub EndsRefused : HostStatus → ScriptFault → Made → Made → Type 0
EndsRefused result fault old new =
    EndsText (status.Script fault) result (fault_text fault) (MakesNothing old new) old new

-- how a run that went through ends: its histories are shown, and a text is due; no memory is asked
-- for after it
abbrev pub EndsRun : HostStatus → Histories → List ℕ → Made → Made → Type 0
EndsRun result histories text old new =
    Ends status.Done result (Reports old new histories text) (ReportsFront old new histories text) ⊥

-- how it ends on words that the program doesn't know: the usage line is due, and no memory is taken
abbrev pub EndsUsage : HostStatus → Made → Made → Type 0
EndsUsage result old new = EndsText status.Usage result usage_text ⊥ old new

-- what was made of an input, by what it is: a script, which was run in this way, or the first fault
abbrev pub EndsInput : HostStatus → Way → Result ScriptText ScriptFault → Made → Made → Type 0
EndsInput result how (Ok script) old new = EndsScript result how Whole script old new
EndsInput result how (Err fault) old new = EndsRefused result fault old new

-- the whole input was read, and is this script
abbrev pub IsRead : ScriptText → Option (List ℕ) → Option (List ℕ) → Type 0
IsRead script left left' =
    (bytes : List ℕ) × IsWhole most_input bytes left left' × (grammar bytes ≡ Ok script)

-- how an input ends that is no image, or of which none can be packed: the line of its fault is due;
-- no memory is asked for after the reading
abbrev pub EndsNoImage : HostStatus → ImageFault → Made → Made → Type 0
EndsNoImage result fault old new =
    EndsText (status.Image fault) result (image_fault_text fault) ⊥ old new

-- how an input ends on `image`, by the fault that it has as one
abbrev pub EndsShown : HostStatus → Option ImageFault → List ℕ → Made → Made → Type 0
EndsShown result (Some fault) file old new = EndsNoImage result fault old new
EndsShown result None file old new =
    EndsText status.Done result
    (image_text (name_in file) (offset_in file) (table_in file) (sub_in file)) ⊥ old new

-- how an input ends on `pack` with a name, an offset and a sub: an image of it is due, if it has a
-- byte
abbrev pub EndsPacked : HostStatus → List ℕ → ℕ → ℕ → List ℕ → Made → Made → Type 0
EndsPacked result name offset sub [] old new = EndsNoImage result no_image.Empty old new
EndsPacked result name offset sub (byte ∷ bytes) old new =
    EndsText status.Done result (packed_file name offset sub (byte ∷ bytes)) (MakesNothing old new)
    old new

-- how a check ends that came to a verdict: the line of this is due
abbrev pub EndsVerdict : HostStatus → Judgement → Made → Made → Type 0
EndsVerdict result Yes old new = EndsText status.Done result legal_text ⊥ old new
EndsVerdict result (No line) old new =
    EndsText (status.Illegal line) result (illegal_text line) ⊥ old new

-- How a report ends on `check`, by the text before it: the answer on it is told, unless there is no
-- memory for the check; if the text is no script, its first fault is.
abbrev pub EndsChecked : HostStatus → Result ScriptText ScriptFault → List ℕ → Made → Made → Type 0
EndsChecked result (Ok script) report old new =
    ((verdict : Judgement) × IsAnswer script report verdict × EndsVerdict result verdict old new)
    ⊎ (IsNoMemory result × MakesNothing old new)
EndsChecked result (Err fault) report old new = EndsRefused result fault old new

-- how an input ends on `check`, by its two parts
abbrev pub EndsParts : HostStatus → Option (List ℕ × List ℕ) → Made → Made → Type 0
EndsParts result None old new = EndsText status.MissingPart result missing_text ⊥ old new
EndsParts result (Some parts) old new = EndsChecked result (grammar parts.0) parts.1 old new

-- A run of a plan left these histories of its sides, whatever the interleaving: the bridge sent on
-- side 2 just what its pipe received on side 1, each message once and in order. They were shown,
-- and the reports of both sides written.
abbrev pub ReportsPlan : PlanText → Made → Made → Type 0
ReportsPlan plan old new =
    (one : Histories) × (two : Histories) × IsBridged plan one two ×
    ReportsPair old new one two (both_reports plan one two)

-- the same, but that a front of the reports was written, since the sink failed
abbrev pub ReportsPlanFront : PlanText → Made → Made → Type 0
ReportsPlanFront plan old new =
    (one : Histories) × (two : Histories) × IsBridged plan one two ×
    ReportsPairFront old new one two (both_reports plan one two)

-- how the run of a plan ends
abbrev pub EndsPlan : HostStatus → PlanText → Made → Made → Type 0
EndsPlan result plan old new =
    Ends status.Done result (ReportsPlan plan old new) (ReportsPlanFront plan old new)
    (MakesNothing old new)

-- how a run of two sides that went through ends: their histories are shown, and a text is due; no
-- memory is asked for after it
abbrev pub EndsBoth : HostStatus → Histories → Histories → List ℕ → Made → Made → Type 0
EndsBoth result one two text old new =
    Ends status.Done result (ReportsPair old new one two text)
    (ReportsPairFront old new one two text) ⊥

-- how an input ends that is no plan: the line of its fault is due
abbrev pub EndsNoPlan : HostStatus → PlanFault → Made → Made → Type 0
EndsNoPlan result no_plan.MissingPart old new =
    EndsText status.MissingPart result missing_text (MakesNothing old new) old new
EndsNoPlan result (no_plan.Script fault) old new = EndsRefused result fault old new

-- how an input ends on `bridge`, by what it is: a plan, which was run, or its first fault
abbrev pub EndsPlanInput : HostStatus → Result PlanText PlanFault → Made → Made → Type 0
EndsPlanInput result (Ok plan) old new = EndsPlan result plan old new
EndsPlanInput result (Err fault) old new = EndsNoPlan result fault old new

-- the whole input was read, and is this plan
abbrev pub IsPlanRead : PlanText → Option (List ℕ) → Option (List ℕ) → Type 0
IsPlanRead plan left left' =
    (bytes : List ℕ) × IsWhole most_plan bytes left left' × (plan_of bytes ≡ Ok plan)

-- the status of a verdict
abbrev pub status_on : Judgement → HostStatus
status_on Yes = status.Done
status_on (No line) = status.Illegal line

-- On a word that takes an input of so many bytes at most, one of these happened. `ends` is how an
-- input ends that is read whole, and `refuses` how a longer one does.
pub data Takes (most : ℕ) (ends : List ℕ → Type 0) (refuses : Type 0) (result : HostStatus)
    (fed fed' : Fed) (old new : Made) : Type 0 where
  -- the whole input was read, and made what it is worth
  Read : (bytes : List ℕ) → IsWhole most bytes fed.left fed'.left → ends bytes →
      Takes most ends refuses result fed fed' old new
  -- the input is longer than any of the word
  TooLong : IsTooLarge most fed.left fed'.left → refuses →
      Takes most ends refuses result fed fed' old new
  -- the source failed
  SourceFailed : result ≡ status.ReadFault → Rose fed.faults fed'.faults →
      IsPartRead most fed.left fed'.left → MakesNothing old new →
      Takes most ends refuses result fed fed' old new
  -- no memory for the input, of which nothing was read
  NoRoom : IsNoMemory result → fed' ≡ fed → MakesNothing old new →
      Takes most ends refuses result fed fed' old new

-- on a word that has a script read and run in this way, the script is run or its first fault told
abbrev pub Runs : Way → HostStatus → Fed → Fed → Made → Made → Type 0
Runs how result fed fed' old new =
    Takes most_input (λ bytes. EndsInput result how (grammar bytes) old new)
    (EndsRefused result too_large old new) result fed fed' old new

-- on `check` the report that is read behind a script is judged, or a fault of the input told
abbrev pub Judges : HostStatus → Fed → Fed → Made → Made → Type 0
Judges result fed fed' old new =
    Takes most_checked (λ bytes. EndsParts result (parts_in bytes) old new)
    (EndsRefused result too_large old new) result fed fed' old new

-- on `bridge` the plan that is read is run, or its first fault told
abbrev pub Bridges : HostStatus → Fed → Fed → Made → Made → Type 0
Bridges result fed fed' old new =
    Takes most_plan (λ bytes. EndsPlanInput result (plan_of bytes) old new)
    (EndsRefused result too_large old new) result fed fed' old new

-- on `image` the table image that is read is shown, or its fault told
abbrev pub Shows : HostStatus → Fed → Fed → Made → Made → Type 0
Shows result fed fed' old new =
    Takes most_image (λ bytes. EndsShown result (image_fault bytes) bytes old new)
    (EndsNoImage result no_image.TooLarge old new) result fed fed' old new

-- on `pack` with a name, an offset and a sub, the image of the bytes that are read is written
abbrev pub Packs : HostStatus → List ℕ → ℕ → ℕ → Fed → Fed → Made → Made → Type 0
Packs result name offset sub fed fed' old new =
    Takes most_table (λ bytes. EndsPacked result name offset sub bytes old new)
    (EndsNoImage result no_image.TooLarge old new) result fed fed' old new

-- on `gen` and a number nothing is read, and the generated script of this number is written
pub record Generates (result : HostStatus) (number : ℕ) (fed fed' : Fed)
    (old new : Made) : Type 0 where
  pub unread : fed' ≡ fed
  pub ends : EndsText status.Done result (spelled_script (generated number)) (MakesNothing old new)
      old new

-- on `soak` and a number nothing is read; the generated script of this number is run, and the end
-- of its report written
pub record Soaks (result : HostStatus) (number : ℕ) (fed fed' : Fed) (old new : Made) : Type 0 where
  pub unread : fed' ≡ fed
  pub ends : EndsScript result Rotating Ending (generated number) old new

-- on other words nothing is read, and the usage line is written; no memory is taken
pub record OtherWords (result : HostStatus) (fed fed' : Fed) (old new : Made) : Type 0 where
  pub unread : fed' ≡ fed
  pub usage : EndsUsage result old new

-- what happened, by what the words ask for
pub record Serves (wanted : Option Task) (result : HostStatus) (fed fed' : Fed)
    (old new : Made) : Type 0 where
  pub on_threads : wanted ≡ Some task.Run → Runs OnThreads result fed fed' old new
  pub lockstep : wanted ≡ Some task.Lockstep → Runs Rotating result fed fed' old new
  pub generates : (number : ℕ) → wanted ≡ Some (task.Generate number) →
      Generates result number fed fed' old new
  pub soaks : (number : ℕ) → wanted ≡ Some (task.Soak number) → Soaks result number fed fed' old new
  pub bridges : wanted ≡ Some task.Bridge → Bridges result fed fed' old new
  pub judges : wanted ≡ Some task.Check → Judges result fed fed' old new
  pub shows : wanted ≡ Some task.ShowImage → Shows result fed fed' old new
  pub packs : (name : List ℕ) (offset sub : ℕ) → wanted ≡ Some (task.Pack name offset sub) →
      Packs result name offset sub fed fed' old new
  pub other_words : wanted ≡ None → OtherWords result fed fed' old new

-- Causes. --

-- why it ended so: at a failure the count of faults rose, and other words alone are answered with
-- the usage
abbrev pub HasCauses : HostStatus → Fed → Fed → Made → Made → Type 0
HasCauses status.Usage fed fed' old new = ⊥
HasCauses status.ReadFault fed fed' old new = Rose fed.faults fed'.faults
HasCauses status.WriteFault fed fed' old new = Rose old.faults new.faults
HasCauses status.Done fed fed' old new = Unit {0}
HasCauses (status.Script fault) fed fed' old new = Unit {0}
HasCauses (status.NoMemory refused) fed fed' old new = Unit {0}
HasCauses status.MissingPart fed fed' old new = Unit {0}
HasCauses (status.Illegal line) fed fed' old new = Unit {0}
HasCauses (status.Image fault) fed fed' old new = Unit {0}

-- If the input is shown and is a script, and neither count of faults rose, all was done or there
-- was no memory.
abbrev pub Completes : HostStatus → Fed → Fed → Made → Made → Type 0
Completes result fed fed' old new =
    (input : List ℕ) (script : ScriptText) → fed.left ≡ Some input → grammar input ≡ Ok script →
    ¬ Rose fed.faults fed'.faults → ¬ Rose old.faults new.faults →
    (result ≡ status.Done) ⊎ IsNoMemory result

-- If the input is shown and is a plan, and neither count of faults rose, all was done or there was
-- no memory.
abbrev pub CompletesPlan : HostStatus → Fed → Fed → Made → Made → Type 0
CompletesPlan result fed fed' old new =
    (input : List ℕ) (plan : PlanText) → fed.left ≡ Some input → plan_of input ≡ Ok plan →
    ¬ Rose fed.faults fed'.faults → ¬ Rose old.faults new.faults →
    (result ≡ status.Done) ⊎ IsNoMemory result

-- If the input is shown and has a script and a report, and neither count of faults rose, the answer
-- is that on the report, or there was no memory.
abbrev pub CompletesCheck : HostStatus → Fed → Fed → Made → Made → Type 0
CompletesCheck result fed fed' old new =
    (input text report : List ℕ) (script : ScriptText) → fed.left ≡ Some input →
    length input ≤ most_checked → parts_in input ≡ Some (text, report) →
    grammar text ≡ Ok script →
    ¬ Rose fed.faults fed'.faults → ¬ Rose old.faults new.faults →
    ((verdict : Judgement) × IsAnswer script report verdict × (result ≡ status_on verdict))
    ⊎ IsNoMemory result

-- If the input is shown and is a table image that `image` takes, and neither count of faults rose,
-- all was done or there was no memory.
abbrev pub CompletesImage : HostStatus → Fed → Fed → Made → Made → Type 0
CompletesImage result fed fed' old new =
    (input : List ℕ) → fed.left ≡ Some input → length input ≤ most_image →
    image_fault input ≡ None → ¬ Rose fed.faults fed'.faults → ¬ Rose old.faults new.faults →
    (result ≡ status.Done) ⊎ IsNoMemory result

-- the same of an input that `pack` takes, of one byte at least
abbrev pub CompletesPack : HostStatus → Fed → Fed → Made → Made → Type 0
CompletesPack result fed fed' old new =
    (input : List ℕ) → fed.left ≡ Some input → 1 ≤ length input → length input ≤ most_table →
    ¬ Rose fed.faults fed'.faults → ¬ Rose old.faults new.faults →
    (result ≡ status.Done) ⊎ IsNoMemory result

-- if nothing was read, and the sink's count of faults didn't rise, all was done or there was no
-- memory
abbrev pub CompletesUnread : HostStatus → Made → Made → Type 0
CompletesUnread result old new =
    ¬ Rose old.faults new.faults → (result ≡ status.Done) ⊎ IsNoMemory result

-- The headline, of runs on threads and in rotation alike: if all was done, the whole input was
-- read and is a script, and there are a history of the bus and one of the tables, both legal under
-- the script's limits, so that each answer is the machine's and each refusal its named cause's,
-- which merge the calls of the script's applications, each once and in script order. By these each
-- pipe's receipts are those of a list machine over the accepted sends, under the pipe's own limits
-- and depth; each send number that is given is new; at no time are more blocks of the bus's pool
-- out than were made, or more bytes in use than it has; and at the end nothing is held, no byte is
-- in use and no table is left. That the pool itself has just the blocks that these histories hold
-- is said at each time by the bus's readers (`pool`, clause `in_use`; `desk`, clause `blocks`), and
-- that what is held never changes by what a port reads (`held`, `last`). These two histories the
-- audit was shown, by the cores that have them, and the report of these was written.
abbrev pub Headline : HostStatus → Fed → Fed → Made → Made → Type 0
Headline result fed fed' old new =
    result ≡ status.Done → (bytes : List ℕ) × (script : ScriptText) × (histories : Histories)
    × IsWhole most_input bytes fed.left fed'.left
    × (grammar bytes ≡ Ok script)
    × IsRunOf script histories
    × Guarantees script histories
    × IsShown old.shown new.shown histories
    × Grew old.written new.written (report script histories)

-- The headline of a bridge: if all was done, the whole input was read and is a plan, and there
-- are histories of both sides by which each message of a route goes over the bridge once and in
-- order (`IsBridged`): on each side both are legal under the script's configuration and merge the
-- calls of its applications, and what the bridge sends on side 2 is what its pipe received on
-- side 1. These the audit was shown, those of side 1 first, and the reports of both were written.
abbrev pub HeadlineOnBridge : HostStatus → Fed → Fed → Made → Made → Type 0
HeadlineOnBridge result fed fed' old new =
    result ≡ status.Done → (bytes : List ℕ) × (plan : PlanText) × (one : Histories)
    × (two : Histories)
    × IsWhole most_plan bytes fed.left fed'.left
    × (plan_of bytes ≡ Ok plan)
    × IsBridged plan one two
    × AreShown old.shown new.shown one two
    × Grew old.written new.written (both_reports plan one two)

-- What is outside: a source, and what was made.
pub record Outside : Type 0 where
  pub fed : Fed
  pub made : Made

-- a source, a sink and an audit as they are, by what their traits tell
abbrev pub outside : {S K A : Type 0} → (S → Option (List ℕ)) → (S → ℕ) → (K → Option (List ℕ)) →
    (K → ℕ) → (A → Option (List Histories)) → S → K → A → Outside
outside left source_faults written sink_faults shown source sink audit =
    record {
      fed = fed_by left source_faults source;
      made = made_by written sink_faults shown sink audit;
    }

-- What the top call did, by what the words asked for.
pub record Served (wanted : Option Task) (result : HostStatus)
    (before after : Outside) : Type 0 where
  -- whatever the interleaving, the report prints one history for each service that merges the
  -- applications' calls, each once and in script order, and what follows of it
  pub headline_on_run : wanted ≡ Some task.Run →
      Headline result before.fed after.fed before.made after.made
  pub headline : wanted ≡ Some task.Lockstep →
      Headline result before.fed after.fed before.made after.made
  -- on `bridge` both reports print histories by which each message of a route goes over once and in
  -- order
  pub headline_on_bridge : wanted ≡ Some task.Bridge →
      HeadlineOnBridge result before.fed after.fed before.made after.made
  -- what was read, written and shown, by how it ended
  pub on_threads : wanted ≡ Some task.Run →
      Runs OnThreads result before.fed after.fed before.made after.made
  pub lockstep : wanted ≡ Some task.Lockstep →
      Runs Rotating result before.fed after.fed before.made after.made
  pub generates : (number : ℕ) → wanted ≡ Some (task.Generate number) →
      Generates result number before.fed after.fed before.made after.made
  pub soaks : (number : ℕ) → wanted ≡ Some (task.Soak number) →
      Soaks result number before.fed after.fed before.made after.made
  pub bridges : wanted ≡ Some task.Bridge →
      Bridges result before.fed after.fed before.made after.made
  pub judges : wanted ≡ Some task.Check →
      Judges result before.fed after.fed before.made after.made
  pub shows : wanted ≡ Some task.ShowImage →
      Shows result before.fed after.fed before.made after.made
  pub packs : (name : List ℕ) (offset sub : ℕ) → wanted ≡ Some (task.Pack name offset sub) →
      Packs result name offset sub before.fed after.fed before.made after.made
  pub other_words : wanted ≡ None → OtherWords result before.fed after.fed before.made after.made
  -- why it ended so; these follow from those above
  pub causes : (asked : Task) → wanted ≡ Some asked →
      HasCauses result before.fed after.fed before.made after.made
  pub usage_or_fault : wanted ≡ None → (result ≡ status.Usage) ⊎ (result ≡ status.WriteFault)
  pub complete_on_run : wanted ≡ Some task.Run →
      Completes result before.fed after.fed before.made after.made
  pub complete : wanted ≡ Some task.Lockstep →
      Completes result before.fed after.fed before.made after.made
  pub complete_generates : (number : ℕ) → wanted ≡ Some (task.Generate number) →
      CompletesUnread result before.made after.made
  pub complete_soaks : (number : ℕ) → wanted ≡ Some (task.Soak number) →
      CompletesUnread result before.made after.made
  pub complete_bridges : wanted ≡ Some task.Bridge →
      CompletesPlan result before.fed after.fed before.made after.made
  pub complete_judges : wanted ≡ Some task.Check →
      CompletesCheck result before.fed after.fed before.made after.made
  pub complete_shows : wanted ≡ Some task.ShowImage →
      CompletesImage result before.fed after.fed before.made after.made
  pub complete_packs : (name : List ℕ) (offset sub : ℕ) →
      wanted ≡ Some (task.Pack name offset sub) →
      CompletesPack result before.fed after.fed before.made after.made
