-- Why the program ended as it did, and that a script is run if nothing fails.
use Rattle.std.proofs.Common.{◌≡◌, ◌⊎◌, ℕ, ◌<◌, ◌≤◌, List, [], ◌∷◌, ◌++◌, length, map, Option, Some, None, Result, Ok, Err, IfOk, IfErr, IfSome, inl, inr, refl, sym, ap, subst, ◌∙◌, arith, length-append}
use Rattle.std.specs.List.{range_with_len}
use Rattle.fsw_base.specs.declared.script_faults.ScriptFault.{ScriptFault}
use Rattle.bus_words.specs.declared.history.Entry.{Entry}
use Rattle.bus_words.specs.declared.receipts.Receipt.{Receipt}
use Rattle.bus_words.specs.ReceiptLists.{Receipts}
use Rattle.tbl_words.specs.declared.history.Entry.{Entry as TableEntry}
use Rattle.run_report.specs.Report.{ending_text, figures_shown, table_figures_shown, report_text}
use Rattle.app_script.specs.Grammar.{grammar}
use Rattle.script_runs.specs.Histories.{Histories}
use Rattle.app_script.specs.Script.{ScriptText}
use Rattle.script_runs.specs.Told.{receipts_told}
use Rattle.script_runs.specs.Runs.{IsRunOf}
use Rattle.script_runs.proofs.EndsCome.{run-guarantees}
use Rattle.script_runs.proofs.ScriptHistories.{rotation-legal}
use Rattle.script_runs.proofs.TableHistories.{rotation-legal_tables, rotation-merges_both}
use Rattle.host_serve.proofs.Sizes.{length-grammar}
use Rattle.fsw_base.specs.Limits.{Limits}
use Rattle.fsw_base.specs.Outside.{Rose}
use Rattle.std.specs.Result.{result_ok}
use Rattle.text_page.specs.Pieces.{Grew, CutShort}
use Rattle.app_run.specs.Runners.{histories_of}
use Rattle.host_serve.specs.Input.{most_input, IsWhole, IsTooLarge}
use Rattle.sb_calls.specs.Core.{Core, apps_of, state_of}
use Rattle.tbl_load.specs.Core.{Core as TableCore, apps_of as table_apps_of}
use Rattle.tbl_file.specs.declared.image.ImageFault.{ImageFault}
use Rattle.tbl_file.specs.declared.image.ImageFault.TheVariants as no_image
use Rattle.tbl_file.specs.Image.{image_fault, name_in, offset_in, sub_in, table_in}
use Rattle.report_check.specs.Parts.{parts_in}
use Rattle.run_check.specs.Checks.{IsAnswer}
use Rattle.run_check.specs.declared.judgement.Judgement.{Judgement}
use Rattle.run_check.specs.declared.judgement.Judgement.TheVariants.{Yes, No}
use Rattle.host_serve.specs.Checking.{most_checked, illegal_text, legal_text, missing_text}
use Rattle.host_serve.specs.Images.{most_image, most_table}
use Rattle.table_images.specs.Images.{image_text, image_fault_text, packed_file}
use Rattle.host_report.specs.Parts.{part_shown}
use Rattle.host_serve.specs.Serve.{Fed, Made, Runs, Shows, Packs, Judges, EndsChecked, EndsParts, EndsVerdict, CompletesCheck, status_on, EndsNoImage, EndsShown, EndsPacked, CompletesImage, CompletesPack, IsLeftBy, Read, TooLong, SourceFailed, NoRoom, OtherWords, Ends, EndsInput, EndsScript, EndsRun, EndsText, EndsRefused, IsRead, Tells, TellsFront, ReportsRunFront, fault_text, HasCauses, Completes, CompletesUnread, Headline, MakesNothing, Reports, ReportsFront, ReportsRun, Way, Rotating, OnThreads, too_large, figures_after, report_part}
use Rattle.host_report.specs.Audit.{GuardedAudit}
use Rattle.host_serve.specs.Status.{IsNoMemory}
use Rattle.host_serve.specs.declared.memory.MemoryRefusal.{MemoryRefusal}
use Rattle.host_report.specs.declared.reporting.Part.{Part}
use Rattle.host_report.specs.declared.reporting.Part.TheVariants.{Whole, Ending}
use Rattle.host_serve.specs.declared.status.HostStatus.{HostStatus}
use Rattle.host_serve.specs.declared.status.HostStatus.TheVariants.{Done, Usage, Script as Refused, ReadFault, WriteFault, NoMemory, MissingPart, Illegal, Image as NoImage}

-- an end has its cause, if the wanted one has and a front is written of a failed sink alone
pub causes-ends : (wanted result : HostStatus) (Due Front Without : Type 0) (fed fed' : Fed) (old new : Made) → HasCauses wanted fed fed' old new →
    (Front → Rose old.faults new.faults) → Ends wanted result Due Front Without → HasCauses result fed fed' old new
causes-ends wanted Done Due Front Without fed fed' old new wants rose ends = tt
causes-ends wanted Usage Due Front Without fed fed' old new wants rose ends = subst (λ r. HasCauses r fed fed' old new) (sym ends.0) wants
causes-ends wanted (Refused fault) Due Front Without fed fed' old new wants rose ends = tt
causes-ends wanted ReadFault Due Front Without fed fed' old new wants rose ends = subst (λ r. HasCauses r fed fed' old new) (sym ends.0) wants
causes-ends wanted WriteFault Due Front Without fed fed' old new wants rose ends = rose ends
causes-ends wanted (NoMemory refused) Due Front Without fed fed' old new wants rose ends = tt
causes-ends wanted MissingPart Due Front Without fed fed' old new wants rose ends = tt
causes-ends wanted (Illegal line) Due Front Without fed fed' old new wants rose ends = tt
causes-ends wanted (NoImage fault) Due Front Without fed fed' old new wants rose ends = tt

pub causes-refused : (result : HostStatus) (fault : ScriptFault) (fed fed' : Fed) (old new : Made) → EndsRefused result fault old new → HasCauses result fed fed' old new
causes-refused result fault fed fed' old new ends =
    causes-ends (Refused fault) result (Tells old new (fault_text fault)) (TellsFront old new (fault_text fault)) (MakesNothing old new) fed fed' old new tt (λ front. front.cause) ends

pub causes-script : (result : HostStatus) (how : Way) (part : Part) (script : ScriptText) (fed fed' : Fed) (old new : Made) → EndsScript result how part script old new → HasCauses result fed fed' old new
causes-script result how part script fed fed' old new ends =
    causes-ends Done result (ReportsRun how part script old new) (ReportsRunFront how part script old new) (MakesNothing old new) fed fed' old new tt (λ front. front.2.cause) ends

pub causes-text : (wanted result : HostStatus) (text : List ℕ) (without : Type 0) (fed fed' : Fed) (old new : Made) → HasCauses wanted fed fed' old new → EndsText wanted result text without old new → HasCauses result fed fed' old new
causes-text wanted result text without fed fed' old new wants ends =
    causes-ends wanted result (Tells old new text) (TellsFront old new text) without fed fed' old new wants (λ front. front.cause) ends

causes-input : (result : HostStatus) (how : Way) (found : Result ScriptText ScriptFault) (fed fed' : Fed) (old new : Made) → EndsInput result how found old new → HasCauses result fed fed' old new
causes-input result how (Ok script) fed fed' old new ends = causes-script result how Whole script fed fed' old new ends
causes-input result how (Err fault) fed fed' old new ends = causes-refused result fault fed fed' old new ends

pub causes-none : (result : HostStatus) (fed fed' : Fed) (old new : Made) → IsNoMemory result → HasCauses result fed fed' old new
causes-none Done fed fed' old new is = absurd is
causes-none Usage fed fed' old new is = is
causes-none (Refused fault) fed fed' old new is = absurd is
causes-none ReadFault fed fed' old new is = absurd is
causes-none WriteFault fed fed' old new is = absurd is
causes-none (NoMemory refused) fed fed' old new is = tt
causes-none MissingPart fed fed' old new is = absurd is
causes-none (Illegal line) fed fed' old new is = absurd is
causes-none (NoImage fault) fed fed' old new is = absurd is

-- each end has its cause
pub causes-runs : (result : HostStatus) (how : Way) (fed fed' : Fed) (old new : Made) → Runs how result fed fed' old new → HasCauses result fed fed' old new
causes-runs result how fed fed' old new (Read bytes whole ends) = causes-input result how (grammar bytes) fed fed' old new ends
causes-runs result how fed fed' old new (TooLong large ends) = causes-refused result too_large fed fed' old new ends
causes-runs result how fed fed' old new (SourceFailed is rose part nothing) = subst (λ r. HasCauses r fed fed' old new) (sym is) rose
causes-runs result how fed fed' old new (NoRoom is unread nothing) = causes-none result fed fed' old new is

causes-shown : (result : HostStatus) (found : Option ImageFault) (file : List ℕ) (fed fed' : Fed) (old new : Made) → EndsShown result found file old new → HasCauses result fed fed' old new
causes-shown result (Some fault) file fed fed' old new ends = causes-text (NoImage fault) result (image_fault_text fault) ⊥ fed fed' old new tt ends
causes-shown result None file fed fed' old new ends =
    causes-text Done result (image_text (name_in file) (offset_in file) (table_in file) (sub_in file)) ⊥ fed fed' old new tt ends

causes-too_large : (result : HostStatus) (fed fed' : Fed) (old new : Made) → EndsNoImage result no_image.TooLarge old new → HasCauses result fed fed' old new
causes-too_large result fed fed' old new ends = causes-text (NoImage no_image.TooLarge) result (image_fault_text no_image.TooLarge) ⊥ fed fed' old new tt ends

causes-packed : (result : HostStatus) (name : List ℕ) (offset sub : ℕ) (bytes : List ℕ) (fed fed' : Fed) (old new : Made) → EndsPacked result name offset sub bytes old new → HasCauses result fed fed' old new
causes-packed result name offset sub [] fed fed' old new ends = causes-text (NoImage no_image.Empty) result (image_fault_text no_image.Empty) ⊥ fed fed' old new tt ends
causes-packed result name offset sub (byte ∷ bytes) fed fed' old new ends =
    causes-text Done result (packed_file name offset sub (byte ∷ bytes)) (MakesNothing old new) fed fed' old new tt ends

causes-verdict : (result : HostStatus) (verdict : Judgement) (fed fed' : Fed) (old new : Made) → EndsVerdict result verdict old new → HasCauses result fed fed' old new
causes-verdict result Yes fed fed' old new ends = causes-text Done result legal_text ⊥ fed fed' old new tt ends
causes-verdict result (No line) fed fed' old new ends = causes-text (Illegal line) result (illegal_text line) ⊥ fed fed' old new tt ends

causes-checked : (result : HostStatus) (found : Result ScriptText ScriptFault) (report : List ℕ) (fed fed' : Fed) (old new : Made) → EndsChecked result found report old new → HasCauses result fed fed' old new
causes-checked result (Ok script) report fed fed' old new (inl judged) = causes-verdict result judged.0 fed fed' old new judged.2
causes-checked result (Ok script) report fed fed' old new (inr none) = causes-none result fed fed' old new none.0
causes-checked result (Err fault) report fed fed' old new ends = causes-refused result fault fed fed' old new ends

causes-parts : (result : HostStatus) (parts : Option (List ℕ × List ℕ)) (fed fed' : Fed) (old new : Made) → EndsParts result parts old new → HasCauses result fed fed' old new
causes-parts result None fed fed' old new ends = causes-text MissingPart result missing_text ⊥ fed fed' old new tt ends
causes-parts result (Some parts) fed fed' old new ends = causes-checked result (grammar parts.0) parts.1 fed fed' old new ends

pub causes-judges : (result : HostStatus) (fed fed' : Fed) (old new : Made) → Judges result fed fed' old new → HasCauses result fed fed' old new
causes-judges result fed fed' old new (Read bytes whole ends) = causes-parts result (parts_in bytes) fed fed' old new ends
causes-judges result fed fed' old new (TooLong large ends) = causes-refused result too_large fed fed' old new ends
causes-judges result fed fed' old new (SourceFailed is rose part nothing) = subst (λ r. HasCauses r fed fed' old new) (sym is) rose
causes-judges result fed fed' old new (NoRoom is unread nothing) = causes-none result fed fed' old new is

pub causes-shows : (result : HostStatus) (fed fed' : Fed) (old new : Made) → Shows result fed fed' old new → HasCauses result fed fed' old new
causes-shows result fed fed' old new (Read bytes whole ends) = causes-shown result (image_fault bytes) bytes fed fed' old new ends
causes-shows result fed fed' old new (TooLong large ends) = causes-too_large result fed fed' old new ends
causes-shows result fed fed' old new (SourceFailed is rose part nothing) = subst (λ r. HasCauses r fed fed' old new) (sym is) rose
causes-shows result fed fed' old new (NoRoom is unread nothing) = causes-none result fed fed' old new is

pub causes-packs : (result : HostStatus) (name : List ℕ) (offset sub : ℕ) (fed fed' : Fed) (old new : Made) → Packs result name offset sub fed fed' old new → HasCauses result fed fed' old new
causes-packs result name offset sub fed fed' old new (Read bytes whole ends) = causes-packed result name offset sub bytes fed fed' old new ends
causes-packs result name offset sub fed fed' old new (TooLong large ends) = causes-too_large result fed fed' old new ends
causes-packs result name offset sub fed fed' old new (SourceFailed is rose part nothing) = subst (λ r. HasCauses r fed fed' old new) (sym is) rose
causes-packs result name offset sub fed fed' old new (NoRoom is unread nothing) = causes-none result fed fed' old new is

-- what was wanted came, or there was no memory, if the sink didn't fail
pub wanted-ends : (wanted result : HostStatus) (Due Front Without : Type 0) (old new : Made) → (Front → Rose old.faults new.faults) → Ends wanted result Due Front Without →
    ¬ Rose old.faults new.faults → (result ≡ wanted) ⊎ IsNoMemory result
wanted-ends wanted Done Due Front Without old new rose ends = λ clean. inl ends.0
wanted-ends wanted Usage Due Front Without old new rose ends = λ clean. inl ends.0
wanted-ends wanted (Refused fault) Due Front Without old new rose ends = λ clean. inl ends.0
wanted-ends wanted ReadFault Due Front Without old new rose ends = λ clean. inl ends.0
wanted-ends wanted WriteFault Due Front Without old new rose ends = λ clean. absurd (clean (rose ends))
wanted-ends wanted (NoMemory refused) Due Front Without old new rose ends = λ clean. inr tt
wanted-ends wanted MissingPart Due Front Without old new rose ends = λ clean. inl ends.0
wanted-ends wanted (Illegal line) Due Front Without old new rose ends = λ clean. inl ends.0
wanted-ends wanted (NoImage fault) Due Front Without old new rose ends = λ clean. inl ends.0

-- an end is one with other things due, if these follow from those
pub ends-map : (wanted result : HostStatus) (Due Other Front OtherFront Without OtherWithout : Type 0) → (Due → Other) → (Front → OtherFront) → (Without → OtherWithout) →
    Ends wanted result Due Front Without → Ends wanted result Other OtherFront OtherWithout
ends-map wanted Done Due Other Front OtherFront Without OtherWithout due front without ends = (ends.0, due ends.1)
ends-map wanted Usage Due Other Front OtherFront Without OtherWithout due front without ends = (ends.0, due ends.1)
ends-map wanted (Refused fault) Due Other Front OtherFront Without OtherWithout due front without ends = (ends.0, due ends.1)
ends-map wanted ReadFault Due Other Front OtherFront Without OtherWithout due front without ends = (ends.0, due ends.1)
ends-map wanted WriteFault Due Other Front OtherFront Without OtherWithout due front without ends = front ends
ends-map wanted (NoMemory refused) Due Other Front OtherFront Without OtherWithout due front without ends = without ends
ends-map wanted MissingPart Due Other Front OtherFront Without OtherWithout due front without ends = (ends.0, due ends.1)
ends-map wanted (Illegal line) Due Other Front OtherFront Without OtherWithout due front without ends = (ends.0, due ends.1)
ends-map wanted (NoImage fault) Due Other Front OtherFront Without OtherWithout due front without ends = (ends.0, due ends.1)

pub script-done : (result : HostStatus) (how : Way) (part : Part) (script : ScriptText) (old new : Made) → EndsScript result how part script old new → CompletesUnread result old new
script-done result how part script old new ends =
    wanted-ends Done result (ReportsRun how part script old new) (ReportsRunFront how part script old new) (MakesNothing old new) old new (λ front. front.2.cause) ends

-- and so does the writing of a text
pub text-done : (result : HostStatus) (text : List ℕ) (without : Type 0) (old new : Made) → EndsText Done result text without old new → CompletesUnread result old new
text-done result text without old new ends = wanted-ends Done result (Tells old new text) (TellsFront old new text) without old new (λ front. front.cause) ends

-- the input that was read whole is the one that was told
pub whole-told : (most : ℕ) (bytes input : List ℕ) (left left' : Option (List ℕ)) → IsWhole most bytes left left' → left ≡ Some input → bytes ≡ input
whole-told most bytes input left left' whole told =
    sym (subst (λ l. IfSome l (λ i. i ≡ bytes)) told whole.exactly)

-- an input of which too much was read is longer than what is taken
pub large-long : (most : ℕ) (input : List ℕ) (left left' : Option (List ℕ)) → IsTooLarge most left left' → left ≡ Some input → most < length input
large-long most input left (Some rest) large told =
    let is : Some (large.0 ++ rest) ≡ Some input = sym large.2 ∙ told in
    omega (arith, large.1, length-append large.0 rest, ap (λ o. option_length o) is)
  where
    option_length : Option (List ℕ) → ℕ
    option_length (Some l) = length l
    option_length None = 0
large-long most input left None large told = absurd (cc (large.2, told))

pub completes-runs : (result : HostStatus) (how : Way) (fed fed' : Fed) (old new : Made) → Runs how result fed fed' old new → Completes result fed fed' old new
completes-runs result how fed fed' old new (Read bytes whole ends) = λ input script told form source sink.
    let same = whole-told most_input bytes input fed.left fed'.left whole told in
    script-done result how Whole script old new
    (subst (λ found. EndsInput result how found old new) (ap grammar same ∙ form) ends) sink
completes-runs result how fed fed' old new (TooLong large ends) = λ input script told form source sink.
    absurd (omega (arith, length-grammar input script form, large-long most_input input fed.left fed'.left large told))
completes-runs result how fed fed' old new (SourceFailed is rose part nothing) = λ input script told form source sink. absurd (source rose)
completes-runs result how fed fed' old new (NoRoom is unread nothing) = λ input script told form source sink. inr is

verdict-done : (result : HostStatus) (verdict : Judgement) (old new : Made) → EndsVerdict result verdict old new → ¬ Rose old.faults new.faults → (result ≡ status_on verdict) ⊎ IsNoMemory result
verdict-done result Yes old new ends = wanted-ends Done result (Tells old new legal_text) (TellsFront old new legal_text) ⊥ old new (λ front. front.cause) ends
verdict-done result (No line) old new ends =
    wanted-ends (Illegal line) result (Tells old new (illegal_text line)) (TellsFront old new (illegal_text line)) ⊥ old new (λ front. front.cause) ends

-- the answer on a report
abbrev Answered : HostStatus → ScriptText → List ℕ → Type 0
Answered result script report = ((verdict : Judgement) × IsAnswer script report verdict × (result ≡ status_on verdict)) ⊎ IsNoMemory result

checked-done : (result : HostStatus) (script : ScriptText) (report : List ℕ) (old new : Made) → EndsChecked result (Ok script) report old new → ¬ Rose old.faults new.faults → Answered result script report
checked-done result script report old new (inl judged) clean = by (verdict-done result judged.0 old new judged.2 clean)
  where
    by : (result ≡ status_on judged.0) ⊎ IsNoMemory result → Answered result script report
    by (inl is) = inl (judged.0, judged.1, is)
    by (inr none) = inr none
checked-done result script report old new (inr none) clean = inr none.0

pub completes-judges : (result : HostStatus) (fed fed' : Fed) (old new : Made) → Judges result fed fed' old new → CompletesCheck result fed fed' old new
completes-judges result fed fed' old new (Read bytes whole ends) = λ input text report script told small split form source sink.
    let same = whole-told most_checked bytes input fed.left fed'.left whole told in
    checked-done result script report old new
    (subst (λ found. EndsChecked result found report old new) form
    (subst (λ parts. EndsParts result parts old new) (ap parts_in same ∙ split) ends)) sink
completes-judges result fed fed' old new (TooLong large ends) = λ input text report script told small split form source sink.
    absurd (omega (arith, small, large-long most_checked input fed.left fed'.left large told))
completes-judges result fed fed' old new (SourceFailed is rose part nothing) = λ input text report script told small split form source sink. absurd (source rose)
completes-judges result fed fed' old new (NoRoom is unread nothing) = λ input text report script told small split form source sink. inr is

-- without memory for a script or for the check nothing is made, whatever the text is
pub none-checked : (refused : MemoryRefusal) (found : Result ScriptText ScriptFault) (report : List ℕ) (old : Made) → EndsChecked (NoMemory refused) found report old old
none-checked refused (Ok script) report old = inr (tt, refl)
none-checked refused (Err fault) report old = refl

completes-shown : (result : HostStatus) (found : Option ImageFault) (file : List ℕ) (old new : Made) → found ≡ None → EndsShown result found file old new → CompletesUnread result old new
completes-shown result (Some fault) file old new none ends = absurd (cc none)
completes-shown result None file old new none ends = text-done result (image_text (name_in file) (offset_in file) (table_in file) (sub_in file)) ⊥ old new ends

pub completes-shows : (result : HostStatus) (fed fed' : Fed) (old new : Made) → Shows result fed fed' old new → CompletesImage result fed fed' old new
completes-shows result fed fed' old new (Read bytes whole ends) = λ input told small form source sink.
    let same = whole-told most_image bytes input fed.left fed'.left whole told in
    completes-shown result (image_fault bytes) bytes old new (ap image_fault same ∙ form) ends sink
completes-shows result fed fed' old new (TooLong large ends) = λ input told small form source sink.
    absurd (omega (arith, small, large-long most_image input fed.left fed'.left large told))
completes-shows result fed fed' old new (SourceFailed is rose part nothing) = λ input told small form source sink. absurd (source rose)
completes-shows result fed fed' old new (NoRoom is unread nothing) = λ input told small form source sink. inr is

completes-packed : (result : HostStatus) (name : List ℕ) (offset sub : ℕ) (bytes : List ℕ) (old new : Made) → 1 ≤ length bytes → EndsPacked result name offset sub bytes old new → CompletesUnread result old new
completes-packed result name offset sub [] old new some ends = absurd (omega (arith, some))
completes-packed result name offset sub (byte ∷ bytes) old new some ends = text-done result (packed_file name offset sub (byte ∷ bytes)) (MakesNothing old new) old new ends

pub completes-packs : (result : HostStatus) (name : List ℕ) (offset sub : ℕ) (fed fed' : Fed) (old new : Made) → Packs result name offset sub fed fed' old new → CompletesPack result fed fed' old new
completes-packs result name offset sub fed fed' old new (Read bytes whole ends) = λ input told some small source sink.
    let same = whole-told most_table bytes input fed.left fed'.left whole told in
    completes-packed result name offset sub bytes old new (subst (λ (l : List ℕ). 1 ≤ length l) (sym same) some) ends sink
completes-packs result name offset sub fed fed' old new (TooLong large ends) = λ input told some small source sink.
    absurd (omega (arith, small, large-long most_table input fed.left fed'.left large told))
completes-packs result name offset sub fed fed' old new (SourceFailed is rose part nothing) = λ input told some small source sink. absurd (source rose)
completes-packs result name offset sub fed fed' old new (NoRoom is unread nothing) = λ input told some small source sink. inr is

pub ends-other : (result : HostStatus) (fed fed' : Fed) (old new : Made) → OtherWords result fed fed' old new → (result ≡ Usage) ⊎ (result ≡ WriteFault)
ends-other Done fed fed' old new words = inl words.usage.0
ends-other Usage fed fed' old new words = inl refl
ends-other (Refused fault) fed fed' old new words = inl words.usage.0
ends-other ReadFault fed fed' old new words = inl words.usage.0
ends-other WriteFault fed fed' old new words = inr refl
ends-other (NoMemory refused) fed fed' old new words = absurd words.usage
ends-other MissingPart fed fed' old new words = inl words.usage.0
ends-other (Illegal line) fed fed' old new words = inl words.usage.0
ends-other (NoImage fault) fed fed' old new words = inl words.usage.0

-- a text that was read whole, and is this script
pub read-script : (result : Result ScriptText HostStatus) (bytes text : List ℕ) (left left' : Option (List ℕ)) → text ≡ bytes → IsWhole most_input bytes left left' →
    IfOk result (λ script. grammar text ≡ Ok script) → IfOk result (λ script. IsRead script left left')
read-script (Ok script) bytes text left left' same whole is = (bytes, whole, ap grammar (sym same) ∙ is)
read-script (Err status) bytes text left left' same whole is = tt

-- a text that was read whole, and is none
pub read-end : (result : Result ScriptText HostStatus) (bytes text : List ℕ) (fed fed' : Fed) (old new : GuardedAudit → Made) → text ≡ bytes →
    IsWhole most_input bytes fed.left fed'.left →
    IfErr result (λ status. (how : Way) (audit : GuardedAudit) → EndsInput status how (grammar text) (old audit) (new audit)) →
    IfErr result (λ status. (how : Way) (audit : GuardedAudit) → Runs how status fed fed' (old audit) (new audit))
read-end (Ok script) bytes text fed fed' old new same whole ends = tt
read-end (Err status) bytes text fed fed' old new same whole ends =
    λ how audit. Read bytes whole (subst (λ b. EndsInput status how (grammar b) (old audit) (new audit)) same (ends how audit))

-- without memory for a script nothing is made, whatever the text is
pub none-input : (refused : MemoryRefusal) (how : Way) (found : Result ScriptText ScriptFault) (old : Made) → EndsInput (NoMemory refused) how found old old
none-input refused how (Ok script) old = refl
none-input refused how (Err fault) old = refl

-- what the run of a script makes that was read
pub runs-read : (how : Way) (result : HostStatus) (script : ScriptText) (fed fed' : Fed) (old mid new : Made) → IsRead script fed.left fed'.left → mid ≡ old →
    EndsScript result how Whole script mid new → Runs how result fed fed' old new
runs-read how result script fed fed' old mid new read same ends =
    Read read.0 read.1
    (subst (λ found. EndsInput result how found old new) (sym read.2) (subst (λ m. EndsScript result how Whole script m new) same ends))

-- what a run leaves, in either way, is left by a run of the script
run-left : (how : Way) (script : ScriptText) (histories : Histories) → IsLeftBy how script histories → IsRunOf script histories
run-left Rotating script histories is =
    subst (λ h. IsRunOf script h) (sym is)
    (record { legal = rotation-legal script; legal_tables = rotation-legal_tables script; merges = rotation-merges_both script })
run-left OnThreads script histories run = run

-- if all was done the headline holds
headline-input : (how : Way) (found : Result ScriptText ScriptFault) (bytes : List ℕ) (fed fed' : Fed) (old new : Made) → grammar bytes ≡ found →
    IsWhole most_input bytes fed.left fed'.left → EndsInput Done how found old new → Headline Done fed fed' old new
headline-input how (Err fault) bytes fed fed' old new built whole ends = absurd (cc ends.0)
headline-input how (Ok script) bytes fed fed' old new built whole ends =
    let run = run-left how script ends.1.0 ends.1.1 in
    λ done. (bytes, script, ends.1.0, whole, built, run, run-guarantees script ends.1.0 run, ends.1.2.shown, ends.1.2.written)

pub headline-runs : (result : HostStatus) (how : Way) (fed fed' : Fed) (old new : Made) → Runs how result fed fed' old new → Headline result fed fed' old new
headline-runs result how fed fed' old new (Read bytes whole ends) = λ done.
    headline-input how (grammar bytes) bytes fed fed' old new refl whole (subst (λ r. EndsInput r how (grammar bytes) old new) done ends) refl
headline-runs result how fed fed' old new (TooLong large ends) = λ done. absurd (cc (subst (λ r. EndsRefused r too_large old new) done ends).0)
headline-runs result how fed fed' old new (SourceFailed is rose part nothing) = λ done. absurd (cc (is, done))
headline-runs result how fed fed' old new (NoRoom is unread nothing) = λ done. absurd (subst IsNoMemory done is)

-- what a report shows of a core with these limits and so many applications
figures-of : (limits : Limits) (apps : ℕ) (core : Core) → core.limits ≡ limits → apps_of core ≡ apps → figures_shown core.limits (state_of core) ≡ figures_after limits apps core.log.entries
figures-of limits apps core is many = ap (λ l. figures_after l (apps_of core) core.log.entries) is ∙ ap (λ n. figures_after limits n core.log.entries) many

-- and of the tables
table-figures-of : (limits : Limits) (apps : ℕ) (core : TableCore) → core.limits ≡ limits → table_apps_of core ≡ apps →
    table_figures_shown core.limits (table_apps_of core) core.log.entries ≡ table_figures_shown limits apps core.log.entries
table-figures-of limits apps core is many =
    ap (λ l. table_figures_shown l (table_apps_of core) core.log.entries) is ∙ ap (λ n. table_figures_shown limits n core.log.entries) many

-- of a file that is an image the line on it is due
pub shown-none : (result : HostStatus) (file name : List ℕ) (offset : ℕ) (bytes : List ℕ) (sub : ℕ) (old new : Made) → image_fault file ≡ None →
    name ≡ name_in file → offset ≡ offset_in file → bytes ≡ table_in file → sub ≡ sub_in file →
    EndsText Done result (image_text name offset bytes sub) ⊥ old new → EndsShown result (image_fault file) file old new
shown-none result file name offset bytes sub old new sound one two three four ends =
    subst (λ found. EndsShown result found file old new) (sym sound)
    (subst (λ text. EndsText Done result text ⊥ old new) (λ i. image_text (one i) (two i) (three i) (four i)) ends)

-- without a byte no image is packed, and of any an image is due
pub packed-none : (result : HostStatus) (name : List ℕ) (offset sub : ℕ) (bytes : List ℕ) (old new : Made) → length bytes ≡ 0 → EndsNoImage result no_image.Empty old new → EndsPacked result name offset sub bytes old new
packed-none result name offset sub [] old new none ends = ends
packed-none result name offset sub (byte ∷ bytes) old new none ends = absurd (omega (arith, none))

pub packed-some : (result : HostStatus) (name : List ℕ) (offset sub : ℕ) (bytes : List ℕ) (old new : Made) → 1 ≤ length bytes →
    EndsText Done result (packed_file name offset sub bytes) (MakesNothing old new) old new → EndsPacked result name offset sub bytes old new
packed-some result name offset sub [] old new some ends = absurd (omega (arith, some))
packed-some result name offset sub (byte ∷ bytes) old new some ends = ends

-- what is reported of both services, by their limits and their applications, and by what these tell
pub reported-whole : (limits : Limits) (apps : ℕ) (receipts : List (List Receipt)) (core : Core) (tables : TableCore) (lists : List Receipts) →
    core.limits ≡ limits → tables.limits ≡ limits → apps_of core ≡ apps → table_apps_of tables ≡ apps → map (λ list. list.receipts) lists ≡ receipts →
    part_shown Whole core tables lists ≡
    report_text core.log.entries tables.log.entries receipts (figures_after limits apps core.log.entries) (table_figures_shown limits apps tables.log.entries)
reported-whole limits apps receipts core tables lists is table_is many table_many told =
    ap (λ f. report_text core.log.entries tables.log.entries (map (λ list. list.receipts) lists) f (table_figures_shown tables.limits (table_apps_of tables) tables.log.entries))
    (figures-of limits apps core is many)
    ∙ ap (report_text core.log.entries tables.log.entries (map (λ list. list.receipts) lists) (figures_after limits apps core.log.entries)) (table-figures-of limits apps tables table_is table_many)
    ∙ ap (λ l. report_text core.log.entries tables.log.entries l (figures_after limits apps core.log.entries) (table_figures_shown limits apps tables.log.entries)) told

-- what is reported of both services after a run of the script is the report of their histories: their limits and their applications
-- are the script's
part-run : (part : Part) (script : ScriptText) (core : Core) (tables : TableCore) (lists : List Receipts) →
    core.limits ≡ script.limits → tables.limits ≡ script.limits → apps_of core ≡ length script.apps → table_apps_of tables ≡ length script.apps →
    map (λ list. list.receipts) lists ≡ map (receipts_told script (histories_of core tables)) (range_with_len 1 (length script.apps)) →
    part_shown part core tables lists ≡ report_part part script (histories_of core tables)
part-run Whole script core tables lists limits table_limits apps table_apps told =
    reported-whole script.limits (length script.apps) (map (receipts_told script (histories_of core tables)) (range_with_len 1 (length script.apps))) core tables lists limits table_limits apps table_apps told
part-run Ending script core tables lists limits table_limits apps table_apps told =
    ap (λ f. ending_text f (table_figures_shown tables.limits (table_apps_of tables) tables.log.entries)) (figures-of script.limits (length script.apps) core limits apps)
    ∙ ap (ending_text (figures_after script.limits (length script.apps) core.log.entries)) (table-figures-of script.limits (length script.apps) tables table_limits table_apps)

whole-as : (how : Way) (part : Part) (script : ScriptText) (histories : Histories) (text : List ℕ) (old new : Made) →
    IsLeftBy how script histories → text ≡ report_part part script histories → Reports old new histories text → ReportsRun how part script old new
whole-as how part script histories text old new left is reports =
    (histories, left, record { written = subst (Grew old.written new.written) is reports.written; shown = reports.shown })

-- if what a run left is shown and its text is due of the script, the script ended so
ends-as : (result : HostStatus) (how : Way) (part : Part) (script : ScriptText) (histories : Histories) (text : List ℕ) (old new : Made) →
    IsLeftBy how script histories → text ≡ report_part part script histories → EndsRun result histories text old new → EndsScript result how part script old new
ends-as result how part script histories text old new left is ends =
    ends-map Done result (Reports old new histories text) (ReportsRun how part script old new) (ReportsFront old new histories text) (ReportsRunFront how part script old new) ⊥ (MakesNothing old new)
    (whole-as how part script histories text old new left is)
    (λ front. (histories, left, record { front = subst (CutShort old.written new.written) is front.front; cause = front.cause; shown = front.shown }))
    (λ none. absurd none) ends

pub ends-run : (result : HostStatus) (how : Way) (part : Part) (script : ScriptText) (core : Core) (tables : TableCore) (lists : List Receipts) (old new : Made) →
    core.limits ≡ script.limits → tables.limits ≡ script.limits → apps_of core ≡ length script.apps → table_apps_of tables ≡ length script.apps →
    IsLeftBy how script (histories_of core tables) →
    map (λ list. list.receipts) lists ≡ map (receipts_told script (histories_of core tables)) (range_with_len 1 (length script.apps)) →
    EndsRun result (histories_of core tables) (part_shown part core tables lists) old new → EndsScript result how part script old new
ends-run result how part script core tables lists old new limits table_limits apps table_apps left told ends =
    ends-as result how part script (histories_of core tables) (part_shown part core tables lists) old new left
    (part-run part script core tables lists limits table_limits apps table_apps told) ends

-- the same histories, one by one and as a pair
pub same-histories : (bus : List Entry) (tables : List TableEntry) (histories : Histories) → bus ≡ histories.bus → tables ≡ histories.tables →
    (let pair : Histories = record { bus = bus; tables = tables } in pair) ≡ histories
same-histories bus tables histories one two = λ i. record { bus = one i; tables = two i }

-- what was taken is what the call that takes it gave
pub some-of : {T E : Type 0} (r : Result T E) (o : Option T) (P : T → Type 0) → o ≡ result_ok r → IfOk r P → IfSome o P
some-of (Ok x) o P is holds = subst (λ q. IfSome q P) (sym is) holds
some-of (Err e) o P is holds = subst (λ q. IfSome q P) (sym is) tt
