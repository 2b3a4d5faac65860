-- How the program ends on a plan of two buses, why it ends so, and that both reports are those of the histories.
use Rattle.std.proofs.Common.{◌≡◌, ℕ, List, [], ◌∷◌, ◌++◌, length, map, codes, Option, Some, None, Result, Ok, Err, IfOk, IfErr, inl, inr, refl, sym, ap, subst, ◌∙◌, arith, append_assoc}
use Rattle.std.specs.List.{range_with_len}
use Rattle.std.specs.Option.{option_map}
use Rattle.text_page.specs.Pieces.{Grew, CutShort}
use Rattle.app_run.specs.Runners.{histories_of}
use Rattle.app_run.specs.declared.rotating.Finished.{Finished}
use Rattle.script_runs.specs.Histories.{Histories}
use Rattle.script_runs.specs.Told.{receipts_told}
use Rattle.bridge_plan.specs.declared.fail.PlanFault.{PlanFault}
use Rattle.bridge_plan.specs.declared.fail.PlanFault.TheVariants as no_plan
use Rattle.bridge_plan.specs.Grammar.{plan_of}
use Rattle.bridge_plan.specs.Plan.{PlanText, script_of}
use Rattle.bridge_runs.specs.Bridged.{IsBridged}
use Rattle.bridge_runs.specs.Sides.{side_apps}
use Rattle.sb_bridge.specs.Left.{LeavesSide}
use Rattle.sb_bridge.specs.Sides.{whole_on}
use Rattle.host_report.specs.Audit.{GuardedAudit, IsShown}
use Rattle.host_serve.specs.Bridging.{AreShown, both_reports, most_plan, side_report}
use Rattle.host_serve.specs.Checking.{missing_text}
use Rattle.host_serve.specs.Input.{IsWhole}
use Rattle.host_report.specs.Parts.{both_shown, part_shown, side_shown}
use Rattle.host_serve.specs.Serve.{Bridges, CompletesPlan, CompletesUnread, EndsBoth, EndsNoPlan, EndsPlan, EndsPlanInput, EndsRefused, EndsText, Fed, HasCauses, HeadlineOnBridge, IsPlanRead, Made, MakesNothing, NoRoom, Read, ReportsPair, ReportsPairFront, ReportsPlan, ReportsPlanFront, SourceFailed, Tells, TellsFront, TooLong, too_large}
use Rattle.host_serve.specs.Status.{IsNoMemory}
use Rattle.host_serve.specs.declared.memory.MemoryRefusal.{MemoryRefusal}
use Rattle.host_report.specs.declared.reporting.Part.TheVariants.{Whole}
use Rattle.host_serve.specs.declared.status.HostStatus.{HostStatus}
use Rattle.host_serve.specs.declared.status.HostStatus.TheVariants.{Done, MissingPart, NoMemory}
use Rattle.host_serve.proofs.Ends.{causes-ends, causes-none, causes-refused, causes-text, ends-map, large-long, reported-whole, wanted-ends, whole-told}
use Rattle.host_serve.proofs.Sizes.{length-plan}
use Rattle.host_report.proofs.TwoTexts.{both_are, side_is}

-- Causes. --

causes-plan : (result : HostStatus) (plan : PlanText) (fed fed' : Fed) (old new : Made) → EndsPlan result plan old new → HasCauses result fed fed' old new
causes-plan result plan fed fed' old new ends =
    causes-ends Done result (ReportsPlan plan old new) (ReportsPlanFront plan old new) (MakesNothing old new) fed fed' old new tt (λ front. front.3.cause) ends

causes-plan_input : (result : HostStatus) (found : Result PlanText PlanFault) (fed fed' : Fed) (old new : Made) → EndsPlanInput result found old new → HasCauses result fed fed' old new
causes-plan_input result (Ok plan) fed fed' old new ends = causes-plan result plan fed fed' old new ends
causes-plan_input result (Err no_plan.MissingPart) fed fed' old new ends = causes-text MissingPart result missing_text (MakesNothing old new) fed fed' old new tt ends
causes-plan_input result (Err (no_plan.Script fault)) fed fed' old new ends = causes-refused result fault fed fed' old new ends

pub causes-bridges : (result : HostStatus) (fed fed' : Fed) (old new : Made) → Bridges result fed fed' old new → HasCauses result fed fed' old new
causes-bridges result fed fed' old new (Read bytes whole ends) = causes-plan_input result (plan_of bytes) fed fed' old new ends
causes-bridges result fed fed' old new (TooLong large ends) = causes-refused result too_large fed fed' old new ends
causes-bridges result fed fed' old new (SourceFailed is rose part nothing) = subst (λ r. HasCauses r fed fed' old new) (sym is) rose
causes-bridges result fed fed' old new (NoRoom is unread nothing) = causes-none result fed fed' old new is

-- If nothing fails. --

plan-done : (result : HostStatus) (plan : PlanText) (old new : Made) → EndsPlan result plan old new → CompletesUnread result old new
plan-done result plan old new ends =
    wanted-ends Done result (ReportsPlan plan old new) (ReportsPlanFront plan old new) (MakesNothing old new) old new (λ front. front.3.cause) ends

pub completes-bridges : (result : HostStatus) (fed fed' : Fed) (old new : Made) → Bridges result fed fed' old new → CompletesPlan result fed fed' old new
completes-bridges result fed fed' old new (Read bytes whole ends) = λ input plan told form source sink.
    let same = whole-told most_plan bytes input fed.left fed'.left whole told in
    plan-done result plan old new (subst (λ found. EndsPlanInput result found old new) (ap plan_of same ∙ form) ends) sink
completes-bridges result fed fed' old new (TooLong large ends) = λ input plan told form source sink.
    absurd (omega (arith, length-plan input plan form, large-long most_plan input fed.left fed'.left large told))
completes-bridges result fed fed' old new (SourceFailed is rose part nothing) = λ input plan told form source sink. absurd (source rose)
completes-bridges result fed fed' old new (NoRoom is unread nothing) = λ input plan told form source sink. inr is

-- if all was done the headline of a bridge holds
headline-plan : (found : Result PlanText PlanFault) (bytes : List ℕ) (fed fed' : Fed) (old new : Made) → plan_of bytes ≡ found →
    IsWhole most_plan bytes fed.left fed'.left → EndsPlanInput Done found old new → HeadlineOnBridge Done fed fed' old new
headline-plan (Err no_plan.MissingPart) bytes fed fed' old new built whole ends = absurd (cc ends.0)
headline-plan (Err (no_plan.Script fault)) bytes fed fed' old new built whole ends = absurd (cc ends.0)
headline-plan (Ok plan) bytes fed fed' old new built whole ends =
    λ done. (bytes, plan, ends.1.0, ends.1.1, whole, built, ends.1.2, ends.1.3.shown, ends.1.3.written)

pub headline-bridges : (result : HostStatus) (fed fed' : Fed) (old new : Made) → Bridges result fed fed' old new → HeadlineOnBridge result fed fed' old new
headline-bridges result fed fed' old new (Read bytes whole ends) = λ done.
    headline-plan (plan_of bytes) bytes fed fed' old new refl whole (subst (λ r. EndsPlanInput r (plan_of bytes) old new) done ends) refl
headline-bridges result fed fed' old new (TooLong large ends) = λ done. absurd (cc (subst (λ r. EndsRefused r too_large old new) done ends).0)
headline-bridges result fed fed' old new (SourceFailed is rose part nothing) = λ done. absurd (cc (is, done))
headline-bridges result fed fed' old new (NoRoom is unread nothing) = λ done. absurd (subst IsNoMemory done is)

-- Reading. --

-- that a part is missing is told without memory
pub missing-ends : (result : HostStatus) (old new : Made) → EndsText MissingPart result missing_text ⊥ old new → EndsNoPlan result no_plan.MissingPart old new
missing-ends result old new ends =
    ends-map MissingPart result (Tells old new missing_text) (Tells old new missing_text) (TellsFront old new missing_text) (TellsFront old new missing_text) ⊥ (MakesNothing old new)
    (λ due. due) (λ front. front) (λ none. absurd none) ends

-- without memory for a plan nothing is made, whatever the text is
pub none-plan : (refused : MemoryRefusal) (found : Result PlanText PlanFault) (old : Made) → EndsPlanInput (NoMemory refused) found old old
none-plan refused (Ok plan) old = refl
none-plan refused (Err no_plan.MissingPart) old = refl
none-plan refused (Err (no_plan.Script fault)) old = refl

-- a text that was read whole, and is this plan
pub plan-read : (result : Result PlanText HostStatus) (bytes text : List ℕ) (left left' : Option (List ℕ)) → text ≡ bytes → IsWhole most_plan bytes left left' →
    IfOk result (λ plan. plan_of text ≡ Ok plan) → IfOk result (λ plan. IsPlanRead plan left left')
plan-read (Ok plan) bytes text left left' same whole is = (bytes, whole, ap plan_of (sym same) ∙ is)
plan-read (Err status) bytes text left left' same whole is = tt

-- a text that was read whole, and is none
pub plan-end : (result : Result PlanText HostStatus) (bytes text : List ℕ) (fed fed' : Fed) (old new : GuardedAudit → Made) → text ≡ bytes →
    IsWhole most_plan bytes fed.left fed'.left →
    IfErr result (λ status. (audit : GuardedAudit) → EndsPlanInput status (plan_of text) (old audit) (new audit)) →
    IfErr result (λ status. (audit : GuardedAudit) → Bridges status fed fed' (old audit) (new audit))
plan-end (Ok plan) bytes text fed fed' old new same whole ends = tt
plan-end (Err status) bytes text fed fed' old new same whole ends =
    λ audit. Read bytes whole (subst (λ b. EndsPlanInput status (plan_of b) (old audit) (new audit)) same (ends audit))

-- what the run of a plan makes that was read
pub bridges-read : (result : HostStatus) (plan : PlanText) (fed fed' : Fed) (old mid new : Made) → IsPlanRead plan fed.left fed'.left → mid ≡ old →
    EndsPlan result plan mid new → Bridges result fed fed' old new
bridges-read result plan fed fed' old mid new read same ends =
    Read read.0 read.1
    (subst (λ found. EndsPlanInput result found old new) (sym read.2) (subst (λ m. EndsPlan result plan m new) same ends))

-- Reports. --

-- histories of both sides that were shown one after the other
pub shown-both : (old mid new : Option (List Histories)) (one two : Histories) → IsShown old mid one → IsShown mid new two → AreShown old new one two
shown-both old mid new one two (inl first) (inl second) = inl (second ∙ ap (option_map (λ shown. shown ++ two ∷ [])) first ∙ both old)
  where
    both : (shown : Option (List Histories)) → option_map (λ shown. shown ++ two ∷ []) (option_map (λ shown. shown ++ one ∷ []) shown) ≡ option_map (λ shown. shown ++ one ∷ two ∷ []) shown
    both (Some shown) = ap Some (append_assoc shown (one ∷ []) (two ∷ []))
    both None = refl
shown-both old mid new one two (inr first) (inl second) = inr (second ∙ ap (option_map (λ shown. shown ++ two ∷ [])) first)
shown-both old mid new one two (inl first) (inr second) = inr second
shown-both old mid new one two (inr first) (inr second) = inr second

side-run : (plan : PlanText) (side : ℕ) (left : Finished) → LeavesSide plan side left →
    part_shown Whole left.bus left.tables left.receipts.items ≡ side_report plan side (histories_of left.bus left.tables)
unfolding side_report
side-run plan side left leaves =
    let script = script_of plan side in
    reported-whole script.limits (side_apps script) (map (receipts_told (whole_on plan side) (histories_of left.bus left.tables)) (range_with_len 1 (length script.apps))) left.bus left.tables left.receipts.items
    leaves.limits leaves.table_limits leaves.apps leaves.table_apps leaves.receipts

-- what is reported of both sides is the reports of their histories
pub both-run : (plan : PlanText) (one two : Finished) → LeavesSide plan 1 one → LeavesSide plan 2 two →
    both_shown one two ≡ both_reports plan (histories_of one.bus one.tables) (histories_of two.bus two.tables)
both-run plan one two on_one on_two =
    let first = side_is (codes "side 1\n") one ∙ ap (λ l. codes "side 1\n" ++ l) (side-run plan 1 one on_one) in
    let second = side_is (codes "side 2\n") two ∙ ap (λ l. codes "side 2\n" ++ l) (side-run plan 2 two on_two) in
    both_are one two
    ∙ ap (λ l. l ++ side_shown (codes "side 2\n") two) first
    ∙ ap (λ l. (codes "side 1\n" ++ side_report plan 1 (histories_of one.bus one.tables)) ++ l) second

-- if what a run left is shown and its text is due of the plan, the plan ended so
pub ends-plan : (result : HostStatus) (plan : PlanText) (one two : Histories) (text : List ℕ) (old new : Made) → IsBridged plan one two → text ≡ both_reports plan one two →
    EndsBoth result one two text old new → EndsPlan result plan old new
ends-plan result plan one two text old new bridged is ends =
    ends-map Done result (ReportsPair old new one two text) (ReportsPlan plan old new) (ReportsPairFront old new one two text) (ReportsPlanFront plan old new) ⊥ (MakesNothing old new)
    (λ due. (one, two, bridged, record { written = subst (Grew old.written new.written) is due.written; shown = due.shown }))
    (λ front. (one, two, bridged, record { front = subst (CutShort old.written new.written) is front.front; cause = front.cause; shown = front.shown }))
    (λ none. absurd none) ends
