-- What holds of every run of two buses and a bridge.
use Rattle.std.proofs.Common.{◌≡◌, ◌⊎◌, inl, inr, ⊎_elim, ℕ, suc, ◌+◌, ◌≤◌, ◌==◌, true, false, List, [], ◌∷◌, length, map, refl, ap, sym, ◌∙◌, subst, arith, eqb-true}
use Rattle.std.proofs.lemmas.Bool.{eqb-false}
use Rattle.bus_words.specs.Alone.{Received, cut, solo_receipts, unmade}
use Rattle.bus_words.specs.Machine.{state_after}
use Rattle.bus_words.proofs.HeldBlocks.{holds_nothing}
use Rattle.bus_words.proofs.Isolation.{stands_alone}
use Rattle.bus_words.proofs.Owners.{AreOwned-after, AreHanded-after, none_left, none_handed, all_ended}
use Rattle.bus_words.proofs.Steps.{length-standings}
use Rattle.tbl_words.proofs.Ends.{ends_leave_nothing}
use Rattle.tbl_words.proofs.Orders.{tables_have_handles}
use Rattle.app_script.specs.Script.{Application, ScriptText, app_at}
use Rattle.script_runs.specs.Histories.{Histories}
use Rattle.script_runs.specs.TableTrace.{first_handles, own_table_entries}
use Rattle.script_runs.specs.Trace.{first_registers, own_entries}
use Rattle.script_runs.specs.Written.{first_written}
use Rattle.script_runs.proofs.EndsCome.{HasEnd, HasTableEnd, trace-ends, table_trace-ends, ended-after, ended-after_at_tables}
use Rattle.bridge_plan.specs.Plan.{PlanText, bridge_of}
use Rattle.bridge_runs.specs.Bridge.{given_by, forwarding}
use Rattle.bridge_runs.specs.Bridged.{IsBridged}
use Rattle.bridge_runs.specs.Lefts.{messages_in, messages_by, given_alone, SideHoldsNothing, sends_in, brought, bytes_of}
use Rattle.bridge_runs.specs.Sides.{side_apps, AreLegal, MergesBeside}
use Rattle.bridge_plan.specs.Sends.{sends_of, sent_from}
use Rattle.script_settings.specs.Accounts.{no_calls}
use Rattle.bridge_runs.proofs.Brought.{own-grows}
use Rattle.bridge_runs.proofs.BytesGiven.{bytes_alone}
use Rattle.bridge_runs.proofs.LineBytes.{none_brought, own_bytes}
use Rattle.bridge_runs.proofs.LineSends.{bridge_sends, sends_beside, sends_within}
use Rattle.bridge_runs.proofs.Weights.{all_within, most_of}
use Rattle.bridge_runs.proofs.FewGiven.{few_alone}
use Rattle.bridge_runs.proofs.BridgeEnds.{ends_on_one, ends_on_two, ends_at_tables}

-- ---- order

messages_forwarded : (messages : List (List ℕ)) → messages_in (forwarding messages) ≡ messages
messages_forwarded [] = refl
messages_forwarded (message ∷ messages) = ap (λ ms. message ∷ ms) (messages_forwarded messages)

pub order : (plan : PlanText) (one two : Histories) (bridged : IsBridged plan one two) → messages_by (bridge_of plan.two) two.bus ≡ given_by plan.one bridged.pipe one.bus
order plan one two bridged = ap messages_in bridged.to ∙ messages_forwarded (given_by plan.one bridged.pipe one.bus)

pub alone : (plan : PlanText) (one two : Histories) (bridged : IsBridged plan one two) → messages_by (bridge_of plan.two) two.bus ≡ given_alone plan.one bridged.pipe one.bus
alone plan one two bridged =
    order plan one two bridged ∙ ap (map (λ (received : Received). received.message)) (stands_alone plan.one.limits (side_apps plan.one) bridged.pipe one.bus bridged.legal_on_one.bus)

length-map : {X Y : Type 0} (f : X → Y) (xs : List X) → length (map f xs) ≡ length xs
length-map f [] = refl
length-map f (x ∷ xs) = ap (λ n. suc n) (length-map f xs)

-- no more messages go over than sends were made
pub few : (plan : PlanText) (one two : Histories) (bridged : IsBridged plan one two) → length (messages_by (bridge_of plan.two) two.bus) ≤ sends_in one.bus
few plan one two bridged =
    let cut_one = cut plan.one.limits (side_apps plan.one) bridged.pipe one.bus in
    omega (arith, ap length (alone plan one two bridged), length-map (λ (received : Received). received.message) (solo_receipts unmade cut_one), few_alone plan.one.limits (side_apps plan.one) bridged.pipe one.bus)

-- nor than the lines of side 1 that send
pub within_lines : (plan : PlanText) (one two : Histories) → IsBridged plan one two → length (messages_by (bridge_of plan.two) two.bus) ≤ (sends_of plan.one.apps).lines
within_lines plan one two bridged =
    omega (arith, few plan one two bridged, sends_within plan bridged.pipe one.bus bridged.merges_on_one.each bridged.merges_on_one.nobody_else bridged.from)

-- nor than these lines' charges in bytes
most_bytes : (apps : List Application) → most_of (λ e. brought e.call e.answer) (λ app. (sent_from no_calls app.lines).bytes) apps ≡ (sends_of apps).bytes
most_bytes [] = refl
most_bytes (app ∷ apps) = ap (λ n. (sent_from no_calls app.lines).bytes + n) (most_bytes apps)

-- of any side 1 on which one application more sends nothing
pub bytes_beside : (plan : PlanText) (p : ℕ) (one : Histories) → AreLegal plan.one one → MergesBeside plan.one one → sends_in (own_entries (bridge_of plan.one) one.bus) ≡ 0
    → bytes_of (given_by plan.one p one.bus) ≤ (sends_of plan.one.apps).bytes
bytes_beside plan p one legal merges none =
    let each = all_within (λ e. brought e.call e.answer) (λ app. (sent_from no_calls app.lines).bytes) plan.one.apps one.bus merges.nobody_else
    (λ app first last. own_bytes (app_at plan.one app).lines (own_entries app one.bus) (own-grows plan.one.limits (side_apps plan.one) app one.bus legal.bus) (merges.each app first last)) in
    omega (
      arith,
      ap (λ messages. bytes_of (map (λ (received : Received). received.message) messages)) (stands_alone plan.one.limits (side_apps plan.one) p one.bus legal.bus),
      bytes_alone plan.one.limits (side_apps plan.one) p one.bus legal.bus,
      each,
      most_bytes plan.one.apps,
      none_brought (own_entries (bridge_of plan.one) one.bus) none,
    )

pub lines_beside : (plan : PlanText) (p : ℕ) (one : Histories) → AreLegal plan.one one → MergesBeside plan.one one → sends_in (own_entries (bridge_of plan.one) one.bus) ≡ 0
    → length (given_by plan.one p one.bus) ≤ (sends_of plan.one.apps).lines
lines_beside plan p one legal merges none =
    let apps = side_apps plan.one in
    omega (
      arith,
      ap (λ messages. length (map (λ (received : Received). received.message) messages)) (stands_alone plan.one.limits apps p one.bus legal.bus),
      length-map (λ (received : Received). received.message) (solo_receipts unmade (cut plan.one.limits apps p one.bus)),
      few_alone plan.one.limits apps p one.bus,
      sends_beside plan one.bus merges.each merges.nobody_else none,
    )

pub within_bytes : (plan : PlanText) (one two : Histories) → IsBridged plan one two → bytes_of (messages_by (bridge_of plan.two) two.bus) ≤ (sends_of plan.one.apps).bytes
within_bytes plan one two bridged =
    omega (
      arith,
      ap bytes_of (order plan one two bridged),
      bytes_beside plan bridged.pipe one bridged.legal_on_one bridged.merges_on_one (bridge_sends plan bridged.pipe one.bus bridged.from),
    )

-- ---- nothing is left

-- the script's applications, or the bridge
which : (apps app : ℕ) → app ≤ apps + 1 → (app ≤ apps) ⊎ (app ≡ apps + 1)
which apps app most =
    elim (app == apps + 1) as (λ b. (app == apps + 1) ≡ b → (app ≤ apps) ⊎ (app ≡ apps + 1)) [
      | true ↦ λ same. inr (eqb-true app (apps + 1) same)
      | false ↦ λ differ. inl (below (eqb-false app (apps + 1) differ))
    ] refl
  where
    below : (app ≡ apps + 1 → ⊥) → app ≤ apps
    below other = omega (arith, most, other)

pub side_left : (script : ScriptText) (histories : Histories) → AreLegal script histories → MergesBeside script histories → HasEnd (own_entries (bridge_of script) histories.bus) → HasTableEnd (own_table_entries (bridge_of script) histories.tables)
    → SideHoldsNothing script histories
side_left script histories legal merges ends ends_there =
    let apps = side_apps script in
    let s = state_after script.limits apps histories.bus in
    let has_end : (app : ℕ) → 1 ≤ app → app ≤ apps → HasEnd (own_entries app histories.bus) =
    λ app first last. ⊎_elim (λ own. trace-ends first_registers first_written (app_at script app).lines (own_entries app histories.bus) (merges.each app first own))
    (λ bridge. subst (λ k. HasEnd (own_entries k histories.bus)) (sym bridge) ends) (which (length script.apps) app last) in
    let has_table_end : (app : ℕ) → 1 ≤ app → app ≤ apps → HasTableEnd (own_table_entries app histories.tables) =
    λ app first last. ⊎_elim (λ own. table_trace-ends first_handles (app_at script app).lines (own_table_entries app histories.tables) (merges.each_at_tables app first own))
    (λ bridge. subst (λ k. HasTableEnd (own_table_entries k histories.tables)) (sym bridge) ends_there) (which (length script.apps) app last) in
    let all = all_ended s apps (length-standings script.limits apps histories.bus) (λ app first last. ended-after script.limits apps app histories.bus legal.bus (has_end app first last)) in
    record {
      bus = holds_nothing script.limits s
          (none_left s s.pipes (AreOwned-after script.limits apps histories.bus legal.bus) all)
          (none_handed s (AreHanded-after script.limits apps histories.bus legal.bus) all);
      tables = ends_leave_nothing script.limits apps histories.tables legal.tables
          (λ app first last. ended-after_at_tables script.limits apps app histories.tables (has_table_end app first last))
          (tables_have_handles script.limits apps histories.tables);
    }

pub one_left : (plan : PlanText) (one two : Histories) → IsBridged plan one two → SideHoldsNothing plan.one one
one_left plan one two bridged =
    side_left plan.one one bridged.legal_on_one bridged.merges_on_one (ends_on_one plan bridged.pipe one.bus bridged.from) (ends_at_tables plan.one one.tables bridged.tables_on_one)

pub two_left : (plan : PlanText) (one two : Histories) → IsBridged plan one two → SideHoldsNothing plan.two two
two_left plan one two bridged =
    side_left plan.two two bridged.legal_on_two bridged.merges_on_two (ends_on_two (bridge_of plan.two) two.bus (given_by plan.one bridged.pipe one.bus) bridged.to) (ends_at_tables plan.two two.tables bridged.tables_on_two)
