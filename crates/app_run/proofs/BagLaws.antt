-- The bags of all applications: at the opening, and through one application's turn.
use Rattle.std.proofs.Common.{◌≡◌, ℕ, zero, suc, ◌+◌, ◌<◌, ◌≤◌, Bool, true, false, List, [], ◌∷◌, length, map, slice_set, get_or, refl, ap, sym, subst, inl, inr, arith}
use Rattle.lend_block.specs.Loan.{LentBytes}
use Rattle.buf_desc.specs.Held.{Holding}
use Rattle.bus_words.specs.declared.calls.BusAnswer.{BusAnswer}
use Rattle.bus_words.specs.declared.history.Call.{Call}
use Rattle.sb_calls.specs.Bags.{HasBag, KeepsOtherBags}
use Rattle.sb_calls.specs.Core.{Core, Does}
use Rattle.script_settings.specs.Accounts.{budget_of}
use Rattle.app_script.specs.Script.{Application, ScriptText}
use Rattle.app_run.specs.Openings.{opened, opened_tables, empty_bag}
use Rattle.app_run.specs.Rounds.{AllHold, AllHoldTables, StepsIf}
use Rattle.app_run.specs.Runners.{Equipped, Services}
use Rattle.app_run.specs.Turns.{Moved, TablesMoved}
use Rattle.tbl_words.specs.declared.calls.TblAnswer.{TblAnswer}
use Rattle.tbl_words.specs.declared.history.Call.{Call as TableCall}
use Rattle.table_blocks.specs.Held.{HeldViews}
use Rattle.tbl_load.specs.Bags.{HasBag as HasTableBag, KeepsOtherBags as KeepsOtherTables}
use Rattle.tbl_load.specs.Core.{Core as TableCore, Does as TablesDo}

-- One application's turn. --

module _ (law : (old new : Core) (app : ℕ) (call : Call) (answer : BusAnswer) → Does old new app call answer → KeepsOtherBags old new app) where
  same-bags : (before after : Core) (who : ℕ) → after ≡ before → KeepsOtherBags before after who
  same-bags before after who same = λ other bag differ holds. subst (λ core. HasBag core other bag) (sym same) holds

  moved-bags : (before after : Core) (who : ℕ) → Moved before after who → KeepsOtherBags before after who
  moved-bags before after who (inl same) = same-bags before after who same
  moved-bags before after who (inr step) = law before after who step.0 step.1 step.2

  -- others' bags stay theirs
  pub steps-bags : (ended : Bool) (old new : Equipped) (before after : Services) → StepsIf ended old new before after → KeepsOtherBags before.bus after.bus old.progress.running.app
  steps-bags true old new before after step = same-bags before.bus after.bus old.progress.running.app (ap (λ (s : Services). s.bus) step.1)
  steps-bags false old new before after step = moved-bags before.bus after.bus old.progress.running.app step.moved

hold-others : (before after : Core) (who : ℕ) → KeepsOtherBags before after who → (n : ℕ) (bags : List (Holding LentBytes)) → who < n → AllHold before n bags → AllHold after n bags
hold-others before after who keeps n [] above holds = tt
hold-others before after who keeps n (bag ∷ bags) above holds =
    (keeps n bag (λ is. omega (arith, is, above)) holds.0, hold-others before after who keeps (n + 1) bags (omega (arith, above)) holds.1)

-- all bags but one stay, and that one is the application's again
pub hold-set : (before after : Core) (who : ℕ) → KeepsOtherBags before after who → (n i : ℕ) (bags : List (Holding LentBytes)) (new : Holding LentBytes) → who ≡ n + i →
    AllHold before n bags → HasBag after who new → AllHold after n (slice_set bags i new)
hold-set before after who keeps n i [] new at holds own = tt
hold-set before after who keeps n zero (bag ∷ bags) new at holds own =
    let here : who ≡ n = omega (arith, at) in
    (subst (λ k. HasBag after k new) here own, hold-others before after who keeps (n + 1) bags (omega (arith, here)) holds.1)
hold-set before after who keeps n (suc i) (bag ∷ bags) new at holds own =
    (keeps n bag (λ is. omega (arith, is, at)) holds.0, hold-set before after who keeps (n + 1) i bags new (omega (arith, at)) holds.1 own)

pub hold-at : (core : Core) (n i : ℕ) (bags : List (Holding LentBytes)) (d : Holding LentBytes) → AllHold core n bags → i < length bags → HasBag core (n + i) (get_or bags i d)
hold-at core n i [] d holds within = absurd (omega (arith, within))
hold-at core n zero (bag ∷ bags) d holds within =
    let here : n ≡ n + 0 = omega arith in
    subst (λ k. HasBag core k bag) here holds.0
hold-at core n (suc i) (bag ∷ bags) d holds within =
    let there : n + 1 + i ≡ n + suc i = omega arith in
    subst (λ k. HasBag core k (get_or bags i d)) there (hold-at core (n + 1) i bags d holds.1 (omega (arith, within)))

-- Before the first call. --

module _ (opens : (core : Core) (app : ℕ) (bag : Holding LentBytes) → core.log.entries ≡ [] → 1 ≤ app → bag.views ≡ [] → bag.buffers ≡ [] → core.limits.pipes ≤ bag.view_room → HasBag core app bag) where
  pub hold-empty : (script : ScriptText) (n : ℕ) (apps : List Application) → 1 ≤ n →
      AllHold (opened script) n (map (λ a. empty_bag script.limits.pipes (budget_of a.lines).buffers) apps)
  hold-empty script n [] first = tt
  hold-empty script n (a ∷ apps) first =
      (opens (opened script) n (empty_bag script.limits.pipes (budget_of a.lines).buffers) refl first refl refl (omega arith), hold-empty script (n + 1) apps (omega arith))

-- The same at the tables. --

module _ (law : (old new : TableCore) (app : ℕ) (call : TableCall) (answer : TblAnswer) → TablesDo old new app call answer → KeepsOtherTables old new app) where
  same-helds : (before after : TableCore) (who : ℕ) → after ≡ before → KeepsOtherTables before after who
  same-helds before after who same = λ other held differ holds. subst (λ core. HasTableBag core other held) (sym same) holds

  moved-helds : (before after : TableCore) (who : ℕ) → TablesMoved before after who → KeepsOtherTables before after who
  moved-helds before after who (inl same) = same-helds before after who same
  moved-helds before after who (inr step) = law before after who step.0 step.1 step.2

  -- others' bags stay theirs
  pub steps-helds : (ended : Bool) (old new : Equipped) (before after : Services) → StepsIf ended old new before after →
      KeepsOtherTables before.tables after.tables old.progress.running.app
  steps-helds true old new before after step = same-helds before.tables after.tables old.progress.running.app (ap (λ (s : Services). s.tables) step.1)
  steps-helds false old new before after step = moved-helds before.tables after.tables old.progress.running.app step.tables_moved

held-others : (before after : TableCore) (who : ℕ) → KeepsOtherTables before after who → (n : ℕ) (helds : List HeldViews) → who < n → AllHoldTables before n helds → AllHoldTables after n helds
held-others before after who keeps n [] above holds = tt
held-others before after who keeps n (held ∷ helds) above holds =
    (keeps n held (λ is. omega (arith, is, above)) holds.0, held-others before after who keeps (n + 1) helds (omega (arith, above)) holds.1)

-- all bags but one stay, and that one is the application's again
pub held-set : (before after : TableCore) (who : ℕ) → KeepsOtherTables before after who → (n i : ℕ) (helds : List HeldViews) (new : HeldViews) → who ≡ n + i →
    AllHoldTables before n helds → HasTableBag after who new → AllHoldTables after n (slice_set helds i new)
held-set before after who keeps n i [] new at holds own = tt
held-set before after who keeps n zero (held ∷ helds) new at holds own =
    let here : who ≡ n = omega (arith, at) in
    (subst (λ k. HasTableBag after k new) here own, held-others before after who keeps (n + 1) helds (omega (arith, here)) holds.1)
held-set before after who keeps n (suc i) (held ∷ helds) new at holds own =
    (keeps n held (λ is. omega (arith, is, at)) holds.0, held-set before after who keeps (n + 1) i helds new (omega (arith, at)) holds.1 own)

pub held-at : (core : TableCore) (n i : ℕ) (helds : List HeldViews) (d : HeldViews) → AllHoldTables core n helds → i < length helds → HasTableBag core (n + i) (get_or helds i d)
held-at core n i [] d holds within = absurd (omega (arith, within))
held-at core n zero (held ∷ helds) d holds within =
    let here : n ≡ n + 0 = omega arith in
    subst (λ k. HasTableBag core k held) here holds.0
held-at core n (suc i) (held ∷ helds) d holds within =
    let there : n + 1 + i ≡ n + suc i = omega arith in
    subst (λ k. HasTableBag core k (get_or helds i d)) there (held-at core (n + 1) i helds d holds.1 (omega (arith, within)))

-- before the first call nothing is held
module _ (opens : (core : TableCore) (app : ℕ) (bag : HeldViews) → core.log.entries ≡ [] → bag.views ≡ [] → core.limits.handles ≤ bag.room → HasTableBag core app bag) where
  pub held-nothing : (script : ScriptText) (n : ℕ) (apps : List Application) →
      AllHoldTables (opened_tables script) n (map (λ a. record { views = []; room = script.limits.handles }) apps)
  held-nothing script n [] = tt
  held-nothing script n (a ∷ apps) = (opens (opened_tables script) n (record { views = []; room = script.limits.handles }) refl refl (omega arith), held-nothing script (n + 1) apps)
