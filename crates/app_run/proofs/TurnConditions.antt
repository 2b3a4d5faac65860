-- What a runner's turn asks: before the first turn, and from turn to turn.
use Rattle.std.proofs.Common.{◌≡◌, ◌⊎◌, inl, inr, true, false, ap, sym, ◌∙◌, subst}
use Rattle.sb_calls.specs.Bags.{CalledByOthers}
use Rattle.sb_calls.specs.Core.{Core}
use Rattle.tbl_load.specs.Bags.{CalledByOthers as CalledByOthersAtTables}
use Rattle.tbl_load.specs.Core.{Core as TableCore}
use Rattle.app_calls.specs.Callers.{Caller, Meets, SameServices}
use Rattle.app_calls.specs.TableCallers.{MeetsTables}
use Rattle.app_script.specs.Script.{ScriptText}
use Rattle.app_run.specs.Runners.{Progress}
use Rattle.app_run.specs.Turns.{AreFirst, HasCome, AtBeginning, ByTurn, OthersAtBus, OthersAtTables, IsReady, MayTurn, TakesTurnBy, services_of, with_bags}
use Rattle.app_run.proofs.OpenLaws.{way-stands}
use Rattle.app_run.proofs.TurnLaws.{both}

-- the services know an application as it is that may take a turn
pub ready : (progress : Progress) (caller : Caller) → MayTurn progress caller → IsReady progress caller
ready progress caller may = record {
  own = may.own;
  goes_on = may.goes_on;
  stands = way-stands (with_bags progress caller) (services_of caller) may.way;
  bag = may.bag;
  held = may.held;
}

-- before its first line, on services that were just opened, an application may
pub first : (script : ScriptText) (progress : Progress) (caller : Caller) → AreFirst script progress caller → MayTurn progress caller
first script progress caller are = record {
  own = are.own;
  goes_on = ap (λ (p : Progress). p.ended) are.opened.progress;
  way = (script, AtBeginning (with_bags progress caller) (services_of caller) are.opened);
  bag = are.bag;
  held = are.held;
}

-- what the calls meet is the bus that they saw last, behind others' calls
come-met : (script : ScriptText) (progress : Progress) (caller : Caller) (now : Core) → caller.app ≡ progress.running.app → Meets caller now →
    HasCome script (with_bags progress caller) (services_of caller) → HasCome script (with_bags progress caller) (both now caller.tables)
come-met script progress caller now own (inl same) come = subst (λ bus. HasCome script (with_bags progress caller) (both bus caller.tables)) (sym same) come
come-met script progress caller now own (inr others) come =
    OthersAtBus (with_bags progress caller) (services_of caller) now come (subst (λ app. CalledByOthers caller.core now app) own others.1)

come-met_tables : (script : ScriptText) (progress : Progress) (caller : Caller) (bus : Core) (now : TableCore) → caller.app ≡ progress.running.app → MeetsTables caller now →
    HasCome script (with_bags progress caller) (both bus caller.tables) → HasCome script (with_bags progress caller) (both bus now)
come-met_tables script progress caller bus now own (inl same) come = subst (λ tables. HasCome script (with_bags progress caller) (both bus tables)) (sym same) come
come-met_tables script progress caller bus now own (inr others) come =
    OthersAtTables (with_bags progress caller) (both bus caller.tables) now come (subst (λ app. CalledByOthersAtTables caller.tables now app) own others.1)

-- and behind a turn of its own it may take the next one, unless it has ended
pub again : (old new : Progress) (before after : Caller) → MayTurn old before → TakesTurnBy old new before after → SameServices before after → new.ended ≡ false → MayTurn new after
again old new before after may t same goes_on = record {
  own = same.app ∙ may.own ∙ sym t.turn.same_app;
  goes_on = goes_on;
  way = (
    may.way.0,
    ByTurn (with_bags old before) (with_bags new after) t.now (services_of after)
        (come-met_tables may.way.0 old before t.now.bus t.now.tables may.own t.meets_tables (come-met may.way.0 old before t.now.bus may.own t.meets may.way.1)) t.turn,
  );
  bag = t.bag;
  held = t.held;
}
