-- What the bridge and both sides leave is a run of the plan.
use Rattle.std.proofs.Common.{◌≡◌, ◌≢◌, ℕ, ◌≤◌, ◌==◌, false, List, [], ◌∷◌, ◌++◌, length, map, append-nil, append_assoc, refl, ap, ap₂, sym, ◌∙◌, subst, arith, All}
use Rattle.std.proofs.lemmas.List.Elements.{filter-append}
use Rattle.bus_words.specs.declared.calls.BusAnswer.TheVariants.{Done, TimeOut}
use Rattle.bus_words.specs.declared.history.Call.{Call}
use Rattle.bus_words.specs.declared.history.Call.TheVariants.{End}
use Rattle.bus_words.specs.declared.history.Entry.{Entry}
use Rattle.bus_words.specs.Alone.{Received, receipts}
use Rattle.bus_words.specs.Machine.{IsLegal, state_after}
use Rattle.bus_words.specs.Runs.{callers, own_entries}
use Rattle.bus_words.proofs.Steps.{AreNumbered-after}
use Rattle.core_port.proofs.Histories.{none_of_them, nothing_more}
use Rattle.bus_service.specs.Ports.{Answers, Begins, PortView}
use Rattle.sb_calls.specs.Core.{Core, apps_of, state_of}
use Rattle.script_runs.specs.Histories.{Histories}
use Rattle.bridge_plan.specs.Plan.{PlanText, bridge_of}
use Rattle.bridge_plan.specs.Sends.{sends_of as sends_on}
use Rattle.bridge_runs.specs.Bridge.{BridgesFrom, MakesPipe, Waits, first_calls, given_by}
use Rattle.bridge_runs.specs.Lefts.{bytes_of, sends_in}
use Rattle.bridge_runs.specs.Sides.{AreLegal, MergesBeside}
use Rattle.bridge_runs.proofs.BridgeLaws.{bytes_beside, lines_beside}
use Rattle.bridge_runs.proofs.LineSends.{waits_beside}
use Rattle.sb_bridge.specs.Ports.{IsAt, IsOwn, given_in}
use Rattle.sb_bridge.proofs.Asked.{given, own_still, same}
use Rattle.sb_bridge.proofs.OwnPipe.{IsOnly, given_others, only-owned, only_others}

-- ---- the entries of the end

same_front : {X : Type 0} (xs ys rest more : List X) → length xs ≡ length ys → xs ++ rest ≡ ys ++ more → (xs ≡ ys) × (rest ≡ more)
same_front [] [] rest more long same = (refl, same)
same_front [] (y ∷ ys) rest more long same = absurd (omega (arith, long))
same_front (x ∷ xs) [] rest more long same = absurd (omega (arith, long))
same_front {X} (x ∷ xs) (y ∷ ys) rest more long same =
    let both = same_front xs ys rest more (omega (arith, long)) (tail_is x y (xs ++ rest) (ys ++ more) same) in
    (ap₂ (λ (a : X) (l : List X). a ∷ l) (head_is x y (xs ++ rest) (ys ++ more) same) both.0, both.1)
  where
    head_is : (a b : X) (l m : List X) → a ∷ l ≡ b ∷ m → a ≡ b
    head_is a b l m is = cc is

    tail_is : (a b : X) (l m : List X) → a ∷ l ≡ b ∷ m → l ≡ m
    tail_is a b l m is = cc is

-- ---- what the pipe gave is what it gave in all

-- the bridge's end, and what others did behind it, give nothing of its pipe
module _ (p : ℕ) (from last : PortView) (at : IsAt p from) (ends : Answers from last End Done) (recalled : own_entries last.app last.seen.log.entries ≡ last.mine) (core : Core) (extends : Begins last.seen core)
    (limits : core.limits ≡ from.seen.limits) (apps : apps_of core ≡ apps_of from.seen) (legal : IsLegal from.seen.limits (apps_of from.seen) core.log.entries) (own : own_entries from.app core.log.entries ≡ last.mine) where
  abbrev more : List Entry
  more = extends.entries.0

  all_is : last.seen.log.entries ++ more ≡ core.log.entries
  all_is = extends.entries.1

  others : All (λ (e : Entry). e.app ≢ from.app) more
  others =
      none_of_them Entry (λ e. e.app) from.app more
      (nothing_more (own_entries from.app last.seen.log.entries) (own_entries from.app more)
      (sym (filter-append (λ (e : Entry). e.app == from.app) last.seen.log.entries more)
      ∙ ap (own_entries from.app) all_is ∙ own ∙ sym recalled ∙ ap (λ n. own_entries n last.seen.log.entries) ends.app))

  last_own : IsOwn last
  last_own = own_still from last End Done at.own ends recalled

  last_limits : last.seen.limits ≡ from.seen.limits
  last_limits = (same from last End Done at.own ends recalled).limits

  last_apps : apps_of last.seen ≡ apps_of from.seen
  last_apps = ap length (same from last End Done at.own ends recalled).budgets

  -- it gave as much before its end
  before_end : given_in last.seen p ≡ given_in from.seen p
  before_end = given from last End Done at.own ends recalled p at.owned ∙ append-nil (given_in from.seen p)

  last_legal : IsLegal from.seen.limits (apps_of from.seen) last.seen.log.entries
  last_legal = subst (λ l. IsLegal l (apps_of from.seen) last.seen.log.entries) last_limits (subst (λ n. IsLegal last.seen.limits n last.seen.log.entries) last_apps last_own.legal)

  -- the pipe is the bridge's alone, though it ended
  only_last : IsOnly from.app p (state_after from.seen.limits (apps_of from.seen) last.seen.log.entries)
  only_last =
      let front = from.seen.log.entries ++ ends.others.entries in
      let only = only-owned (state_of from.seen) from.app p (AreNumbered-after from.seen.limits (apps_of from.seen) from.seen.log.entries) at.owned in
      let entries : last.seen.log.entries ≡ front ++ record { app = from.app; call = End; answer = Done } ∷ [] =
      ap (λ (c : Core). c.log.entries) ends.does.entry ∙ ap (λ (c : Core). c.log.entries ++ record { app = from.app; call = End; answer = Done } ∷ []) ends.others.grown in
      subst (λ (es : List Entry). IsOnly from.app p (state_after from.seen.limits (apps_of from.seen) es)) (sym entries)
      (only_others from.seen.limits (apps_of from.seen) from.app p front (record { app = from.app; call = End; answer = Done } ∷ [])
      (only_others from.seen.limits (apps_of from.seen) from.app p from.seen.log.entries ends.others.entries only))

  pub given_in_all : map (λ (received : Received). received.message) (receipts from.seen.limits (apps_of from.seen) p core.log.entries) ≡ given_in from.seen p
  given_in_all =
      let message : Received → List ℕ = λ received. received.message in
      ap (λ (es : List Entry). map message (receipts from.seen.limits (apps_of from.seen) p es)) (sym all_is)
      ∙ ap (map message) (given_others from.seen.limits (apps_of from.seen) from.app p last.seen.log.entries more last_legal (subst (λ (es : List Entry). IsLegal from.seen.limits (apps_of from.seen) es) (sym all_is) legal) only_last others)
      ∙ ap₂ (λ l n. map message (receipts l n p last.seen.log.entries)) (sym last_limits) (sym last_apps)
      ∙ before_end

-- ---- side 1

module _ (plan : PlanText) (p : ℕ) (histories : Histories) (legal : AreLegal plan.one histories) (merges : MergesBeside plan.one histories)
    (first rest waits : List Entry) (whole : first ++ rest ≡ histories.bus) (own_first : own_entries (bridge_of plan.one) first ≡ first)
    (calls : callers first ≡ map (λ (call : Call). (bridge_of plan.one, call)) (first_calls plan p)) (pipe : MakesPipe p first)
    (begun : List Entry) (count : length begun ≡ length first) (end : Entry) (ends : end.call ≡ End) (waited : Waits p false waits)
    (own : own_entries (bridge_of plan.one) histories.bus ≡ (begun ++ waits) ++ end ∷ []) where
  parts : (first ≡ begun) × (own_entries (bridge_of plan.one) rest ≡ waits ++ end ∷ [])
  parts =
      let app = bridge_of plan.one in
      same_front first begun (own_entries app rest) (waits ++ end ∷ []) (sym count)
      (ap (λ (es : List Entry). es ++ own_entries app rest) (sym own_first)
      ∙ sym (filter-append (λ (e : Entry). e.app == app) first rest)
      ∙ ap (own_entries app) whole ∙ own ∙ append_assoc begun waits (end ∷ []))

  none_sent : sends_in (own_entries (bridge_of plan.one) histories.bus) ≡ 0
  none_sent =
      ap sends_in (own ∙ append_assoc begun waits (end ∷ []) ∙ ap (λ (es : List Entry). es ++ (waits ++ end ∷ [])) (sym parts.0))
      ∙ waits_beside plan p first waits end calls waited ends

  -- the pipe gives no more messages and bytes than the lines of side 1 send
  pub few_given : length (given_by plan.one p histories.bus) ≤ (sends_on plan.one.apps).lines
  few_given = lines_beside plan p histories legal merges none_sent

  pub few_bytes : bytes_of (given_by plan.one p histories.bus) ≤ (sends_on plan.one.apps).bytes
  few_bytes = bytes_beside plan p histories legal merges none_sent

  pub bridges : (before : List Entry) (last : Entry) → waits ≡ before ++ last ∷ [] → last.answer ≡ TimeOut → All (λ (e : Entry). ¬ (e.answer ≡ TimeOut)) before → BridgesFrom plan p histories.bus
  bridges before last is timed_out in_time = record {
    first = first;
    rest = rest;
    begins = record { whole = sym whole; calls = calls; pipe = pipe };
    waits = record {
      before = before;
      last = last;
      end = end;
      all = parts.1 ∙ ap (λ (es : List Entry). es ++ end ∷ []) is ∙ append_assoc before (last ∷ []) (end ∷ []);
      waits = subst (Waits p false) is waited;
      ends = ends;
      timed_out = timed_out;
      no_other = in_time;
    };
  }
