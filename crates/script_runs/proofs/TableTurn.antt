-- One turn of a rotation at the tables: what it adds to their history, and what it leaves to do.
use Rattle.std.proofs.Common.{◌≡◌, ℕ, zero, suc, ◌-◌, ◌≤◌, ◌==◌, not, Bool, true, false, true≢false, List, [], ◌∷◌, ◌++◌, append-nil, slice_set, Option, Some, None, refl, ap, sym, ◌∙◌, subst, arith}
use Rattle.std.specs.Option.{is_some}
use Rattle.fsw_base.specs.Limits.{Limits}
use Rattle.bus_words.specs.declared.calls.BusAnswer.{BusAnswer}
use Rattle.bus_words.specs.declared.calls.BusAnswer.TheVariants.{Done, Number, Name, Sent, Got, TimeOut, Pending, Pool, Bus, Sb, Es, Evs}
use Rattle.bus_words.specs.declared.history.Call.{Call as BusCall}
use Rattle.bus_words.specs.declared.history.Call.TheVariants as bus_calls
use Rattle.bus_words.specs.Bus.{Standing, Active, Waiting, Ended}
use Rattle.bus_words.proofs.Finds.{Each}
use Rattle.tbl_words.specs.declared.history.Call.{Call}
use Rattle.tbl_words.specs.declared.history.Call.TheVariants as calls
use Rattle.tbl_words.specs.declared.history.Entry.{Entry}
use Rattle.tbl_words.specs.Machine.{step, state_after, IsLegal}
use Rattle.tbl_words.specs.Tables.{State, has_ended}
use Rattle.tbl_words.proofs.Ends.{is_closed, ended_by, has_number, closed-other, closed-own, ended-step}
use Rattle.tbl_words.proofs.Replay.{goes_on}
use Rattle.script_lines.specs.declared.line.Line.{Line}
use Rattle.script_lines.specs.declared.line.Line.TheVariants as lines
use Rattle.script_runs.specs.LineCalls.{LineCall, AtTables, bus_call, line_call_of, table_call}
use Rattle.script_runs.specs.Owing.{TableOwes, first_left}
use Rattle.script_runs.specs.Rotation.{Running, SoFar, answer_to, after_call, after_look, table_answer_to, after_table_call, after_end, behind, other_turn, line_turn, active_turn, turn_in}
use Rattle.script_runs.specs.TableTrace.{table_call_of, handles_after, TableLineEntries, IsTableEnd, TableTrace}
use Rattle.script_runs.specs.Trace.{Registers, call_of, registers_after}
use Rattle.script_runs.specs.Written.{Written, written_after, written_by}
use Rattle.script_runs.proofs.OneTurn.{is_ended}

-- The calls of lines. --

-- a call of the bus is none of the tables
one_service : (handles : List ℕ) (registers : Registers) (written : Written) (made : LineCall) (call : BusCall) → bus_call registers written made ≡ Some call → table_call handles made ≡ None
one_service handles registers written (AtTables made) call is = absurd (true≢false (sym (ap is_some is)))
one_service handles registers written made call is = refl

-- a line that the bus sees is none that the tables see
bus_line : (handles : List ℕ) (registers : Registers) (written : Written) (line : Line) (call : BusCall) → call_of registers written line ≡ Some call → table_call_of handles line ≡ None
unfolding call_of table_call_of
bus_line handles registers written line call is = one_service handles registers written (line_call_of line) call is

-- who has ended once this call was made, if one was
abbrev ended_by_option : ℕ → Option Call → List Bool → List Bool
ended_by_option app None ended = ended
ended_by_option app (Some call) ended = ended_by app call ended

-- no line ends its application
line_ends : (handles : List ℕ) (line : Line) (app : ℕ) (ended : List Bool) → ended_by_option app (table_call_of handles line) ended ≡ ended
unfolding table_call_of line_call_of
line_ends handles (lines.TableRegister handle name size option rules) app ended = refl
line_ends handles line app ended = refl

-- Turns. --

-- the tables so far are ones that can be
pub record IsTableSound (limits : Limits) (apps : ℕ) (sofar : SoFar) : Type 0 where
  pub legal : IsLegal limits apps sofar.table_history
  pub tables : sofar.tables ≡ state_after limits apps sofar.table_history

-- what a turn does at the tables
pub record IsTableTurn (limits : Limits) (apps : ℕ) (sofar : SoFar) (running : Running) (next : SoFar × List Running) : Type 0 where
  pub sound : IsTableSound limits apps next.0
  pub fits : is_some (first_left next.1) ≡ not (has_ended next.0.tables running.app)
  pub others : (k : ℕ) → (k == running.app) ≡ false → has_ended next.0.tables k ≡ has_ended sofar.tables k
  pub added : List Entry
  pub history : next.0.table_history ≡ sofar.table_history ++ added
  pub own : Each (λ e. e.app ≡ running.app) added
  pub owes : (es : List Entry) → TableOwes (first_left next.1) es → TableTrace running.handles running.lines (added ++ es)

-- one call more
sound-table_call : (limits : Limits) (apps : ℕ) (sofar : SoFar) (app : ℕ) (call : Call) → IsTableSound limits apps sofar → has_ended sofar.tables app ≡ false →
    IsTableSound limits apps (after_table_call limits sofar app call)
sound-table_call limits apps sofar app call sound going =
    let e : Entry = record { app = app; call = call; answer = table_answer_to limits sofar app call } in
    let next = goes_on limits apps sofar.table_history e sound.legal
    (ap not (ap (λ (t : State). has_ended t app) (sym sound.tables) ∙ going))
    (ap (λ (t : State). (step limits t app call).0) sound.tables) in
    record {
      legal = next.legal;
      tables = ap (λ (t : State). (step limits t app call).1) sound.tables ∙ sym next.state;
    }

-- a turn that the tables don't see
turn-unseen : (limits : Limits) (apps : ℕ) (sofar : SoFar) (running : Running) (next : SoFar) (left : Running) → IsTableSound limits apps sofar → has_ended sofar.tables running.app ≡ false →
    next.table_history ≡ sofar.table_history → next.tables ≡ sofar.tables →
    ((es : List Entry) → TableTrace left.handles left.lines es → TableTrace running.handles running.lines es) →
    IsTableTurn limits apps sofar running (next, left ∷ [])
turn-unseen limits apps sofar running next left sound going history tables owes = record {
  sound = record {
    legal = subst (λ (es : List Entry). IsLegal limits apps es) (sym history) sound.legal;
    tables = tables ∙ sound.tables ∙ ap (λ (es : List Entry). state_after limits apps es) (sym history);
  };
  fits = ap not (sym (ap (λ (t : State). has_ended t running.app) tables ∙ going));
  others = λ k differ. ap (λ (t : State). has_ended t k) tables;
  added = [];
  history = history ∙ sym (append-nil sofar.table_history);
  own = tt;
  owes = owes;
}

-- what is owed behind a line that the tables don't see
owed-unseen : (running : Running) (line : Line) (others : List Line) (es : List Entry) → running.lines ≡ line ∷ others → table_call_of running.handles line ≡ None →
    TableTrace running.handles others es → TableTrace running.handles running.lines es
owed-unseen running line others es has none owed =
    subst (λ ls. TableTrace running.handles ls es) (sym has)
    (subst (λ (c : Option Call). TableLineEntries c (λ answer rest. TableTrace (handles_after running.handles line answer) others rest) (λ rest. TableTrace running.handles others rest) es) (sym none) owed)

-- a line that makes a call of the tables
turn-seen : (limits : Limits) (apps : ℕ) (sofar : SoFar) (running : Running) (line : Line) (others : List Line) (call : Call) → IsTableSound limits apps sofar → has_ended sofar.tables running.app ≡ false →
    running.lines ≡ line ∷ others → table_call_of running.handles line ≡ Some call →
    IsTableTurn limits apps sofar running (other_turn limits sofar running line others (Some call))
turn-seen limits apps sofar running line others call sound going has some =
    let answer = table_answer_to limits sofar running.app call in
    let e : Entry = record { app = running.app; call = call; answer = answer } in
    let after : State = (step limits sofar.tables running.app call).1 in
    let same : after.ended ≡ sofar.tables.ended =
    ended-step limits sofar.tables running.app call
    ∙ ap (λ (c : Option Call). ended_by_option running.app c sofar.tables.ended) (sym some)
    ∙ line_ends running.handles line running.app sofar.tables.ended in
    record {
      sound = sound-table_call limits apps sofar running.app call sound going;
      fits = ap not (sym (ap (λ ended. is_closed ended running.app) same ∙ going));
      others = λ k differ. ap (λ ended. is_closed ended k) same;
      added = e ∷ [];
      history = refl;
      own = (refl, tt);
      owes = λ es owed.
          subst (λ ls. TableTrace running.handles ls (e ∷ es)) (sym has)
          (subst (λ (c : Option Call). TableLineEntries c (λ told rest. TableTrace (handles_after running.handles line told) others rest) (λ rest. TableTrace running.handles others rest) (e ∷ es)) (sym some)
          (refl, owed));
    }

-- the end of one application is no other's
end-other : (ended : List Bool) (app k : ℕ) → is_closed ended app ≡ false → (k == app) ≡ false → is_closed (slice_set ended (app - 1) true) k ≡ is_closed ended k
end-other ended app zero going differ = refl
end-other ended app (suc k) going differ = closed-other ended app (suc k) (has_number ended app going) some differ
  where
    some : 1 ≤ suc k
    some = omega arith

-- the end
turn-over : (limits : Limits) (apps : ℕ) (sofar : SoFar) (running : Running) → IsTableSound limits apps sofar → has_ended sofar.tables running.app ≡ false → running.lines ≡ [] →
    IsTableTurn limits apps sofar running (after_end limits sofar running.app, [])
turn-over limits apps sofar running sound going has =
    let e : Entry = record { app = running.app; call = calls.End; answer = table_answer_to limits sofar running.app calls.End } in
    let ends = sound-table_call limits apps sofar running.app calls.End sound going in
    record {
      sound = record { legal = ends.legal; tables = ends.tables };
      fits = ap not (sym (closed-own sofar.tables.ended running.app));
      others = λ k differ. end-other sofar.tables.ended running.app k going differ;
      added = e ∷ [];
      history = refl;
      own = (refl, tt);
      owes = λ es none. subst (λ ls. TableTrace running.handles ls (e ∷ es)) (sym has) (subst (λ (xs : List Entry). IsTableEnd (e ∷ xs)) (sym none) refl);
    }

turn-other : (limits : Limits) (apps : ℕ) (sofar : SoFar) (running : Running) (line : Line) (others : List Line) (made : Option Call) → IsTableSound limits apps sofar → has_ended sofar.tables running.app ≡ false →
    running.lines ≡ line ∷ others → table_call_of running.handles line ≡ made → IsTableTurn limits apps sofar running (other_turn limits sofar running line others made)
turn-other limits apps sofar running line others None sound going has makes =
    turn-unseen limits apps sofar running sofar (behind running others running.registers (written_by running.written running.registers.buffers line)) sound going refl refl
    (λ es owed. owed-unseen running line others es has makes owed)
turn-other limits apps sofar running line others (Some call) sound going has makes = turn-seen limits apps sofar running line others call sound going has makes

turn-line : (limits : Limits) (apps : ℕ) (sofar : SoFar) (running : Running) (line : Line) (others : List Line) (made : Option BusCall) → IsTableSound limits apps sofar → has_ended sofar.tables running.app ≡ false →
    running.lines ≡ line ∷ others → call_of running.registers running.written line ≡ made → IsTableTurn limits apps sofar running (line_turn limits sofar running line others made)
turn-line limits apps sofar running line others None sound going has makes =
    turn-other limits apps sofar running line others (table_call_of running.handles line) sound going has refl
turn-line limits apps sofar running line others (Some call) sound going has makes =
    let answer = answer_to limits sofar running.app call in
    turn-unseen limits apps sofar running (after_call limits sofar running.app call)
    (behind running others (registers_after running.registers line answer) (written_after running.written call answer)) sound going refl refl
    (λ es owed. owed-unseen running line others es has (bus_line running.handles running.registers running.written line call makes) owed)

turn-active : (limits : Limits) (apps : ℕ) (sofar : SoFar) (running : Running) (lines : List Line) → IsTableSound limits apps sofar → has_ended sofar.tables running.app ≡ false →
    running.lines ≡ lines → IsTableTurn limits apps sofar running (active_turn limits sofar running lines)
turn-active limits apps sofar running [] sound going has = turn-over limits apps sofar running sound going has
turn-active limits apps sofar running (line ∷ others) sound going has =
    turn-line limits apps sofar running line others (call_of running.registers running.written line) sound going has refl

-- a look leaves the tables as they are
look-tables : (limits : Limits) (sofar : SoFar) (app pipe : ℕ) (answer : BusAnswer) →
    ((after_look limits sofar app pipe answer).table_history ≡ sofar.table_history) × ((after_look limits sofar app pipe answer).tables ≡ sofar.tables)
look-tables limits sofar app pipe Pending = (refl, refl)
look-tables limits sofar app pipe Done = (refl, refl)
look-tables limits sofar app pipe (Number n) = (refl, refl)
look-tables limits sofar app pipe (Name name) = (refl, refl)
look-tables limits sofar app pipe (Sent number reached) = (refl, refl)
look-tables limits sofar app pipe (Got number) = (refl, refl)
look-tables limits sofar app pipe TimeOut = (refl, refl)
look-tables limits sofar app pipe (Pool figures) = (refl, refl)
look-tables limits sofar app pipe (Bus figures) = (refl, refl)
look-tables limits sofar app pipe (Sb status) = (refl, refl)
look-tables limits sofar app pipe (Es status) = (refl, refl)
look-tables limits sofar app pipe (Evs status) = (refl, refl)

-- a turn of an application that hasn't ended, in any standing
pub table-turn-in : (limits : Limits) (apps : ℕ) (sofar : SoFar) (running : Running) (standing : Standing) → IsTableSound limits apps sofar → has_ended sofar.tables running.app ≡ false →
    is_ended standing ≡ false → IsTableTurn limits apps sofar running (turn_in limits sofar running standing)
table-turn-in limits apps sofar running Active sound going live = turn-active limits apps sofar running running.lines sound going refl
table-turn-in limits apps sofar running (Waiting pipe) sound going live =
    let answer = answer_to limits sofar running.app (bus_calls.Look pipe) in
    let same = look-tables limits sofar running.app pipe answer in
    turn-unseen limits apps sofar running (after_look limits sofar running.app pipe answer) running sound going same.0 same.1 (λ es owed. owed)
table-turn-in limits apps sofar running Ended sound going live = absurd (true≢false live)
