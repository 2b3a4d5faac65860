-- What the calls leave, each by what the core tells of the loans and the descriptors.
use Rattle.std.proofs.Common.{◌≡◌, ℕ, ◌==◌, ◌&&◌, ◌||◌, not, Bool, true, false, cond, true≢false, eqb-true, List, [], ◌∷◌, ◌++◌, length, filter, Option, Some, None, is_some, Result, Ok, Err, IsTrue, refl, ap, sym, ◌∙◌, subst}
use Rattle.std.specs.Option.{option_map, option_map_or, option_and_then}
use Rattle.fsw_base.specs.declared.config.PoolStats.{PoolStats}
use Rattle.fsw_base.specs.declared.statuses.EsStatus.{EsStatus}
use Rattle.fsw_base.specs.declared.statuses.EvsStatus.{EvsStatus}
use Rattle.fsw_base.specs.declared.statuses.SbStatus.{SbStatus}
use Rattle.lend_block.specs.Loan.{LentBytes}
use Rattle.lend_block.specs.declared.note.Note.{Note}
use Rattle.lend_block.specs.declared.note.Note.TheVariants.{Nothing}
use Rattle.buf_desc.specs.Held.{Holding, view_at}
use Rattle.bus_words.specs.declared.calls.BusAnswer.{BusAnswer}
use Rattle.bus_words.specs.declared.calls.BusAnswer.TheVariants.{Done, Number, Got}
use Rattle.bus_words.specs.declared.history.Call.{Call}
use Rattle.bus_words.specs.declared.history.Call.TheVariants.{Create, Delete, GetOpts, Find, Receive, Pend, Look, Allocate, PoolCreate, PoolGet, Register, End}
use Rattle.bus_words.specs.declared.history.Entry.{Entry}
use Rattle.bus_words.specs.Alone.{gets_from}
use Rattle.bus_words.specs.Bus.{Item, Pipe, State, standing_of, is_live, owns, pipe_at, has_unsent, without_all_unsent}
use Rattle.bus_words.specs.Held.{is_unsent, AreUnsent}
use Rattle.bus_words.specs.Log.{with_entry}
use Rattle.bus_words.specs.Machine.{makes_entry, may_call, brings, step}
use Rattle.bus_words.proofs.Finds.{same-self, same-sym, any-filter_none}
use Rattle.bus_words.proofs.KeptPipes.{AreSingle, single-rising}
use Rattle.bus_words.proofs.Ties.{is_live-owns}
use Rattle.bus_words.proofs.UnsentBuffers.{AreUnsent-after}
use Rattle.bus_words.proofs.UnsentSteps.{all_gone-unsent}
use Rattle.bus_words.specs.Pipes.{last_on}
use Rattle.bus_messages.specs.Words.{loan_of, desc_of}
use Rattle.sb_calls.specs.declared.results.Sent.{Sent}
use Rattle.bus_core.specs.Answers.{numbered, named, done, pool_told, grant_back, figures_told, event_told}
use Rattle.sb_calls.specs.Answers.{sent}
use Rattle.bus_core.specs.Bags.{HasBag, KeepsAllLoans, KeepsLoans, KeepsOtherLoans, KeepsAllDescs, KeepsOtherDescs}
use Rattle.bus_core.specs.Core.{Plain, Acts}
use Rattle.sb_calls.specs.declared.journalled.BusCore.TheInside.{Inside}
use Rattle.sb_calls.specs.Inside.{Stands}
use Rattle.sb_calls.specs.Notes.{NotedLog, note_due, note_seen, gives_buffer}
use Rattle.sb_calls.proofs.Fares.{Fares, Given, Emptied, Refused, waits_own, fares-receive, fares-pend, fares-look, fares-delete}
use Rattle.sb_calls.proofs.Holds.{last-live}
use Rattle.sb_calls.proofs.EntryLemma.{Made, bus_is, step_is, waiters_in}

-- Calls that give no message note nothing. --

pub created-nothing : (told : Result ℕ SbStatus) (depth : ℕ) (text : List ℕ) (name : ℕ) → note_due (numbered told) (Create depth text) name ≡ Nothing
created-nothing (Ok n) depth text name = refl
created-nothing (Err status) depth text name = refl

pub found-nothing : (told : Result ℕ SbStatus) (text : List ℕ) (name : ℕ) → note_due (numbered told) (Find text) name ≡ Nothing
found-nothing (Ok n) text name = refl
found-nothing (Err status) text name = refl

pub bits-nothing : (told : Result ℕ SbStatus) (pipe : ℕ) (name : ℕ) → note_due (numbered told) (GetOpts pipe) name ≡ Nothing
bits-nothing (Ok n) pipe name = refl
bits-nothing (Err status) pipe name = refl

pub named-nothing : (told : Result (List ℕ) SbStatus) (call : Call) (name : ℕ) → note_due (named told) call name ≡ Nothing
named-nothing (Ok text) call name = refl
named-nothing (Err status) call name = refl

pub done-nothing : (told : Result (Unit {0}) SbStatus) (call : Call) (name : ℕ) → note_due (done told) call name ≡ Nothing
done-nothing (Ok nothing) call name = refl
done-nothing (Err status) call name = refl

pub sent-nothing : (told : Result Sent SbStatus) (call : Call) (name : ℕ) → note_due (sent told) call name ≡ Nothing
sent-nothing (Ok it) call name = refl
sent-nothing (Err status) call name = refl

pub pool-nothing : (told : Result ℕ EsStatus) (bytes : ℕ) (name : ℕ) → note_due (pool_told told) (PoolCreate bytes) name ≡ Nothing
pool-nothing (Ok n) bytes name = refl
pool-nothing (Err status) bytes name = refl

pub grant-nothing : (told : Result ℕ EsStatus) (pool size : ℕ) (name : ℕ) → note_due (pool_told told) (PoolGet pool size) name ≡ Nothing
grant-nothing (Ok n) pool size name = refl
grant-nothing (Err status) pool size name = refl

pub back-nothing : (told : Result (Unit {0}) EsStatus) (call : Call) (name : ℕ) → note_due (grant_back told) call name ≡ Nothing
back-nothing (Ok nothing) call name = refl
back-nothing (Err status) call name = refl

pub event-nothing : (told : Result (Unit {0}) EvsStatus) (call : Call) (name : ℕ) → note_due (event_told told) call name ≡ Nothing
event-nothing (Ok nothing) call name = refl
event-nothing (Err status) call name = refl

pub figures-nothing : (told : Result PoolStats EsStatus) (call : Call) (name : ℕ) → note_due (figures_told told) call name ≡ Nothing
figures-nothing (Ok figures) call name = refl
figures-nothing (Err status) call name = refl

module _ (a : Inside) (core : Plain) (next : NotedLog) (app : ℕ) (call : Call) (answer told : BusAnswer) (acts : Acts a.core core app call answer) (makes : IsTrue (makes_entry call answer))
    (whole : IsTrue (brings a.core.whole.bus.unsent app call)) (as_told : told ≡ answer) where
  -- what the pushed entry is
  abbrev Pushed : Type 0
  Pushed = next ≡ record { log = with_entry a.noted.log (record { app = app; call = call; answer = told }); notes = a.noted.notes ++ Nothing ∷ [] }

  entered : Pushed → note_due answer call 0 ≡ Nothing →
      next ≡ record { log = with_entry a.noted.log (record { app = app; call = call; answer = answer }); notes = a.noted.notes ++ note_due answer call 0 ∷ [] }
  entered pushed nothing =
      pushed
      ∙ ap (λ t. record { log = with_entry a.noted.log (record { app = app; call = call; answer = t }); notes = a.noted.notes ++ Nothing ∷ [] }) as_told
      ∙ ap (λ n. record { log = with_entry a.noted.log (record { app = app; call = call; answer = answer }); notes = a.noted.notes ++ n ∷ [] }) (sym nothing)

  -- a call that gives no message and no buffer
  pub made_quiet : Pushed → note_due answer call 0 ≡ Nothing → ((pipe : ℕ) → gets_from pipe (record { app = app; call = call; answer = answer }) ≡ false) →
      ((number : ℕ) → gives_buffer number (record { app = app; call = call; answer = answer }) ≡ false) →
      ((pipe : ℕ) → is_some (last_on core.whole.bus.pipes pipe) ≡ true → is_some (last_on a.core.whole.bus.pipes pipe) ≡ true → loan_of core.loans pipe ≡ loan_of a.core.loans pipe) →
      ((number : ℕ) → is_unsent core.whole.bus.unsent number ≡ true → desc_of core.descs number ≡ desc_of a.core.descs number) →
      Made a core next app call answer
  made_quiet pushed nothing none no_buffer kept left = record {
    acts = acts;
    makes = makes;
    whole = whole;
    name = 0;
    pushed = entered pushed nothing;
    given = λ pipe gives some. absurd (true≢false (sym gives ∙ none pipe));
    kept = λ pipe not_given some had. kept pipe some had;
    gave = λ number gives. absurd (true≢false (sym gives ∙ no_buffer number));
    left = λ number not_given now was. left number now;
  }

  -- and changes no loan and no descriptor
  pub made_plain : Pushed → note_due answer call 0 ≡ Nothing → ((pipe : ℕ) → gets_from pipe (record { app = app; call = call; answer = answer }) ≡ false) →
      ((number : ℕ) → gives_buffer number (record { app = app; call = call; answer = answer }) ≡ false) → KeepsAllLoans a.core core → KeepsAllDescs a.core core →
      Made a core next app call answer
  made_plain pushed nothing none no_buffer loans descs = made_quiet pushed nothing none no_buffer (λ pipe some had. loans pipe) (λ number now. descs number)

-- A registration, entered with its filters once more.
pub made_register : (a : Inside) (core : Plain) (next : NotedLog) (app : ℕ) (filters kept : List (ℕ × ℕ)) → kept ≡ filters → Acts a.core core app (Register filters) Done →
    KeepsAllLoans a.core core → KeepsAllDescs a.core core →
    next ≡ record { log = with_entry a.noted.log (record { app = app; call = Register kept; answer = Done }); notes = a.noted.notes ++ Nothing ∷ [] } → Made a core next app (Register filters) Done
made_register a core next app filters kept same acts loans descs pushed =
    made_plain a core next app (Register filters) Done Done acts refl refl refl
    (pushed ∙ ap (λ (fs : List (ℕ × ℕ)). record { log = with_entry a.noted.log (record { app = app; call = Register fs; answer = Done }); notes = a.noted.notes ++ Nothing ∷ [] }) same)
    refl (λ pipe. refl) (λ number. refl) loans descs

-- Calls on one pipe. --

module _ (a : Inside) (core : Plain) (app pipe : ℕ) (loans : KeepsLoans a.core core pipe) (unowned : owns a.core.whole.bus.pipes app pipe ≡ false → core.loans ≡ a.core.loans) where
  -- a pipe that gives no message and has one keeps its loan
  kept_here : (gives : Bool) → Fares a.core.whole.bus.pipes core.whole.bus.pipes app pipe gives → gives ≡ false → is_some (last_on core.whole.bus.pipes pipe) ≡ true →
      loan_of core.loans pipe ≡ loan_of a.core.loans pipe
  kept_here gives (Given is own some) none has = absurd (true≢false (sym is ∙ none))
  kept_here gives (Emptied is gone) none has = absurd (true≢false (sym has ∙ ap (λ l. is_some l) gone))
  kept_here gives (Refused is not_his stays) none has = ap (λ loans. loan_of loans pipe) (unowned not_his)

  -- and every other pipe does
  pub kept_on : (gives : Bool) → Fares a.core.whole.bus.pipes core.whole.bus.pipes app pipe gives → (other : ℕ) → ((pipe == other) ≡ true → gives ≡ false) →
      is_some (last_on core.whole.bus.pipes other) ≡ true → loan_of core.loans other ≡ loan_of a.core.loans other
  kept_on gives fares other none has =
      elim (pipe == other) as (λ b. (pipe == other) ≡ b → loan_of core.loans other ≡ loan_of a.core.loans other) [
        | true ↦ λ same.
            let here = eqb-true pipe other same in
            subst (λ n. loan_of core.loans n ≡ loan_of a.core.loans n) here
            (kept_here gives fares (none same) (ap (λ n. is_some (last_on core.whole.bus.pipes n)) here ∙ has))
        | false ↦ λ differ. loans other (λ same. true≢false (sym (same-self pipe) ∙ ap (λ n. pipe == n) same ∙ differ))
      ] refl

-- the view of a message that was given is by the loan of the pipe's last
seen-due : (answer : BusAnswer) (call : Call) (view : Option LentBytes) (loan : ℕ) → ((number : ℕ) → gives_buffer number (record { app = 0; call = call; answer = answer }) ≡ false) →
    ((number : ℕ) → answer ≡ Got number → option_map (λ (v : LentBytes). v.loan) view ≡ Some loan) → note_seen answer view ≡ note_due answer call loan
seen-due (Got number) call None loan none is = absurd (cc (is number refl))
seen-due (Got number) call (Some view) loan none is = ap (λ (o : Option ℕ). option_map_or (λ n. note_due (Got number) call n) o Nothing) (is number refl)
seen-due (Number number) (Allocate size) view loan none is = absurd (true≢false (sym (same-self number) ∙ none number))
seen-due answer call view loan none is = refl

due-loan : (pipes : List Pipe) (loan : ℕ) (bag : Holding LentBytes) (b : Bool) (last : Option Item) (pipe : ℕ) → b ≡ true → is_some last ≡ true →
    view_at bag pipe ≡ cond {A = Option LentBytes} b (option_map (λ (item : Item). record { loan = loan; bytes = item.message }) last) None →
    option_map (λ (v : LentBytes). v.loan) (view_at bag pipe) ≡ Some loan
due-loan pipes loan bag true None pipe own some is = absurd (true≢false (sym some))
due-loan pipes loan bag true (Some item) pipe own some is = ap (λ v. option_map (λ (x : LentBytes). x.loan) v) is
due-loan pipes loan bag false last pipe own some is = absurd (true≢false (sym own))

module _ (a : Inside) (core : Plain) (next : NotedLog) (app pipe : ℕ) (call : Call) (answer told : BusAnswer) (bag : Holding LentBytes)
    (acts : Acts a.core core app call answer) (makes : IsTrue (makes_entry call answer)) (whole : IsTrue (brings a.core.whole.bus.unsent app call)) (as_told : told ≡ answer)
    (no_buffer : (number : ℕ) → gives_buffer number (record { app = app; call = call; answer = answer }) ≡ false)
    (loans : KeepsLoans a.core core pipe) (descs : KeepsAllDescs a.core core) (unowned : owns a.core.whole.bus.pipes app pipe ≡ false → core.loans ≡ a.core.loans) (has : HasBag core app bag) where
  abbrev e : Entry
  e = record { app = app; call = call; answer = answer }

  -- a receive on the pipe, from which alone it gives
  pub made_taking : Fares a.core.whole.bus.pipes core.whole.bus.pipes app pipe (gets_from pipe e) →
      ((other : ℕ) → (pipe == other) ≡ false → gets_from other e ≡ false) → ((number : ℕ) → answer ≡ Got number → gets_from pipe e ≡ true) →
      next ≡ record { log = with_entry a.noted.log (record { app = app; call = call; answer = told }); notes = a.noted.notes ++ note_seen told (view_at bag pipe) ∷ [] } →
      Made a core next app call answer
  made_taking fares apart got pushed = record {
    acts = acts;
    makes = makes;
    whole = whole;
    name = loan_of core.loans pipe;
    pushed = pushed
        ∙ ap (λ t. record { log = with_entry a.noted.log (record { app = app; call = call; answer = t }); notes = a.noted.notes ++ note_seen t (view_at bag pipe) ∷ [] }) as_told
        ∙ ap (λ n. record { log = with_entry a.noted.log e; notes = a.noted.notes ++ n ∷ [] }) (seen-due answer call (view_at bag pipe) (loan_of core.loans pipe) no_buffer (λ number is. shown (gets_from pipe e) fares (got number is)));
    given = λ other gives some. elim (pipe == other) as (λ b. (pipe == other) ≡ b → loan_of core.loans other ≡ loan_of core.loans pipe) [
      | true ↦ λ same. ap (λ n. loan_of core.loans n) (sym (eqb-true pipe other same))
      | false ↦ λ differ. absurd (true≢false (sym gives ∙ apart other differ))
    ] refl;
    kept = λ other none some had. kept_on a core app pipe loans unowned (gets_from pipe e) fares other (λ same. ap (λ n. gets_from n e) (eqb-true pipe other same) ∙ none) some;
    gave = λ number gives. absurd (true≢false (sym gives ∙ no_buffer number));
    left = λ number not_given now was. descs number;
  }
    where
      shown : (gives : Bool) → Fares a.core.whole.bus.pipes core.whole.bus.pipes app pipe gives → gives ≡ true → option_map (λ (v : LentBytes). v.loan) (view_at bag pipe) ≡ Some (loan_of core.loans pipe)
      shown gives (Given is own some) gave = due-loan core.whole.bus.pipes (loan_of core.loans pipe) bag (owns core.whole.bus.pipes app pipe) (last_on core.whole.bus.pipes pipe) pipe own some (has.views.seen pipe)
      shown gives (Emptied is gone) gave = absurd (true≢false (sym gave ∙ is))
      shown gives (Refused is not_his stays) gave = absurd (true≢false (sym gave ∙ is))

  -- the pipe's end
  pub made_ending : Fares a.core.whole.bus.pipes core.whole.bus.pipes app pipe (gets_from pipe e) → note_due answer call 0 ≡ Nothing → ((other : ℕ) → gets_from other e ≡ false) →
      next ≡ record { log = with_entry a.noted.log (record { app = app; call = call; answer = told }); notes = a.noted.notes ++ Nothing ∷ [] } → Made a core next app call answer
  made_ending fares nothing none pushed =
      made_quiet a core next app call answer told acts makes whole as_told pushed nothing none no_buffer
      (λ other some had. kept_on a core app pipe loans unowned (gets_from pipe e) fares other (λ same. none pipe) some) (λ number now. descs number)

-- a pipe of the application's is gone if all of its pipes are
gone : (app : ℕ) (pipes : List Pipe) (number : ℕ) → AreSingle pipes → owns pipes app number ≡ true → is_some (last_on (filter (λ pipe. not (pipe.owner == app)) pipes) number) ≡ true → ⊥
gone app [] number one = λ own some. true≢false (sym own)
gone app (pipe ∷ pipes) number one = by_tests (pipe.number == number) refl (pipe.owner == app) (gone app pipes number one.1)
  where
    left : List Pipe
    left = filter (λ one. not (one.owner == app)) pipes

    dead : (pipe.number == number) ≡ true → is_live pipes number ≡ false
    dead here = ap (is_live pipes) (sym (eqb-true pipe.number number here)) ∙ one.0

    by_tests : (here : Bool) → (pipe.number == number) ≡ here → (own : Bool) → (owns pipes app number ≡ true → is_some (last_on left number) ≡ true → ⊥) →
        ((here && own) || owns pipes app number) ≡ true → is_some (last_on (cond {A = List Pipe} (not own) (pipe ∷ left) left) number) ≡ true → ⊥
    by_tests true here true ih is some =
        true≢false (sym (last-live left number some) ∙ any-filter_none (λ (x : Pipe). x.number == number) (λ x. not (x.owner == app)) pipes (dead here))
    by_tests true here false ih is some = true≢false (sym (is_live-owns pipes app number is) ∙ dead here)
    by_tests false other true ih is some = ih is some
    by_tests false other false ih is some =
        ih is (ap (λ b. is_some (option_and_then (λ (one : Pipe). one.last) (cond {A = Option Pipe} b (Some pipe) (pipe_at left number)))) (sym other) ∙ some)

-- no two unsent buffers have one number
pub unsent_in_core : (a : Inside) → Stands a → AreUnsent a.core.limits (length a.noted.log.budgets) a.core.whole.bus
unsent_in_core a stands =
    subst (AreUnsent a.core.limits (length a.noted.log.budgets)) (sym (bus_is a stands)) (AreUnsent-after a.core.limits (length a.noted.log.budgets) a.noted.log.entries)

-- an application's end
pub made_end : (a : Inside) (core : Plain) (next : NotedLog) (app : ℕ) → Stands a → Acts a.core core app End Done → KeepsOtherLoans a.core core app → KeepsOtherDescs a.core core app →
    next ≡ record { log = with_entry a.noted.log (record { app = app; call = End; answer = Done }); notes = a.noted.notes ++ Nothing ∷ [] } → Made a core next app End Done
made_end a core next app stands acts loans descs pushed =
    let pipes = a.core.whole.bus.pipes in
    let left : core.whole.bus.pipes ≡ filter (λ pipe. not (pipe.owner == app)) pipes = ap (λ (p : BusAnswer × State). p.1.pipes) (sym (step_is a core app End Done stands acts)) in
    let single = single-rising 0 a.core.whole.bus.pipes_created pipes (waiters_in a stands).numbered.pipes in
    let after : core.whole.bus.unsent ≡ without_all_unsent a.core.whole.bus.unsent app = ap (λ (p : BusAnswer × State). p.1.unsent) (sym (step_is a core app End Done stands acts)) in
    made_quiet a core next app End Done Done acts refl refl refl pushed refl (λ pipe. refl) (λ number. refl)
    (λ pipe some had. loans pipe (elim (owns pipes app pipe) as (λ b. owns pipes app pipe ≡ b → b ≡ false) [
      | true ↦ λ own. absurd (gone app pipes pipe single own (ap (λ ps. is_some (last_on ps pipe)) (sym left) ∙ some))
      | false ↦ λ none. refl
    ] refl))
    (λ number now. descs number (elim (has_unsent a.core.whole.bus.unsent app number) as (λ b. has_unsent a.core.whole.bus.unsent app number ≡ b → b ≡ false) [
      | true ↦ λ has. absurd (true≢false (sym now ∙ ap (λ u. is_unsent u number) after ∙ all_gone-unsent a.core.whole.bus.unsent app number ((unsent_in_core a stands).once number) has))
      | false ↦ λ none. refl
    ] refl))

-- By each call on a pipe. --

module _ (a : Inside) (core : Plain) (app pipe : ℕ) (stands : Stands a) where
  -- what the machine does to the pipe, the core did
  by_step : (call : Call) (answer : BusAnswer) → Acts a.core core app call answer →
      (let made = step a.core.limits a.noted.log.entries a.core.whole.bus app call in
      Fares a.core.whole.bus.pipes made.1.pipes app pipe (gets_from pipe (record { app = app; call = call; answer = made.0 }))) →
      Fares a.core.whole.bus.pipes core.whole.bus.pipes app pipe (gets_from pipe (record { app = app; call = call; answer = answer }))
  by_step call answer acts fares =
      subst (λ (p : BusAnswer × State). Fares a.core.whole.bus.pipes p.1.pipes app pipe (gets_from pipe (record { app = app; call = call; answer = p.0 }))) (step_is a core app call answer stands acts) fares

apart-receive : (app pipe other : ℕ) (answer : BusAnswer) → (pipe == other) ≡ false → gets_from other (record { app = app; call = Receive pipe; answer = answer }) ≡ false
apart-receive app pipe other (Got number) differ = same-sym other pipe ∙ differ
apart-receive app pipe other answer differ = refl

apart-pend : (app pipe other : ℕ) (answer : BusAnswer) → (pipe == other) ≡ false → gets_from other (record { app = app; call = Pend pipe; answer = answer }) ≡ false
apart-pend app pipe other (Got number) differ = same-sym other pipe ∙ differ
apart-pend app pipe other answer differ = refl

apart-look : (app pipe other : ℕ) (answer : BusAnswer) → (pipe == other) ≡ false → gets_from other (record { app = app; call = Look pipe; answer = answer }) ≡ false
apart-look app pipe other (Got number) differ = same-sym other pipe ∙ differ
apart-look app pipe other answer differ = refl

-- What the core's call on a pipe and the push of its entry left.
pub record Left (a : Inside) (core : Plain) (next : NotedLog) (app pipe : ℕ) (call : Call) (answer told : BusAnswer) (note : Note) : Type 0 where
  pub stands : Stands a
  pub acts : Acts a.core core app call answer
  pub as_told : told ≡ answer
  pub loans : KeepsLoans a.core core pipe
  pub descs : KeepsAllDescs a.core core
  pub unowned : owns a.core.whole.bus.pipes app pipe ≡ false → core.loans ≡ a.core.loans
  pub pushed : next ≡ record { log = with_entry a.noted.log (record { app = app; call = call; answer = told }); notes = a.noted.notes ++ note ∷ [] }

-- once it is known what was noted
noted_as : (a : Inside) (next : NotedLog) (app : ℕ) (call : Call) (told : BusAnswer) (note : Note) →
    next ≡ record { log = with_entry a.noted.log (record { app = app; call = call; answer = told }); notes = a.noted.notes ++ note ∷ [] } → (other : Note) → note ≡ other →
    next ≡ record { log = with_entry a.noted.log (record { app = app; call = call; answer = told }); notes = a.noted.notes ++ other ∷ [] }
noted_as a next app call told note pushed other is =
    pushed ∙ ap (λ n. record { log = with_entry a.noted.log (record { app = app; call = call; answer = told }); notes = a.noted.notes ++ n ∷ [] }) is

-- who looks has the pipe
pub looks_own : (a : Inside) (core : Plain) (app pipe : ℕ) → Stands a → IsTrue (may_call (standing_of a.core.whole.bus app) (Look pipe)) → owns a.core.whole.bus.pipes app pipe ≡ false → core.loans ≡ a.core.loans
looks_own a core app pipe stands may none = absurd (true≢false (sym (waits_own a.core.whole.bus app pipe (waiters_in a stands) may) ∙ none))

module _ (a : Inside) (core : Plain) (next : NotedLog) (app pipe : ℕ) (answer told : BusAnswer) (note : Note) (bag : Holding LentBytes) (has : HasBag core app bag) where
  pub made_receive : Left a core next app pipe (Receive pipe) answer told note → note ≡ note_seen told (view_at bag pipe) → Made a core next app (Receive pipe) answer
  made_receive left as_seen =
      made_taking a core next app pipe (Receive pipe) answer told bag left.acts refl refl left.as_told (λ number. refl) left.loans left.descs left.unowned has
      (by_step a core app pipe left.stands (Receive pipe) answer left.acts (fares-receive a.core.limits a.noted.log.entries a.core.whole.bus app pipe))
      (λ other differ. apart-receive app pipe other answer differ)
      (λ number is. ap (λ x. gets_from pipe (record { app = app; call = Receive pipe; answer = x })) is ∙ same-self pipe)
      (noted_as a next app (Receive pipe) told note left.pushed (note_seen told (view_at bag pipe)) as_seen)

  pub made_pend : Left a core next app pipe (Pend pipe) answer told note → note ≡ note_seen told (view_at bag pipe) → Made a core next app (Pend pipe) answer
  made_pend left as_seen =
      made_taking a core next app pipe (Pend pipe) answer told bag left.acts refl refl left.as_told (λ number. refl) left.loans left.descs left.unowned has
      (by_step a core app pipe left.stands (Pend pipe) answer left.acts (fares-pend a.core.limits a.noted.log.entries a.core.whole.bus app pipe))
      (λ other differ. apart-pend app pipe other answer differ)
      (λ number is. ap (λ x. gets_from pipe (record { app = app; call = Pend pipe; answer = x })) is ∙ same-self pipe)
      (noted_as a next app (Pend pipe) told note left.pushed (note_seen told (view_at bag pipe)) as_seen)

  pub made_look : IsTrue (may_call (standing_of a.core.whole.bus app) (Look pipe)) → IsTrue (makes_entry (Look pipe) answer) →
      Left a core next app pipe (Look pipe) answer told note → note ≡ note_seen told (view_at bag pipe) → Made a core next app (Look pipe) answer
  made_look may makes left as_seen =
      let step_made = ap (λ (p : BusAnswer × State). p.0) (step_is a core app (Look pipe) answer left.stands left.acts) in
      let own = waits_own a.core.whole.bus app pipe (waiters_in a left.stands) may in
      made_taking a core next app pipe (Look pipe) answer told bag left.acts makes refl left.as_told (λ number. refl) left.loans left.descs left.unowned has
      (by_step a core app pipe left.stands (Look pipe) answer left.acts
      (fares-look a.core.limits a.noted.log.entries a.core.whole.bus app pipe own (subst (λ x. IsTrue (makes_entry (Look pipe) x)) (sym step_made) makes)))
      (λ other differ. apart-look app pipe other answer differ)
      (λ number is. ap (λ x. gets_from pipe (record { app = app; call = Look pipe; answer = x })) is ∙ same-self pipe)
      (noted_as a next app (Look pipe) told note left.pushed (note_seen told (view_at bag pipe)) as_seen)

pub made_delete : (a : Inside) (core : Plain) (next : NotedLog) (app pipe : ℕ) (result : Result (Unit {0}) SbStatus) (told : BusAnswer) (bag : Holding LentBytes) → HasBag core app bag →
    Left a core next app pipe (Delete pipe) (done result) told Nothing → Made a core next app (Delete pipe) (done result)
made_delete a core next app pipe result told bag has left =
    made_ending a core next app pipe (Delete pipe) (done result) told bag left.acts refl refl left.as_told (λ number. refl) left.loans left.descs left.unowned has
    (by_step a core app pipe left.stands (Delete pipe) (done result) left.acts (fares-delete a.core.limits a.noted.log.entries a.core.whole.bus app pipe))
    (done-nothing result (Delete pipe) 0) (λ other. refl) left.pushed
