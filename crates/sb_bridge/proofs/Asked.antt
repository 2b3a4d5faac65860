-- What one call of a port leaves of what is known of it.
use Rattle.std.proofs.Common.{◌≡◌, ◌⊎◌, inl, inr, ℕ, ◌+◌, ◌-◌, ◌<◌, ◌≤◌, ◌==◌, ◌&&◌, Bool, true, false, cond, eqb-true, nat_le, IsTrue, List, [], ◌∷◌, ◌++◌, length, map, append-nil, Option, Some, None, IfSome, refl, ap, sym, ◌∙◌, subst, arith, All}
use Rattle.std.specs.Option.{option_map, option_map_or, option_and_then}
use Rattle.std.proofs.lemmas.Bool.Decides.{nat_tests}
use Rattle.std.proofs.lemmas.List.{map-append}
use Rattle.std.proofs.lemmas.List.Elements.{All-nil, All-cons}
use Rattle.fsw_base.specs.declared.config.Budget.{Budget}
use Rattle.fsw_base.specs.Limits.{Limits}
use Rattle.journal_store.specs.declared.allowance.Allowance.{Allowance}
use Rattle.journal_store.specs.Budgets.{allowance_of}
use Rattle.bus_words.specs.declared.calls.BusAnswer.{BusAnswer}
use Rattle.bus_words.specs.declared.calls.BusAnswer.TheVariants.{Got, TimeOut, Pending}
use Rattle.bus_words.specs.declared.history.Call.{Call}
use Rattle.bus_words.specs.declared.history.Call.TheVariants.{Transmit}
use Rattle.bus_words.specs.declared.history.Entry.{Entry}
use Rattle.bus_words.specs.Alone.{Received, gets_from, last_of, last_received, receipts}
use Rattle.bus_words.specs.Bus.{Item, Pipe, State, Standing, Active, Waiting, opening, owns, pipe_at, standing_of}
use Rattle.bus_words.specs.Entries.{call_bytes}
use Rattle.bus_words.specs.Log.{left_of}
use Rattle.bus_words.specs.Machine.{IsLegal, may_call, state_after, step}
use Rattle.bus_words.specs.Pipes.{last_on}
use Rattle.bus_words.specs.Runs.{own_entries, standing_behind, standing_by}
use Rattle.bus_words.proofs.Finds.{both}
use Rattle.ccsds_msg.specs.Message.{IsMessage}
use Rattle.script_runs.proofs.OnlyMessages.{own_last-message}
use Rattle.bus_words.proofs.Isolation.{gives_newest}
use Rattle.bus_words.proofs.Journals.{length-left_of}
use Rattle.bus_words.proofs.OwnEntries.{left_by_own, state_further}
use Rattle.bus_words.proofs.OwnStandings.{stands_by_last}
use Rattle.bus_words.proofs.Steps.{AreNumbered-after}
use Rattle.bus_core.specs.Core.{is_within}
use Rattle.sb_calls.specs.Bags.{last_message}
use Rattle.sb_calls.specs.Core.{Core, IsLegalCore, MayCall, apps_of, state_of, with_noted}
use Rattle.sb_calls.specs.Notes.{note_due}
use Rattle.bus_service.specs.Ports.{Answers, AnswersLook, PortView}
use Rattle.sb_calls.specs.declared.results.Pended.TheVariants as looks
use Rattle.sb_bridge.proofs.OwnBudget.{left_by_mine}
use Rattle.sb_bridge.proofs.OwnPipe.{IsOnly, given_one, given_others, only-owned, owned_others}
use Rattle.sb_bridge.specs.Ports.{HasTaken, HasTimedOut, IsAt, IsOwn, IsSame, LacksRoom, Sends, WaitsStill, budget_of, given_in, one_more}
use Rattle.sb_bridge.specs.Calls.{bytes_in, calls_in}

-- ---- own entries

pub behind_last : (es : List Entry) (e : Entry) → standing_behind (es ++ e ∷ []) ≡ standing_by e.call e.answer
behind_last [] e = refl
behind_last (x ∷ []) e = refl
behind_last (x ∷ y ∷ es) e = behind_last (y ∷ es) e

pub all_own : (app : ℕ) (es : List Entry) → All (λ (e : Entry). e.app ≡ app) (own_entries app es)
all_own app [] = All-nil (λ (e : Entry). e.app ≡ app)
all_own app (x ∷ es) =
    elim (x.app == app) as (λ b. (x.app == app) ≡ b → All (λ (e : Entry). e.app ≡ app) (cond {A = List Entry} b (x ∷ own_entries app es) (own_entries app es))) [
      | true ↦ λ is. All-cons (λ (e : Entry). e.app ≡ app) x (own_entries app es) (eqb-true x.app app is) (all_own app es)
      | false ↦ λ is. all_own app es
    ] refl

-- what a port's application may still add: its budget less its own entries
pub left_is : (port : PortView) → IsOwn port →
    allowance_of (left_of port.seen.log) port.app ≡ record { entries = (budget_of port).entries - length port.mine; bytes = (budget_of port).bytes - bytes_in (calls_in port.mine) }
left_is port own =
    let budgets = port.seen.log.budgets in
    let mine = own_entries port.app port.seen.log.entries in
    sym (left_by_own port.seen.limits (apps_of port.seen) port.app port.seen.log own.legal own.some own.known)
    ∙ left_by_mine budgets port.app mine own.some own.known (all_own port.app port.seen.log.entries)
    ∙ ap (λ (es : List Entry). record { entries = (budget_of port).entries - length es; bytes = (budget_of port).bytes - bytes_in (map (λ (e : Entry). e.call) es) }) own.mine

pub standing_is : (port : PortView) → IsOwn port → standing_of (state_of port.seen) port.app ≡ standing_behind port.mine
standing_is port own = stands_by_last port.seen.limits (apps_of port.seen) port.app port.seen.log.entries own.legal own.some own.known ∙ ap standing_behind own.mine

-- so it may make a call for which its budget has an entry and the bytes
pub may_own : (port : PortView) → IsOwn port → (call : Call) → IsTrue (may_call (standing_behind port.mine) call) → length port.mine + 1 ≤ (budget_of port).entries →
    call_bytes call + bytes_in (calls_in port.mine) ≤ (budget_of port).bytes → IsTrue (is_within call) → MayCall port.seen port.app call
may_own port own call may entries bytes within =
    let left = left_is port own in
    record {
      known = own.known;
      standing = subst (λ (s : Standing). IsTrue (may_call s call)) (sym (standing_is port own)) may;
      room = record {
        known = omega (arith, own.known, length-left_of port.seen.log);
        one_entry = omega (arith, ap (λ (a : Allowance). a.entries) left, entries);
        its_bytes = omega (arith, ap (λ (a : Allowance). a.bytes) left, bytes);
      };
      within = within;
    }

-- a call that brings no bytes
pub may_plain : (port : PortView) → IsOwn port → (call : Call) → IsTrue (may_call (standing_behind port.mine) call) → length port.mine + 1 ≤ (budget_of port).entries → call_bytes call ≡ 0 →
    IsTrue (is_within call) → MayCall port.seen port.app call
may_plain port own call may entries none within =
    let left = left_is port own in
    record {
      known = own.known;
      standing = subst (λ (s : Standing). IsTrue (may_call s call)) (sym (standing_is port own)) may;
      room = record {
        known = omega (arith, own.known, length-left_of port.seen.log);
        one_entry = omega (arith, ap (λ (a : Allowance). a.entries) left, entries);
        its_bytes = omega (arith, none);
      };
      within = within;
    }

-- ---- one call

module _ (old new : PortView) (call : Call) (answer : BusAnswer) (own : IsOwn old) (made : Answers old new call answer) (recalled : own_entries new.app new.seen.log.entries ≡ new.mine) where
  abbrev entry : Entry
  entry = record { app = old.app; call = call; answer = answer }

  abbrev front : List Entry
  front = old.seen.log.entries ++ made.others.entries

  abbrev grown : Core
  grown =
      record {
        limits = old.seen.limits;
        log = record { budgets = old.seen.log.budgets; entries = front };
        notes = old.seen.notes ++ made.others.notes;
      }

  core_is : new.seen ≡ with_noted grown entry (note_due answer call made.does.name)
  core_is = made.does.entry ∙ ap (λ (core : Core). with_noted core entry (note_due answer call made.does.name)) made.others.grown

  pub same : IsSame old new
  same = record {
    lock = made.lock;
    app = made.app;
    limits = ap (λ (core : Core). core.limits) core_is;
    budgets = ap (λ (core : Core). core.log.budgets) core_is;
  }

  front_legal : IsLegal old.seen.limits (apps_of old.seen) front
  front_legal = subst IsLegalCore made.others.grown made.others.legal

  new_legal : IsLegal old.seen.limits (apps_of old.seen) (front ++ entry ∷ [])
  new_legal = subst IsLegalCore core_is made.does.legal

  pub own_still : IsOwn new
  own_still = record {
    some = subst (λ n. 1 ≤ n) (sym made.app) own.some;
    known = subst (λ n. n ≤ apps_of new.seen) (sym made.app) (subst (λ (bs : List Budget). old.app ≤ length bs) (sym same.budgets) own.known);
    legal = made.does.legal;
    mine = recalled;
  }

  pub stands : standing_behind new.mine ≡ standing_by call answer
  stands = ap standing_behind made.mine ∙ behind_last old.mine entry

  -- on a pipe that is its own
  module _ (p : ℕ) (owned : owns (state_of old.seen).pipes old.app p ≡ true) where
    only : IsOnly old.app p (state_of old.seen)
    only = only-owned (state_of old.seen) old.app p (AreNumbered-after old.seen.limits (apps_of old.seen) old.seen.log.entries) owned

    -- it gave what it had given, and what the call gives
    pub given : given_in new.seen p ≡ given_in old.seen p ++ map (λ (received : Received). received.message) (cond {A = List Received} (gets_from p entry) (last_received (state_of new.seen) p) [])
    given =
        let message : Received → List ℕ = λ received. received.message in
        let limits = old.seen.limits in
        let apps = apps_of old.seen in
        let more : State → List Received = λ s. cond {A = List Received} (gets_from p entry) (last_received s p) [] in
        ap (λ (core : Core). given_in core p) core_is
        ∙ ap (map message) (given_one limits apps p front entry)
        ∙ ap (λ (rs : List Received). map message (rs ++ more (state_after limits apps (front ++ entry ∷ [])))) (given_others limits apps old.app p old.seen.log.entries made.others.entries own.legal front_legal only made.others.by_others)
        ∙ map-append message (receipts limits apps p old.seen.log.entries) (more (state_after limits apps (front ++ entry ∷ [])))
        ∙ ap (λ (core : Core). given_in old.seen p ++ map message (more (state_of core))) (sym core_is)

    -- and is still its own, if the call leaves it
    pub owned_still : ((limits : Limits) (history : List Entry) (s : State) → owns ((step limits history s old.app call).1).pipes old.app p ≡ owns s.pipes old.app p) → owns (state_of new.seen).pipes new.app p ≡ true
    owned_still leaves =
        let limits = old.seen.limits in
        let apps = apps_of old.seen in
        ap (λ n. owns (state_of new.seen).pipes n p) made.app
        ∙ ap (λ (core : Core). owns (state_of core).pipes old.app p) core_is
        ∙ ap (λ (t : State). owns t.pipes old.app p) (state_further limits [] (opening limits apps) front (entry ∷ []))
        ∙ leaves limits front (state_after limits apps front)
        ∙ owned_others limits apps old.app p old.seen.log.entries made.others.entries own.legal front_legal made.others.by_others
        ∙ owned

-- ---- what a pipe gives is its last message

received_last : (found : Option Pipe) (message : Received) → option_map_or (λ (pipe : Pipe). last_of pipe.last) found [] ≡ message ∷ [] →
    option_map (λ (item : Item). item.message) (option_and_then (λ (pipe : Pipe). pipe.last) found) ≡ Some message.message
received_last None message is = absurd (cc is)
received_last (Some pipe) message is = of_last pipe.last is
  where
    of_last : (last : Option Item) → last_of last ≡ message ∷ [] → option_map (λ (item : Item). item.message) last ≡ Some message.message
    of_last None is = absurd (cc is)
    of_last (Some item) is = let same : item.message ≡ message.message = cc is in ap Some same

last_is : (s : State) (app p : ℕ) (message : Received) → owns s.pipes app p ≡ true → last_received s p ≡ message ∷ [] → last_message s app p ≡ Some message.message
last_is s app p message owned last =
    ap (λ b. cond {A = Option (List ℕ)} b (option_map (λ (item : Item). item.message) (last_on s.pipes p)) None) owned
    ∙ received_last (pipe_at s.pipes p) message last

-- ---- a wait or a look

module _ (p : ℕ) (old new : PortView) (call : Call) (at : IsAt p old)
    (leaves : (limits : Limits) (history : List Entry) (s : State) → owns ((step limits history s old.app call).1).pipes old.app p ≡ owns s.pipes old.app p) where
  pub took : (number : ℕ) → Answers old new call (Got number) → own_entries new.app new.seen.log.entries ≡ new.mine → gets_from p (record { app = old.app; call = call; answer = Got number }) ≡ true →
      standing_by call (Got number) ≡ Active → HasTaken p old new call
  took number made recalled gets active =
      let e : Entry = record { app = old.app; call = call; answer = Got number } in
      let history = old.seen.log.entries ++ made.others.entries in
      let gives = gives_newest old.seen.limits (apps_of old.seen) p history e (new_legal old new call (Got number) at.own made recalled) gets in
      let core = core_is old new call (Got number) at.own made recalled in
      let last : last_received (state_of new.seen) p ≡ gives.0 ∷ [] = ap (λ (c : Core). last_received (state_of c) p) core ∙ gives.1.last in
      let owned = owned_still old new call (Got number) at.own made recalled p at.owned leaves in
      record {
        same = same old new call (Got number) at.own made recalled;
        at = record { own = own_still old new call (Got number) at.own made recalled; owned = owned };
        active = stands old new call (Got number) at.own made recalled ∙ active;
        number = number;
        mine = made.mine;
        message = gives.0.message;
        given =
            given old new call (Got number) at.own made recalled p at.owned
            ∙ ap (λ b. given_in old.seen p ++ map (λ (received : Received). received.message) (cond {A = List Received} b (last_received (state_of new.seen) p) [])) gets
            ∙ ap (λ (rs : List Received). given_in old.seen p ++ map (λ (received : Received). received.message) rs) last;
        last = last_is (state_of new.seen) new.app p gives.0 owned last;
      }

  pub timed-out : Answers old new call TimeOut → own_entries new.app new.seen.log.entries ≡ new.mine → gets_from p (record { app = old.app; call = call; answer = TimeOut }) ≡ false →
      standing_by call TimeOut ≡ Active → HasTimedOut p old new call
  timed-out made recalled none active = record {
    same = same old new call TimeOut at.own made recalled;
    at = record { own = own_still old new call TimeOut at.own made recalled; owned = owned_still old new call TimeOut at.own made recalled p at.owned leaves };
    active = stands old new call TimeOut at.own made recalled ∙ active;
    mine = made.mine;
    given =
        given old new call TimeOut at.own made recalled p at.owned
        ∙ ap (λ b. given_in old.seen p ++ map (λ (received : Received). received.message) (cond {A = List Received} b (last_received (state_of new.seen) p) [])) none
        ∙ append-nil (given_in old.seen p);
  }

  pub left-waiting : Answers old new call Pending → own_entries new.app new.seen.log.entries ≡ new.mine → gets_from p (record { app = old.app; call = call; answer = Pending }) ≡ false →
      standing_by call Pending ≡ Waiting p → WaitsStill p old new (one_more old call Pending)
  left-waiting made recalled none waiting = record {
    same = same old new call Pending at.own made recalled;
    at = record { own = own_still old new call Pending at.own made recalled; owned = owned_still old new call Pending at.own made recalled p at.owned leaves };
    waiting = stands old new call Pending at.own made recalled ∙ waiting;
    mine_is = made.mine;
    given =
        given old new call Pending at.own made recalled p at.owned
        ∙ ap (λ b. given_in old.seen p ++ map (λ (received : Received). received.message) (cond {A = List Received} b (last_received (state_of new.seen) p) [])) none
        ∙ append-nil (given_in old.seen p);
  }

-- a look that finds nothing adds no entry
pub looked-in-vain : (p : ℕ) (first old new : PortView) (mine : List Entry) → WaitsStill p first old mine → AnswersLook old new p looks.Pending → own_entries new.app new.seen.log.entries ≡ new.mine →
    WaitsStill p first new mine
looked-in-vain p first old new mine was made recalled =
    let grown : Core = record { limits = old.seen.limits; log = record { budgets = old.seen.log.budgets; entries = old.seen.log.entries ++ made.others.entries }; notes = old.seen.notes ++ made.others.notes } in
    let core : new.seen ≡ grown = made.does.0 ∙ made.others.grown in
    let own = was.at.own in
    let limits = old.seen.limits in
    let apps = apps_of old.seen in
    let legal : IsLegal limits apps (old.seen.log.entries ++ made.others.entries) = subst IsLegalCore made.others.grown made.others.legal in
    let same_mine : new.mine ≡ old.mine = made.mine ∙ append-nil old.mine in
    let budgets : new.seen.log.budgets ≡ old.seen.log.budgets = ap (λ (c : Core). c.log.budgets) core in
    let only = only-owned (state_of old.seen) old.app p (AreNumbered-after limits apps old.seen.log.entries) was.at.owned in
    record {
      same = record {
        lock = made.lock ∙ was.same.lock;
        app = made.app ∙ was.same.app;
        limits = ap (λ (c : Core). c.limits) core ∙ was.same.limits;
        budgets = budgets ∙ was.same.budgets;
      };
      at = record {
        own = record {
          some = subst (λ n. 1 ≤ n) (sym made.app) own.some;
          known = subst (λ n. n ≤ apps_of new.seen) (sym made.app) (subst (λ (bs : List Budget). old.app ≤ length bs) (sym budgets) own.known);
          legal = subst IsLegalCore (sym core) legal;
          mine = recalled;
        };
        owned =
            ap (λ n. owns (state_of new.seen).pipes n p) made.app
            ∙ ap (λ (c : Core). owns (state_of c).pipes old.app p) core
            ∙ owned_others limits apps old.app p old.seen.log.entries made.others.entries own.legal legal made.others.by_others
            ∙ was.at.owned;
      };
      waiting = ap standing_behind same_mine ∙ was.waiting;
      mine_is = same_mine ∙ was.mine_is;
      given =
          ap (λ (c : Core). given_in c p) core
          ∙ ap (map (λ (received : Received). received.message)) (given_others limits apps old.app p old.seen.log.entries made.others.entries own.legal legal only made.others.by_others)
          ∙ was.given;
    }

-- ---- a send

-- as the test of room tells it
abbrev pub has_room : PortView → ℕ → Bool
has_room port size = nat_le 2 (allowance_of (left_of port.seen.log) port.app).entries && nat_le size (allowance_of (left_of port.seen.log) port.app).bytes

le_true : (m n : ℕ) → nat_le m n ≡ true → m ≤ n
le_true m n is = grind (arith, nat_tests, is)

le_false : (m n : ℕ) → nat_le m n ≡ false → n < m
le_false m n is = grind (arith, nat_tests, is)

true_le : (m n : ℕ) → m ≤ n → nat_le m n ≡ true
true_le m n is = grind (arith, nat_tests, is)

pub may_send : (port : PortView) → IsOwn port → standing_behind port.mine ≡ Active → (message : List ℕ) → length message ≤ 65542 → has_room port (length message) ≡ true → MayCall port.seen port.app (Transmit message false)
may_send port own active message short room =
    let left = allowance_of (left_of port.seen.log) port.app in
    let tests = both (nat_le 2 left.entries) (nat_le (length message) left.bytes) room in
    let entries = le_true 2 left.entries tests.0 in
    record {
      known = own.known;
      standing = subst (λ (s : Standing). IsTrue (may_call s (Transmit message false))) (sym (standing_is port own ∙ active)) refl;
      room = record {
        known = omega (arith, own.known, length-left_of port.seen.log);
        one_entry = omega (arith, entries);
        its_bytes = le_true (length message) left.bytes tests.1;
      };
      within = true_le (length message) 65542 short;
    }

pub sends-one : (old new : PortView) (message : List ℕ) (answer : BusAnswer) → IsOwn old → Answers old new (Transmit message false) answer → own_entries new.app new.seen.log.entries ≡ new.mine → has_room old (length message) ≡ true →
    Sends message old new
sends-one old new message answer own made recalled room =
    let left = allowance_of (left_of old.seen.log) old.app in
    let entries = le_true 2 left.entries (both (nat_le 2 left.entries) (nat_le (length message) left.bytes) room).0 in
    record {
      same = same old new (Transmit message false) answer own made recalled;
      own = own_still old new (Transmit message false) answer own made recalled;
      active = stands old new (Transmit message false) answer own made recalled;
      answer = answer;
      mine = made.mine;
      spare = omega (arith, entries, ap (λ (a : Allowance). a.entries) (left_is old own));
    }

pub lacks-room : (port : PortView) (message : List ℕ) → IsOwn port → has_room port (length message) ≡ false → LacksRoom message port port
lacks-room port message own none =
    let left = allowance_of (left_of port.seen.log) port.app in
    let is = left_is port own in
    record {
      unchanged = refl;
      lacks =
          elim (nat_le 2 left.entries) as (λ b. nat_le 2 left.entries ≡ b → (b && nat_le (length message) left.bytes) ≡ false → ((budget_of port).entries ≤ length port.mine + 1) ⊎ ((budget_of port).bytes < bytes_in (calls_in port.mine) + length message)) [
            | true ↦ λ some long. inr (let more = le_false (length message) left.bytes long in omega (arith, more, ap (λ (a : Allowance). a.bytes) is))
            | false ↦ λ few any. inl (let less = le_false 2 left.entries few in omega (arith, less, ap (λ (a : Allowance). a.entries) is))
          ] refl none;
    }

-- what is received is a message
short_item : (found : Option Item) (message : List ℕ) → IfSome found (λ item. IsMessage item.message) → option_map (λ (item : Item). item.message) found ≡ Some message → IsMessage message
short_item None message is same = absurd (cc same)
short_item (Some item) message is same = let it : item.message ≡ message = cc same in subst IsMessage it is

pub message_last : (limits : Limits) (apps : ℕ) (history : List Entry) (app p : ℕ) (message : List ℕ) → last_message (state_after limits apps history) app p ≡ Some message → IsMessage message
message_last limits apps history app p message last =
    let pipes = (state_after limits apps history).pipes in
    (elim (owns pipes app p) as (λ b. IfSome (cond {A = Option Item} b (last_on pipes p) None) (λ item. IsMessage item.message) → cond {A = Option (List ℕ)} b (option_map (λ (item : Item). item.message) (last_on pipes p)) None ≡ Some message → IsMessage message) [
      | true ↦ λ is same. short_item (last_on pipes p) message is same
      | false ↦ λ is same. absurd (cc same)
    ] (own_last-message limits apps history app p) last)
