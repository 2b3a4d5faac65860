-- What an application gets from a pipe is what the pipe alone gives.
use Rattle.std.proofs.Common.{◌≡◌, ℕ, Bool, true, false, cond, eqb, Result, Ok, List, [], ◌∷◌, ◌++◌, find, Option, Some, None, IsTrue, refl, ap, sym, ◌∙◌, subst, arith}
use Rattle.std.specs.Option.{option_map, option_map_or, option_and_then}
use Rattle.std.proofs.lemmas.Bool.Decides.{nat_tests}
use Rattle.fsw_base.specs.declared.statuses.SbStatus.{SbStatus}
use Rattle.lend_block.specs.Loan.{LentBytes}
use Rattle.buf_desc.specs.Held.{Holding}
use Rattle.bus_words.specs.declared.calls.BusAnswer.{BusAnswer}
use Rattle.bus_words.specs.declared.calls.BusAnswer.TheVariants.{Got}
use Rattle.bus_words.specs.declared.history.Call.{Call}
use Rattle.bus_words.specs.declared.history.Call.TheVariants.{Receive, Pend, Look}
use Rattle.bus_words.specs.declared.history.Entry.{Entry}
use Rattle.bus_words.specs.Alone.{Received, gets_from}
use Rattle.bus_words.specs.Alone as alone
use Rattle.bus_words.specs.Bus.{Item, Pipe, State, opening, owns, pipe_at}
use Rattle.bus_words.specs.Machine.{IsLegal, makes_entry, step}
use Rattle.bus_words.proofs.Isolation.{gives_newest, stands_alone}
use Rattle.bus_words.proofs.LegalSteps.{AreWaiters-after, legal-last}
use Rattle.bus_words.specs.Pipes.{last_on}
use Rattle.bus_messages.specs.Words.{loan_of}
use Rattle.sb_calls.specs.declared.results.Pended.{Pended}
use Rattle.sb_calls.specs.declared.results.Pended.TheVariants as waits
use Rattle.bus_core.specs.Answers.{got}
use Rattle.sb_calls.specs.Answers.{pended}
use Rattle.sb_calls.specs.Bags.{HasBag, loans_of, last_message}
use Rattle.sb_calls.specs.Core.{Core, Does, Looks, GotAlone, StandAlone, IsLegalCore, apps_of, state_of}
use Rattle.sb_calls.specs.Views.{bytes_seen}
use Rattle.sb_calls.proofs.Fares.{Fares, waits_own, still_own, fares-receive, fares-pend, fares-look}

itself : (n : ℕ) → eqb n n ≡ true
itself n = grind (arith, nat_tests)

-- what the bag shows of a pipe of the application's
pub shown : (core : Core) (app pipe : ℕ) (bag : Holding LentBytes) → HasBag core app bag → bytes_seen bag pipe ≡ last_message (state_of core) app pipe
shown core app pipe bag has =
    ap (λ v. option_map (λ (view : LentBytes). view.bytes) v) (has.views.seen pipe) ∙ by_owner (owns (state_of core).pipes app pipe) (last_on (state_of core).pipes pipe)
  where
    by_owner : (own : Bool) (last : Option Item) →
        option_map (λ (view : LentBytes). view.bytes) (cond {A = Option LentBytes} own (option_map (λ (item : Item). record { loan = loan_of (loans_of core) pipe; bytes = item.message }) last) None)
        ≡ cond {A = Option (List ℕ)} own (option_map (λ (item : Item). item.message) last) None
    by_owner true None = refl
    by_owner true (Some item) = refl
    by_owner false last = refl

-- the pipe's last message, as a list of at most one, is one of at most one
newest-last : (pipes : List Pipe) (pipe : ℕ) (message : Received) → option_map_or (λ (x : Pipe). alone.last_of x.last) (pipe_at pipes pipe) [] ≡ message ∷ [] →
    option_map (λ (item : Item). item.message) (last_on pipes pipe) ≡ Some message.message
newest-last pipes pipe message is = by_pipe (pipe_at pipes pipe) is
  where
    by_last : (last : Option Item) → alone.last_of last ≡ message ∷ [] → option_map (λ (item : Item). item.message) last ≡ Some message.message
    by_last None is = absurd (cc (is))
    by_last (Some item) is = ap (λ (xs : List Received). option_map (λ (x : Received). x.message) (find (λ (x : Received). true) xs)) is

    by_pipe : (found : Option Pipe) → option_map_or (λ (x : Pipe). alone.last_of x.last) found [] ≡ message ∷ [] →
        option_map (λ (item : Item). item.message) (option_and_then (λ (x : Pipe). x.last) found) ≡ Some message.message
    by_pipe None is = absurd (cc (is))
    by_pipe (Some found) is = by_last found.last is

got_alone : (old new : Core) (app pipe : ℕ) (call : Call) (number : ℕ) (bag : Holding LentBytes) → gets_from pipe (record { app = app; call = call; answer = Got number }) ≡ true →
    Does old new app call (Got number) → owns (state_of new).pipes app pipe ≡ true → HasBag new app bag → GotAlone old app pipe call number bag
got_alone old new app pipe call number bag gets does own has =
    let e : Entry = record { app = app; call = call; answer = Got number } in
    let P : Core → Type 0 = λ c. IsLegalCore c in
    let legal : IsLegal old.limits (apps_of old) (old.log.entries ++ e ∷ []) = subst P does.entry does.legal in
    let given = gives_newest old.limits (apps_of old) pipe old.log.entries e legal gets in
    let last : option_map_or (λ (x : Pipe). alone.last_of x.last) (pipe_at (state_of new).pipes pipe) [] ≡ given.0 ∷ [] =
    ap (λ (c : Core). option_map_or (λ (x : Pipe). alone.last_of x.last) (pipe_at (state_of c).pipes pipe) []) does.entry ∙ given.1.last in
    let seen = shown new app pipe bag has
    ∙ ap (λ b. cond {A = Option (List ℕ)} b (option_map (λ (item : Item). item.message) (last_on (state_of new).pipes pipe)) None) own
    ∙ newest-last (state_of new).pipes pipe given.0 last in
    (given.0, sym (cc (given.1.answer)), seen, given.1)

-- the pipe that gave a message is the application's then
owned : (old new : Core) (app pipe : ℕ) (call : Call) (number : ℕ) → Does old new app call (Got number) → gets_from pipe (record { app = app; call = call; answer = Got number }) ≡ true →
    (let made = step old.limits old.log.entries (state_of old) app call in
    Fares (state_of old).pipes made.1.pipes app pipe (gets_from pipe (record { app = app; call = call; answer = made.0 }))) →
    owns (state_of new).pipes app pipe ≡ true
owned old new app pipe call number does gets fares =
    let made = step old.limits old.log.entries (state_of old) app call in
    ap (λ (s : State). owns s.pipes app pipe) does.state
    ∙ still_own (state_of old).pipes made.1.pipes app pipe _ fares (ap (λ (x : BusAnswer). gets_from pipe (record { app = app; call = call; answer = x })) (sym does.as_machine) ∙ gets)

-- by a receive
pub received_alone : (old new : Core) (app pipe : ℕ) (result : Result ℕ SbStatus) (bag : Holding LentBytes) (number : ℕ) → result ≡ Ok number → Does old new app (Receive pipe) (got result) → HasBag new app bag →
    GotAlone old app pipe (Receive pipe) number bag
received_alone old new app pipe result bag number is does has =
    let P : Result ℕ SbStatus → Type 0 = λ r. Does old new app (Receive pipe) (got r) in
    let did : Does old new app (Receive pipe) (Got number) = subst P is does in
    got_alone old new app pipe (Receive pipe) number bag (itself pipe) did
    (owned old new app pipe (Receive pipe) number did (itself pipe) (fares-receive old.limits old.log.entries (state_of old) app pipe)) has

-- by one that may wait
pub pended_alone : (old new : Core) (app pipe : ℕ) (result : Result Pended SbStatus) (bag : Holding LentBytes) (number : ℕ) → result ≡ Ok (waits.Got number) → Does old new app (Pend pipe) (pended result) → HasBag new app bag →
    GotAlone old app pipe (Pend pipe) number bag
pended_alone old new app pipe result bag number is does has =
    let P : Result Pended SbStatus → Type 0 = λ r. Does old new app (Pend pipe) (pended r) in
    let did : Does old new app (Pend pipe) (Got number) = subst P is does in
    got_alone old new app pipe (Pend pipe) number bag (itself pipe) did
    (owned old new app pipe (Pend pipe) number did (itself pipe) (fares-pend old.limits old.log.entries (state_of old) app pipe)) has

-- and by a look
pub looked_alone : (old new : Core) (app pipe : ℕ) (answer : Pended) (bag : Holding LentBytes) (number : ℕ) → answer ≡ waits.Got number → Looks old new app pipe answer → HasBag new app bag →
    GotAlone old app pipe (Look pipe) number bag
looked_alone old new app pipe answer bag number is looks has =
    let P : Pended → Type 0 = λ a. Looks old new app pipe a in
    let did : Does old new app (Look pipe) (Got number) = subst P is looks in
    let e : Entry = record { app = app; call = Look pipe; answer = Got number } in
    let L : Core → Type 0 = λ c. IsLegalCore c in
    let legal : IsLegal old.limits (apps_of old) (old.log.entries ++ e ∷ []) = subst L did.entry did.legal in
    let parts = legal-last old.limits [] (opening old.limits (apps_of old)) old.log.entries e legal in
    let own = waits_own (state_of old) app pipe (AreWaiters-after old.limits (apps_of old) old.log.entries parts.0) parts.1 in
    let makes : IsTrue (makes_entry (Look pipe) ((step old.limits old.log.entries (state_of old) app (Look pipe)).0)) = subst (λ (x : BusAnswer). IsTrue (makes_entry (Look pipe) x)) did.as_machine refl in
    got_alone old new app pipe (Look pipe) number bag (itself pipe) did
    (owned old new app pipe (Look pipe) number did (itself pipe) (fares-look old.limits old.log.entries (state_of old) app pipe own makes)) has

-- and each pipe so far
pub all_alone : (core : Core) → IsLegalCore core → StandAlone core
all_alone core legal pipe = stands_alone core.limits (apps_of core) pipe core.log.entries legal
