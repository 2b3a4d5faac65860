-- The message that a receive gives is the pipe's last one then.
use Rattle.std.proofs.Common.{◌≡◌, ℕ, Bool, true, false, ◌&&◌, ◌||◌, not, cond, eqb, List, [], ◌∷◌, Option, Some, None, IsSome, length, Result, Ok, Err, IfOk, Bor, true≢false, refl, ap, sym, ◌∙◌, subst}
use Rattle.std.specs.Option.{option_map, option_map_or, option_and_then}
use Rattle.fsw_base.specs.Limits.{Limits}
use Rattle.fsw_base.specs.declared.statuses.SbStatus.{SbStatus}
use Rattle.fsw_base.specs.declared.statuses.SbStatus.TheVariants.{BadArgument, NoMessage}
use Rattle.bus_words.specs.declared.calls.BusAnswer.{BusAnswer}
use Rattle.bus_words.specs.declared.calls.BusAnswer.TheVariants.{Got}
use Rattle.bus_words.specs.declared.history.Call.TheVariants.{Receive}
use Rattle.bus_words.specs.Bus.{Item, Pipe, State, pipe_at, owns, with_pipe, oldest, after_receive, is_empty}
use Rattle.bus_words.specs.Acts.{Whole, reads_in}
use Rattle.bus_words.specs.Pipes.{last_on}
use Rattle.bus_words.specs.Machine.{Reads, step_with, decided_with, recorded, by_bus, refused_if}
use Rattle.lend_block.specs.Loan.{LentBytes}
use Rattle.buf_desc.specs.Held.{Holding, view_at}
use Rattle.bus_core.specs.Core.{Plain, Acts}
use Rattle.bus_core.specs.Answers.{got}
use Rattle.bus_core.specs.Bags.{HasBag}
use Rattle.checked_bus.specs.Box.{last_message}
use Rattle.checked_bus.proofs.Shown.{bytes_due}

-- a receive takes no pipe from its owner
owns_received : (number : ℕ) (pipes : List Pipe) (app other : ℕ) → owns (with_pipe after_receive number pipes) app other ≡ owns pipes app other
owns_received number [] app other = refl
owns_received number (pipe ∷ pipes) app other =
    ap (λ b. b || owns (with_pipe after_receive number pipes) app other) (by_test (eqb pipe.number number))
    ∙ ap (λ b. (eqb pipe.number other && eqb pipe.owner app) || b) (owns_received number pipes app other)
  where
    by_test : (b : Bool) → (eqb (cond {A = Pipe} b (after_receive pipe) pipe).number other && eqb (cond {A = Pipe} b (after_receive pipe) pipe).owner app) ≡ (eqb pipe.number other && eqb pipe.owner app)
    by_test true = refl
    by_test false = refl

-- if something waits there is a last message afterwards
last_received : (pipes : List Pipe) (number : ℕ) → is_empty pipes number ≡ false → IsSome (last_on (with_pipe after_receive number pipes) number)
last_received [] number never = absurd (true≢false never)
last_received (pipe ∷ pipes) number is = by_number (eqb pipe.number number) refl (last_received pipes number) is
  where
    filled : (queue : List Item) → eqb (length queue) 0 ≡ false → IsSome (oldest queue)
    filled [] never = absurd (true≢false never)
    filled (item ∷ queue) is = refl

    left : Bool → Pipe
    left b = cond {A = Pipe} b (after_receive pipe) pipe

    last_by : Bool → Pipe → Option Item
    last_by b first = option_and_then (λ (p : Pipe). p.last) (cond {A = Option Pipe} b (Some first) (pipe_at (with_pipe after_receive number pipes) number))

    by_number : (b : Bool) → eqb pipe.number number ≡ b → (is_empty pipes number ≡ false → IsSome (last_on (with_pipe after_receive number pipes) number)) →
        option_map_or (λ (p : Pipe). eqb (length p.queue) 0) (cond {A = Option Pipe} b (Some pipe) (pipe_at pipes number)) true ≡ false →
        IsSome (last_by (eqb (left b).number number) (left b))
    by_number true same ih some = subst (λ (b : Bool). IsSome (last_by b (after_receive pipe))) (sym same) (filled pipe.queue some)
    by_number false other ih some = subst (λ (b : Bool). IsSome (last_by b pipe)) (sym other) (ih some)

received_last : (reads : Reads) (limits : Limits) (s t : State) (app pipe n : ℕ) → step_with reads limits s app (Receive pipe) ≡ (Got n, t) → (owns t.pipes app pipe ≡ true) × IsSome (last_on t.pipes pipe)
received_last reads limits s t app pipe n made = by_tests (owns s.pipes app pipe) (is_empty s.pipes pipe) refl refl
  where
    told : Bool → Bool → BusAnswer × State
    told own empty = recorded limits s app (Receive pipe) (decided_with reads limits s app (Receive pipe) (by_bus (refused_if (not own) BadArgument (refused_if empty NoMessage None))))

    by_tests : (own empty : Bool) → owns s.pipes app pipe ≡ own → is_empty s.pipes pipe ≡ empty → (owns t.pipes app pipe ≡ true) × IsSome (last_on t.pipes pipe)
    by_tests false empty own_is empty_is = absurd (cc (ap (λ (p : BusAnswer × State). p.0) (sym (ap (λ o. told o (is_empty s.pipes pipe)) own_is) ∙ made)))
    by_tests true true own_is empty_is = absurd (cc (ap (λ (p : BusAnswer × State). p.0) (sym (ap (λ o. told o (is_empty s.pipes pipe)) own_is ∙ ap (told true) empty_is) ∙ made)))
    by_tests true false own_is empty_is =
        let pipes : with_pipe after_receive pipe s.pipes ≡ t.pipes = ap (λ (p : BusAnswer × State). p.1.pipes) (sym (ap (λ o. told o (is_empty s.pipes pipe)) own_is ∙ ap (told true) empty_is) ∙ made) in
        subst (λ (rows : List Pipe). (owns rows app pipe ≡ true) × IsSome (last_on rows pipe)) pipes (owns_received pipe s.pipes app pipe ∙ own_is, last_received s.pipes pipe empty_is)

there_mapped : (last : Option Item) → IsSome last → IsSome (option_map (λ (item : Item). item.message) last)
there_mapped None never = never
there_mapped (Some item) is = refl

-- after an accepted receive
pub last_there : (old new : Plain) (app pipe : ℕ) (answer : Result ℕ SbStatus) → Acts old new app (Receive pipe) (got answer) → IfOk answer (λ number. IsSome (last_message new app pipe))
last_there old new app pipe (Err status) acts = tt
last_there old new app pipe (Ok number) acts =
    let last = last_on new.whole.bus.pipes pipe in
    let it = received_last (reads_in old.whole) old.limits old.whole.bus new.whole.bus app pipe number (ap (λ (m : BusAnswer × Whole). (m.0, m.1.bus)) acts.made) in
    subst (λ (own : Bool). IsSome (cond {A = Option (List ℕ)} own (option_map (λ (item : Item). item.message) last) None)) (sym it.0) (there_mapped last it.1)

-- What a bag's view shows. --

pub seen_last : (core : Plain) (app pipe : ℕ) (bag : Holding LentBytes) → HasBag core app bag → option_map (λ (view : LentBytes). view.bytes) (view_at bag pipe) ≡ last_message core app pipe
seen_last core app pipe bag has = ap (option_map (λ (view : LentBytes). view.bytes)) (has.views.seen pipe) ∙ bytes_due core app pipe

pub view_there : (found : Option (Bor LentBytes)) (last : Option (List ℕ)) → option_map (λ (view : LentBytes). view.bytes) (option_map (λ (v : Bor LentBytes). v.now) found) ≡ last → IsSome last → IsSome found
view_there None last same is = subst IsSome (sym same) is
view_there (Some view) last same is = refl

pub last_seen : (found : Option (Bor LentBytes)) (view : Bor LentBytes) (last : Option (List ℕ)) → found ≡ Some view → option_map (λ (view : LentBytes). view.bytes) (option_map (λ (v : Bor LentBytes). v.now) found) ≡ last →
    last ≡ Some view.now.bytes
last_seen found view last is same =
    sym same ∙ ap (λ (o : Option (Bor LentBytes)). option_map (λ (view : LentBytes). view.bytes) (option_map (λ (v : Bor LentBytes). v.now) o)) is

pub length_shown : (len : ℕ) (bytes : List ℕ) (last : Option (List ℕ)) → len ≡ length bytes → last ≡ Some bytes → Some len ≡ option_map (λ (bytes : List ℕ). length bytes) last
length_shown len bytes last as_long is = ap Some as_long ∙ sym (ap (option_map (λ (bytes : List ℕ). length bytes)) is)
