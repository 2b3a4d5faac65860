-- A pipe from which messages are received until there are none.
use Rattle.std.proofs.Common.{◌≡◌, ℕ, ◌+◌, Bool, true, false, not, ◌&&◌, ◌||◌, cond, eqb, List, [], ◌∷◌, length, drop, filter, Option, Some, None, refl, ap, sym, ◌∙◌, arith}
use Rattle.std.specs.Option.{option_map, option_map_or, option_and_then}
use Rattle.fsw_base.specs.PoolAccounts.{Account}
use Rattle.bus_words.specs.Bus.{Item, Pipe, pipe_at, owns, with_pipe, oldest, after_receive}
use Rattle.bus_messages.specs.Store.{Store}
use Rattle.bus_messages.proofs.Accounts.{OutAlone, alone_as}
use Rattle.bus_words.specs.Pipes.{oldest_on, last_on}
use Rattle.bus_messages.specs.Words.{waiting_on, with_held}

-- The pipes. --

-- the pipe of the number is the one that changed
pipe_at-received : (number : ℕ) (pipes : List Pipe) → pipe_at (with_pipe after_receive number pipes) number ≡ option_map after_receive (pipe_at pipes number)
pipe_at-received number [] = refl
pipe_at-received number (pipe ∷ pipes) = choose (eqb pipe.number number) refl (pipe_at-received number pipes)
  where
    others : List Pipe
    others = with_pipe after_receive number pipes

    choose : (b : Bool) → eqb pipe.number number ≡ b → pipe_at others number ≡ option_map after_receive (pipe_at pipes number) →
        cond {A = Option Pipe} (eqb (cond {A = Pipe} b (after_receive pipe) pipe).number number) (Some (cond {A = Pipe} b (after_receive pipe) pipe)) (pipe_at others number)
        ≡ option_map after_receive (cond {A = Option Pipe} b (Some pipe) (pipe_at pipes number))
    choose true e ih = ap (λ c. cond {A = Option Pipe} c (Some (after_receive pipe)) (pipe_at others number)) e
    choose false e ih = ap (λ c. cond {A = Option Pipe} c (Some pipe) (pipe_at others number)) e ∙ ih

-- the pipes of other numbers stay
others_stay : (number : ℕ) (pipes : List Pipe) → filter (λ (p : Pipe). not (eqb p.number number)) (with_pipe after_receive number pipes) ≡ filter (λ (p : Pipe). not (eqb p.number number)) pipes
others_stay number [] = refl
others_stay number (pipe ∷ pipes) = choose (eqb pipe.number number) refl (others_stay number pipes)
  where
    other : Pipe → Bool
    other p = not (eqb p.number number)

    changed : List Pipe
    changed = with_pipe after_receive number pipes

    choose : (b : Bool) → eqb pipe.number number ≡ b → filter other changed ≡ filter other pipes →
        cond {A = List Pipe} (other (cond {A = Pipe} b (after_receive pipe) pipe)) (cond {A = Pipe} b (after_receive pipe) pipe ∷ filter other changed) (filter other changed)
        ≡ cond {A = List Pipe} (not b) (pipe ∷ filter other pipes) (filter other pipes)
    choose true e ih = ap (λ c. cond {A = List Pipe} (not c) (after_receive pipe ∷ filter other changed) (filter other changed)) e ∙ ih
    choose false e ih = ap (λ c. cond {A = List Pipe} (not c) (pipe ∷ filter other changed) (filter other changed)) e ∙ ap (λ l. pipe ∷ l) ih

-- whose they are stays
owns-received : (number : ℕ) (pipes : List Pipe) (app other : ℕ) → owns (with_pipe after_receive number pipes) app other ≡ owns pipes app other
owns-received number [] app other = refl
owns-received number (pipe ∷ pipes) app other =
    ap (λ b. b || owns (with_pipe after_receive number pipes) app other) (by_test (eqb pipe.number number))
    ∙ ap (λ b. (eqb pipe.number other && eqb pipe.owner app) || b) (owns-received number pipes app other)
  where
    by_test : (b : Bool) → (eqb (cond {A = Pipe} b (after_receive pipe) pipe).number other && eqb (cond {A = Pipe} b (after_receive pipe) pipe).owner app) ≡ (eqb pipe.number other && eqb pipe.owner app)
    by_test true = refl
    by_test false = refl

-- What waits. --

-- one fewer waits, if one did
fewer_wait : (pipes : List Pipe) (number n : ℕ) → option_map (λ (i : Item). i.number) (oldest_on pipes number) ≡ Some n → waiting_on (with_pipe after_receive number pipes) number + 1 ≡ waiting_on pipes number
fewer_wait pipes number n is = ap (λ o. option_map_or {U = ℕ} (λ (p : Pipe). length p.queue) o 0 + 1) (pipe_at-received number pipes) ∙ by_pipe (pipe_at pipes number) is
  where
    by_queue : (queue : List Item) → option_map (λ (i : Item). i.number) (oldest queue) ≡ Some n → length (drop 1 queue) + 1 ≡ length queue
    by_queue [] e = absurd (cc (e))
    by_queue (i ∷ queue) e = omega arith

    by_pipe : (o : Option Pipe) → option_map (λ (i : Item). i.number) (option_and_then (λ (p : Pipe). oldest p.queue) o) ≡ Some n →
        option_map_or {U = ℕ} (λ (p : Pipe). length p.queue) (option_map after_receive o) 0 + 1 ≡ option_map_or {U = ℕ} (λ (p : Pipe). length p.queue) o 0
    by_pipe None e = absurd (cc (e))
    by_pipe (Some p) e = by_queue p.queue e

-- none waits, if none did
none_waits : (pipes : List Pipe) (number : ℕ) → option_map (λ (i : Item). i.number) (oldest_on pipes number) ≡ None → oldest_on (with_pipe after_receive number pipes) number ≡ None
none_waits pipes number none = ap (option_and_then (λ (p : Pipe). oldest p.queue)) (pipe_at-received number pipes) ∙ by_pipe (pipe_at pipes number) none
  where
    by_queue : (queue : List Item) → option_map (λ (i : Item). i.number) (oldest queue) ≡ None → oldest (drop 1 queue) ≡ None
    by_queue [] e = refl
    by_queue (i ∷ queue) e = absurd (cc (e))

    by_pipe : (o : Option Pipe) → option_map (λ (i : Item). i.number) (option_and_then (λ (p : Pipe). oldest p.queue) o) ≡ None → option_and_then (λ (p : Pipe). oldest p.queue) (option_map after_receive o) ≡ None
    by_pipe None e = refl
    by_pipe (Some p) e = by_queue p.queue e

-- and then none was received last
none_last : (pipes : List Pipe) (number : ℕ) → option_map (λ (i : Item). i.number) (oldest_on pipes number) ≡ None → last_on (with_pipe after_receive number pipes) number ≡ None
none_last pipes number none = ap (option_and_then (λ (p : Pipe). p.last)) (pipe_at-received number pipes) ∙ by_pipe (pipe_at pipes number) none
  where
    by_item : (o : Option Item) → option_map (λ (i : Item). i.number) o ≡ None → o ≡ None
    by_item None e = refl
    by_item (Some i) e = absurd (cc (e))

    by_pipe : (o : Option Pipe) → option_map (λ (i : Item). i.number) (option_and_then (λ (p : Pipe). oldest p.queue) o) ≡ None → option_and_then (λ (p : Pipe). p.last) (option_map after_receive o) ≡ None
    by_pipe None e = refl
    by_pipe (Some p) e = by_item (oldest p.queue) e

-- One more receive. --

-- the pipes, the account and the loans change alone
abbrev pub Alone : Store → Store → Type 0
Alone old new = new ≡ record old { pipes = new.pipes; account = new.account; loans = new.loans }

module _ (first before after : Store) (pipe : ℕ)
    (is : after ≡ record before { pipes = with_pipe after_receive pipe before.pipes; account = with_held before.account after.pipes before.unsent before.numbers_given; loans = after.loans }) where
  abbrev other : Pipe → Bool
  other p = not (eqb p.number pipe)

  pipes_are : after.pipes ≡ with_pipe after_receive pipe before.pipes
  pipes_are = ap (λ (o : Store). o.pipes) is

  pub round_others : filter (λ (p : Pipe). not (eqb p.number pipe)) before.pipes ≡ filter (λ (p : Pipe). not (eqb p.number pipe)) first.pipes →
      filter (λ (p : Pipe). not (eqb p.number pipe)) after.pipes ≡ filter (λ (p : Pipe). not (eqb p.number pipe)) first.pipes
  round_others were = ap (filter other) pipes_are ∙ others_stay pipe before.pipes ∙ were

  pub round_same : Alone first before → Alone first after
  round_same were =
      is
      ∙ ap
      (λ (o : Store). let v : Store = record o {
        pipes = with_pipe after_receive pipe before.pipes;
        account = with_held before.account after.pipes before.unsent before.numbers_given;
        loans = after.loans;
      } in v) were
      ∙ ap (λ (l : List Pipe). let v : Store = record first { pipes = l; account = with_held before.account after.pipes before.unsent before.numbers_given; loans = after.loans } in v) (sym pipes_are)
      ∙ ap (λ (c : Account). let v : Store = record first { pipes = after.pipes; account = c; loans = after.loans } in v) (sym (ap (λ (o : Store). o.account) is))

  pub round_account : OutAlone first.account before.account → OutAlone first.account after.account
  round_account were =
      let next : Account = with_held before.account after.pipes before.unsent before.numbers_given in
      alone_as before.account next after.account refl (ap (λ (o : Store). o.account) is)
      ∙ ap (λ (c : Account). let v : Account = record c { out = after.account.out } in v) were

  pub round_owns : (app : ℕ) → owns before.pipes app pipe ≡ true → owns after.pipes app pipe ≡ true
  round_owns app own = ap (λ l. owns l app pipe) pipes_are ∙ owns-received pipe before.pipes app pipe ∙ own

  pub round_fewer : (n : ℕ) → option_map (λ (i : Item). i.number) (oldest_on before.pipes pipe) ≡ Some n → waiting_on after.pipes pipe + 1 ≡ waiting_on before.pipes pipe
  round_fewer n some = ap (λ l. waiting_on l pipe + 1) pipes_are ∙ fewer_wait before.pipes pipe n some

  pub round_waits : option_map (λ (i : Item). i.number) (oldest_on before.pipes pipe) ≡ None → oldest_on after.pipes pipe ≡ None
  round_waits none = ap (λ l. oldest_on l pipe) pipes_are ∙ none_waits before.pipes pipe none

  pub round_last : option_map (λ (i : Item). i.number) (oldest_on before.pipes pipe) ≡ None → last_on after.pipes pipe ≡ None
  round_last none = ap (λ l. last_on l pipe) pipes_are ∙ none_last before.pipes pipe none
