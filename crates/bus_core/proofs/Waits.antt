-- What waits on a pipe, as the store tells it.
use Rattle.std.proofs.Common.{◌≡◌, ℕ, Bool, true, false, cond, List, [], ◌∷◌, ◌++◌, All, eqb, length, suc, Option, Some, None, refl, ap, ◌∙◌, subst, arith}
use Rattle.std.specs.Option.{option_map, option_map_or, option_and_then, option_to_list}
use Rattle.std.proofs.lemmas.Bool.Decides.{nat_tests}
use Rattle.std.proofs.lemmas.List.Elements.{All-head, All-tail}
use Rattle.bus_words.specs.Bus.{Item, Pipe, pipe_at, oldest, is_empty}
use Rattle.bus_words.specs.Machine.{oldest_number}
use Rattle.bus_words.specs.Held.{items_of}
use Rattle.bus_words.specs.Pipes.{oldest_on}
use Rattle.bus_messages.specs.Blocks.{IsGiven}
use Rattle.bus_core.specs.declared.receiving.Pended.{Pended}
use Rattle.bus_core.specs.declared.receiving.Pended.TheVariants as waits

-- the number of the message that waits longest, as the store tells it
abbrev pub oldest_told : List Pipe → ℕ → Option ℕ
oldest_told pipes number = option_map (λ (item : Item). item.number) (oldest_on pipes number)

-- if none waits the pipe is empty
pub empty-none : (pipes : List Pipe) (number : ℕ) → oldest_told pipes number ≡ None → is_empty pipes number ≡ true
empty-none pipes number none = at (pipe_at pipes number) none
  where
    queue_at : (queue : List Item) → option_map (λ (item : Item). item.number) (oldest queue) ≡ None → eqb (length queue) 0 ≡ true
    queue_at [] none = refl
    queue_at (item ∷ items) none = absurd (cc (none))

    at : (o : Option Pipe) → option_map (λ (item : Item). item.number) (option_and_then (λ (pipe : Pipe). oldest pipe.queue) o) ≡ None → option_map_or (λ (pipe : Pipe). eqb (length pipe.queue) 0) o true ≡ true
    at None none = refl
    at (Some pipe) none = queue_at pipe.queue none

-- if one waits it isn't
pub empty-some : (pipes : List Pipe) (number n : ℕ) → oldest_told pipes number ≡ Some n → is_empty pipes number ≡ false
empty-some pipes number n some = at (pipe_at pipes number) some
  where
    eqb-suc : (k : ℕ) → eqb (suc k) 0 ≡ false
    eqb-suc k = grind (arith, nat_tests)

    queue_at : (queue : List Item) → option_map (λ (item : Item). item.number) (oldest queue) ≡ Some n → eqb (length queue) 0 ≡ false
    queue_at [] some = absurd (cc (some))
    queue_at (item ∷ items) some = eqb-suc (length items)

    at : (o : Option Pipe) → option_map (λ (item : Item). item.number) (option_and_then (λ (pipe : Pipe). oldest pipe.queue) o) ≡ Some n → option_map_or (λ (pipe : Pipe). eqb (length pipe.queue) 0) o true ≡ false
    at None some = absurd (cc (some))
    at (Some pipe) some = queue_at pipe.queue some

-- and that is its number
pub oldest-some : (pipes : List Pipe) (number n : ℕ) → oldest_told pipes number ≡ Some n → oldest_number pipes number ≡ n
oldest-some pipes number n some = same (pipe_at pipes number) ∙ ap (λ o. option_map_or {U = ℕ} (λ (k : ℕ). k) o 0) some
  where
    queue_at : (queue : List Item) → option_map_or {U = ℕ} (λ (item : Item). item.number) (oldest queue) 0 ≡ option_map_or {U = ℕ} (λ (k : ℕ). k) (option_map (λ (item : Item). item.number) (oldest queue)) 0
    queue_at [] = refl
    queue_at (item ∷ items) = refl

    same : (o : Option Pipe) → option_map_or {U = ℕ} (λ (pipe : Pipe). option_map_or {U = ℕ} (λ (item : Item). item.number) (oldest pipe.queue) 0) o 0
        ≡ option_map_or {U = ℕ} (λ (k : ℕ). k) (option_map (λ (item : Item). item.number) (option_and_then (λ (pipe : Pipe). oldest pipe.queue) o)) 0
    same None = refl
    same (Some pipe) = queue_at pipe.queue

-- if the pipe is empty none waits
pub none-told : (pipes : List Pipe) (number : ℕ) → is_empty pipes number ≡ true → oldest_on pipes number ≡ None
none-told pipes number empty = at (pipe_at pipes number) empty
  where
    wrong : (k : ℕ) → eqb (suc k) 0 ≡ true → ⊥
    wrong k is = grind (arith, nat_tests)

    queue_at : (queue : List Item) → eqb (length queue) 0 ≡ true → oldest queue ≡ None
    queue_at [] empty = refl
    queue_at (item ∷ items) empty = absurd (wrong (length items) empty)

    at : (o : Option Pipe) → option_map_or (λ (pipe : Pipe). eqb (length pipe.queue) 0) o true ≡ true → option_and_then (λ (pipe : Pipe). oldest pipe.queue) o ≡ None
    at None empty = refl
    at (Some pipe) empty = queue_at pipe.queue empty

-- the number of a message, if one was received
abbrev pub got_number : Pended → ℕ
got_number (waits.Got number) = number
got_number waits.TimeOut = 0
got_number waits.Pending = 0

-- Numbers. --

later : (given : ℕ) (xs ys : List Item) → All (λ (item : Item). IsGiven given item.number) (xs ++ ys) → All (λ (item : Item). IsGiven given item.number) ys
later given [] ys all = all
later given (x ∷ xs) ys all = later given xs ys (All-tail (λ (item : Item). IsGiven given item.number) x (xs ++ ys) all)

-- what waits longest has a number that was given, if all items have
pub oldest_given : (given : ℕ) (pipes : List Pipe) (number n : ℕ) → All (λ (item : Item). IsGiven given item.number) (items_of pipes) → oldest_told pipes number ≡ Some n → IsGiven given n
oldest_given given [] number n all some = absurd (cc (some))
oldest_given given (pipe ∷ pipes) number n all some = at (eqb pipe.number number) (oldest_given given pipes number n (later given pipe.queue (items_of pipes) behind)) some
  where
    behind : All (λ (item : Item). IsGiven given item.number) (pipe.queue ++ items_of pipes)
    behind = later given (option_to_list pipe.last) (pipe.queue ++ items_of pipes) all

    same : (k : ℕ) → Some k ≡ Some n → k ≡ n
    same k is = cc is

    queue_at : (queue : List Item) → All (λ (item : Item). IsGiven given item.number) (queue ++ items_of pipes) → option_map (λ (item : Item). item.number) (oldest queue) ≡ Some n → IsGiven given n
    queue_at [] those one = absurd (cc (one))
    queue_at (item ∷ items) those one = subst (IsGiven given) (same item.number one) (All-head (λ (item : Item). IsGiven given item.number) item (items ++ items_of pipes) those)

    at : (b : Bool) → (oldest_told pipes number ≡ Some n → IsGiven given n) → option_map (λ (item : Item). item.number) (option_and_then (λ (p : Pipe). oldest p.queue) (cond b (Some pipe) (pipe_at pipes number))) ≡ Some n → IsGiven given n
    at true others one = queue_at pipe.queue behind one
    at false others one = others one
