-- What a draw leaves of an account, and how much was made and drawn after every history: a send draws a block, and so does an
-- allocation.
use Rattle.std.proofs.Common.{◌≡◌, ℕ, zero, suc, ◌+◌, ◌-◌, ◌*◌, ◌^◌, ◌<◌, ◌≤◌, ◌⊎◌, inl, inr, not, min, max, Bool, true, false, cond, true≢false, leb, List, [], ◌∷◌, length, get_or, set, replicate, Option, Some, None, refl, ap, sym, ◌∙◌, arith}
use Rattle.std.specs.Prelude.{nat_lt}
use Rattle.std.proofs.lemmas.Bool.{cases_lt}
use Rattle.std.proofs.lemmas.Bool.Decides.{nat_tests}
use Rattle.std.proofs.lemmas.List.{length-set, length-replicate, set_past}
use Rattle.fsw_base.specs.Blocks.{class_of}
use Rattle.fsw_base.specs.declared.statuses.SbStatus.TheVariants.{BadArgument, MsgTooBig, BufAlocErr}
use Rattle.fsw_base.specs.Limits.{Limits}
use Rattle.fsw_base.specs.PoolAccounts.{Account, overhead, counted, cost_of, has_room, has_room_for, has_room_if, after_draw, after_request, after_request_if}
use Rattle.bus_words.specs.declared.history.Call.{Call}
use Rattle.bus_words.specs.declared.history.Entry.{Entry}
use Rattle.bus_words.specs.Bus.{State, opening}
use Rattle.bus_words.specs.Held.{account_of, account_drawn}
use Rattle.bus_words.specs.Machine.{allocate_cause, step, state_after}
use Rattle.bus_words.proofs.Finds.{not_false}
use Rattle.bus_words.proofs.Steps.{refused_if-none, after_step, state_from-keeps}

-- One draw. --

cost_none : (n : ℕ) (sizes : List ℕ) → cost_of (replicate n 0) sizes ≡ 0
cost_none zero sizes = refl
cost_none (suc n) [] = refl
cost_none (suc n) (size ∷ sizes) = omega (arith, cost_none n sizes)

-- what is made costs, with one count set
cost-set : (made sizes : List ℕ) (class count : ℕ) → length made ≡ length sizes → class < length made →
    cost_of (set made class count) sizes + get_or made class 0 * (get_or sizes class 0 + overhead) ≡ cost_of made sizes + count * (get_or sizes class 0 + overhead)
cost-set [] sizes class count e h = absurd (omega (arith, h))
cost-set (c ∷ made) [] class count e h = absurd (omega (arith, e))
cost-set (c ∷ made) (size ∷ sizes) zero count e h = omega arith
cost-set (c ∷ made) (size ∷ sizes) (suc class) count e h = omega (arith, cost-set made sizes class count (omega (arith, e)) (omega (arith, h)))

-- the greater of two counts costs what the first did, and what the second is past it
max_cost : (m x k : ℕ) → max m x * k ≡ m * k + k * (x - m)
max_cost m x k = ap (λ n. n * k) greater ∙ spread m (x - m)
  where
    greater : max m x ≡ m + (x - m)
    greater = omega arith

    spread : (a b : ℕ) → (a + b) * k ≡ a * k + k * b
    spread a b = omega arith

fits : (cost k x bytes : ℕ) → leb (cost + k * x) bytes ≡ true → cost + k * x ≤ bytes
fits cost k x bytes e = grind (arith, nat_tests)

-- what a request keeps of an account
record Asked (account next : Account) : Type 0 where
  pub made_all : length next.made ≡ length account.made
  pub paid : length account.made ≡ length account.sizes → cost_of account.made account.sizes ≤ account.bytes → cost_of next.made account.sizes ≤ account.bytes

drawn_for : (account : Account) (class : ℕ) → has_room_for account class 1 ≡ true → Asked account (after_draw account class)
drawn_for account class room =
    let m = get_or account.made class 0 in
    let o = get_or account.out class 0 in
    let k = get_or account.sizes class 0 + overhead in
    record {
      made_all = length-set account.made class (max m (o + 1));
      paid = λ all paid. at all paid (cases_lt class (length account.made));
    }
  where
    at : length account.made ≡ length account.sizes → cost_of account.made account.sizes ≤ account.bytes →
        (class < length account.made) ⊎ (length account.made ≤ class) →
        cost_of (set account.made class (max (get_or account.made class 0) (get_or account.out class 0 + 1))) account.sizes ≤ account.bytes
    at all paid (inl within) =
        let m = get_or account.made class 0 in
        let o = get_or account.out class 0 in
        let k = get_or account.sizes class 0 + overhead in
        omega (
          arith,
          cost-set account.made account.sizes class (max m (o + 1)) all within,
          max_cost m (o + 1) k,
          fits (cost_of account.made account.sizes) k (o + 1 - m) account.bytes room,
        )
    at all paid (inr past) =
        let top = max (get_or account.made class 0) (get_or account.out class 0 + 1) in
        omega (arith, paid, ap (λ made. cost_of made account.sizes) (set_past account.made class top past))

same_account : (account : Account) → Asked account account
same_account account = record { made_all = refl; paid = λ all paid. paid }

asked_for : (account : Account) (size : ℕ) → Asked account (after_request account size)
asked_for account size = by_class (class_of size account.sizes)
  where
    by_room : (class : ℕ) (b : Bool) → has_room_for account class 1 ≡ b → Asked account (cond {A = Account} b (after_draw account class) account)
    by_room class true room = drawn_for account class room
    by_room class false none = same_account account

    by_class : (class : Option ℕ) → Asked account (after_request_if account class)
    by_class None = same_account account
    by_class (Some class) = by_room class (has_room_for account class 1) refl

pub length-made : (account : Account) (size : ℕ) → length (after_request account size).made ≡ length account.made
length-made account size = (asked_for account size).made_all

-- a request that there is room for is counted
request_counted : (account : Account) (size : ℕ) → has_room account size ≡ true → (after_request account size).requests ≡ counted account.requests
request_counted account size = by_class (class_of size account.sizes)
  where
    by_room : (class : ℕ) (b : Bool) → b ≡ true → (cond {A = Account} b (after_draw account class) account).requests ≡ counted account.requests
    by_room class true room = refl
    by_room class false none = absurd (true≢false (sym none))

    by_class : (class : Option ℕ) → has_room_if account class ≡ true → (after_request_if account class).requests ≡ counted account.requests
    by_class None none = absurd (true≢false (sym none))
    by_class (Some class) room = by_room class (has_room_for account class 1) room

-- what the refusals of an allocation that don't come say
pub record MayAllocate (limits : Limits) (s : State) (size : ℕ) : Type 0 where
  pub least : 7 ≤ size
  pub most : size ≤ limits.msgmax
  pub room : has_room (account_of limits s) size ≡ true

pub may_allocate : (limits : Limits) (s : State) (size : ℕ) → allocate_cause limits s size ≡ None → MayAllocate limits s size
may_allocate limits s size none =
    let room = has_room (account_of limits s) size in
    let first = refused_if-none (nat_lt size 7) BadArgument _ none in
    let second = refused_if-none (nat_lt limits.msgmax size) MsgTooBig _ first.1 in
    record {
      least = not_less size 7 first.0;
      most = not_less limits.msgmax size second.0;
      room = not_false room (refused_if-none (not room) BufAlocErr None second.1).0;
    }
  where
    not_less : (a b : ℕ) → nat_lt a b ≡ false → b ≤ a
    not_less a b is = grind (arith, nat_tests)

-- Histories. --

-- what a history keeps of these numbers
pub record AreDrawn (limits : Limits) (made : List ℕ) (requests given : ℕ) : Type 0 where
  pub made_all : length made ≡ length limits.sizes
  pub paid : cost_of made limits.sizes ≤ limits.pool
  pub drawn : requests ≡ min given (2 ^ 32 - 1)

one_more : (drawn given top : ℕ) → drawn ≡ min given top → min (drawn + 1) top ≡ min (given + 1) top
one_more drawn given top is = omega (arith, is)

AreDrawn-more : (limits : Limits) (s : State) (size given : ℕ) → given ≡ s.numbers_given + 1 → has_room (account_of limits s) size ≡ true →
    AreDrawn limits s.made s.drawn s.numbers_given → AreDrawn limits (account_drawn limits s size).made (account_drawn limits s size).requests given
AreDrawn-more limits s size given number room drawn =
    let asked = asked_for (account_of limits s) size in
    record {
      made_all = asked.made_all ∙ drawn.made_all;
      paid = asked.paid drawn.made_all drawn.paid;
      drawn = request_counted (account_of limits s) size room
          ∙ one_more s.drawn s.numbers_given (2 ^ 32 - 1) drawn.drawn
          ∙ ap (λ n. min n (2 ^ 32 - 1)) (sym number);
    }

AreDrawn-step : (limits : Limits) (history : List Entry) (s : State) (app : ℕ) (call : Call) → AreDrawn limits s.made s.drawn s.numbers_given →
    let next = (step limits history s app call).1 in AreDrawn limits next.made next.drawn next.numbers_given
AreDrawn-step limits history s app call drawn =
    after_step (λ t. AreDrawn limits t.made t.drawn t.numbers_given) limits history s app call (record {
      same = drawn;
      creates = λ depth name none. drawn;
      subscribes = λ id pipe limit scope none other. drawn;
      sends = λ sending id who number room. AreDrawn-more limits s sending.asked sending.number number room drawn;
      receives = λ pipe. drawn;
      deletes = λ pipe none. drawn;
      sets = λ pipe bits none. drawn;
      unsubscribes = λ id pipe none. drawn;
      stands = λ pipe standing going. drawn;
      ends = drawn;
      pools = λ next follows. drawn;
      allocates = λ size none. AreDrawn-more limits s size (s.numbers_given + 1) refl (may_allocate limits s size none).room drawn;
      leaves = λ buf has. drawn;
      records = λ t desk statistics is. is;
      passes = λ sending id who has asked. drawn;
    })

-- after every history
pub AreDrawn-after : (limits : Limits) (apps : ℕ) (history : List Entry) →
    let s = state_after limits apps history in AreDrawn limits s.made s.drawn s.numbers_given
AreDrawn-after limits apps history =
    state_from-keeps (λ t. AreDrawn limits t.made t.drawn t.numbers_given) limits (AreDrawn-step limits) [] (opening limits apps) history (record {
      made_all = length-replicate {A = ℕ} (length limits.sizes) 0;
      paid = omega (arith, cost_none (length limits.sizes) limits.sizes);
      drawn = refl;
    })
