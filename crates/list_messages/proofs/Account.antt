-- The account stays the one of the numbers that are named.
use Rattle.std.proofs.Common.{◌≡◌, ℕ, zero, suc, ◌+◌, ◌-◌, ◌*◌, ◌^◌, ◌<◌, ◌≤◌, ◌⊎◌, inl, inr, max, Bool, true, false, cond, leb, List, [], ◌∷◌, ◌++◌, length, length-append, get_or, set, drop, replicate, Option, Some, None, refl, ap, sym, ◌∙◌, subst, arith}
use Rattle.std.specs.List.{count_by}
use Rattle.std.proofs.Math.Nat.{mul-le-mul}
use Rattle.std.proofs.lemmas.Bool.{cases_eq, cases_lt}
use Rattle.std.proofs.lemmas.Bool.Decides.{nat_tests}
use Rattle.std.proofs.lemmas.List.Quantifiers.{position-Some}
use Rattle.std.proofs.lemmas.List.Sums.{get_or-le-sum_by}
use Rattle.std.proofs.lemmas.List.{length-replicate, length-set, set_past, get_or-set_same, get_or-set_other}
use Rattle.list_messages.specs.Sends.{Use, Sends, no_use, use_at, is_used, takes, blocks_out, account_by, with_send, with_names, without_name, returned_if}
use Rattle.list_messages.proofs.NameCounts.{was_given}
use Rattle.list_messages.specs.Inside.{IsCounted}
use Rattle.list_messages.proofs.Outs.{length-each, each-none, out-push, out-push_none, out-same, out-last, out-last_none, used-push, used-set}
use Rattle.fsw_base.specs.Blocks.{class_of}
use Rattle.bus_words.specs.Held.{bytes_of}
use Rattle.fsw_base.specs.PoolAccounts.{Account, overhead, cost_of, has_room, has_room_if, has_room_for, after_draws, after_return, after_request, after_request_if}

-- No more blocks are out than were made. --

-- no more of any class are out than were made
abbrev pub IsMost : Account → Type 0
IsMost account = (class : ℕ) → class < length account.sizes → get_or account.out class 0 ≤ get_or account.made class 0

-- a draw keeps that
pub most_drawn : (account : Account) (k : ℕ) → length account.made ≡ length account.sizes → length account.out ≡ length account.sizes →
    IsMost account → IsMost (after_draws account k 1)
most_drawn account k made_all out_all most class within = at (cases_eq k class)
  where
    top : ℕ
    top = max (get_or account.made k 0) (get_or account.out k 0 + 1)

    at : (k ≡ class) ⊎ (k ≡ class → ⊥) → get_or (set account.out k (get_or account.out k 0 + 1)) class 0 ≤ get_or (set account.made k top) class 0
    at (inl is) =
        omega (
          arith,
          ap (λ j. get_or (set account.out j (get_or account.out j 0 + 1)) class 0) is,
          ap (λ j. get_or (set account.made j (max (get_or account.made j 0) (get_or account.out j 0 + 1))) class 0) is,
          get_or-set_same account.out class (get_or account.out class 0 + 1) 0 (omega (arith, within, out_all)),
          get_or-set_same account.made class (max (get_or account.made class 0) (get_or account.out class 0 + 1)) 0 (omega (arith, within, made_all)),
        )
    at (inr apart) =
        omega (
          arith,
          most class within,
          get_or-set_other account.out k class (get_or account.out k 0 + 1) 0 (λ same. apart (sym same)),
          get_or-set_other account.made k class top 0 (λ same. apart (sym same)),
        )

-- and so does a return
pub most_returned : (account : Account) (k : ℕ) → length account.out ≡ length account.sizes → IsMost account → IsMost (after_return account k)
most_returned account k out_all most class within = at (cases_eq k class)
  where
    at : (k ≡ class) ⊎ (k ≡ class → ⊥) → get_or (set account.out k (get_or account.out k 0 - 1)) class 0 ≤ get_or account.made class 0
    at (inl is) =
        omega (
          arith,
          most class within,
          ap (λ j. get_or (set account.out j (get_or account.out j 0 - 1)) class 0) is,
          get_or-set_same account.out class (get_or account.out class 0 - 1) 0 (omega (arith, within, out_all)),
        )
    at (inr apart) = omega (arith, most class within, get_or-set_other account.out k class (get_or account.out k 0 - 1) 0 (λ same. apart (sym same)))

-- What was made is paid for. --

-- what is made costs, with one count set
cost-set : (made sizes : List ℕ) (class count : ℕ) → length made ≡ length sizes → class < length made →
    cost_of (set made class count) sizes + get_or made class 0 * (get_or sizes class 0 + overhead) ≡ cost_of made sizes + count * (get_or sizes class 0 + overhead)
cost-set [] sizes class count e h = absurd (omega (arith, h))
cost-set (c ∷ made) [] class count e h = absurd (omega (arith, e))
cost-set (c ∷ made) (size ∷ sizes) zero count e h = omega arith
cost-set (c ∷ made) (size ∷ sizes) (suc class) count e h = omega (arith, cost-set made sizes class count (omega (arith, e)) (omega (arith, h)))

max_cost : (m x k : ℕ) → max m x * k ≡ m * k + k * (x - m)
max_cost m x k = ap (λ n. n * k) greater ∙ spread m (x - m)
  where
    greater : max m x ≡ m + (x - m)
    greater = omega arith

    spread : (a b : ℕ) → (a + b) * k ≡ a * k + k * b
    spread a b = omega arith

fits : (cost k x bytes : ℕ) → leb (cost + k * x) bytes ≡ true → cost + k * x ≤ bytes
fits cost k x bytes e = grind (arith, nat_tests)

pub paid_drawn : (account : Account) (class : ℕ) → length account.made ≡ length account.sizes → class < length account.sizes →
    has_room_for account class 1 ≡ true → cost_of (after_draws account class 1).made account.sizes ≤ account.bytes
paid_drawn account class all within room =
    let m = get_or account.made class 0 in
    let o = get_or account.out class 0 in
    let k = get_or account.sizes class 0 + overhead in
    omega (
      arith,
      cost-set account.made account.sizes class (max m (o + 1)) all (omega (arith, all, within)),
      max_cost m (o + 1) k,
      fits (cost_of account.made account.sizes) k (o + 1 - m) account.bytes room,
    )

-- Bytes in use. --

-- blocks that are out are no more bytes than the made ones took
pub bytes_le_cost : (out made sizes : List ℕ) → length out ≡ length sizes → length made ≡ length sizes →
    ((class : ℕ) → class < length sizes → get_or out class 0 ≤ get_or made class 0) → bytes_of out sizes ≤ cost_of made sizes
bytes_le_cost [] made sizes out_all made_all most = omega arith
bytes_le_cost (o ∷ out) made [] out_all made_all most = absurd (omega (arith, out_all))
bytes_le_cost (o ∷ out) [] (size ∷ sizes) out_all made_all most = absurd (omega (arith, made_all))
bytes_le_cost (o ∷ out) (m ∷ made) (size ∷ sizes) out_all made_all most =
    let spread : m * (size + overhead) ≡ m * size + m * overhead = omega arith in
    let grown : o * size ≤ m * size = mul-le-mul (most 0 (omega arith)) (omega arith) in
    omega (
      arith,
      spread,
      grown,
      bytes_le_cost out made sizes (omega (arith, out_all)) (omega (arith, made_all)) (λ class within. most (suc class) (omega (arith, within))),
    )

-- one size more
pub bytes-drop : (out sizes : List ℕ) (i : ℕ) → length out ≡ length sizes → i < length sizes →
    bytes_of (drop i out) (drop i sizes) ≡ get_or out i 0 * get_or sizes i 0 + bytes_of (drop (i + 1) out) (drop (i + 1) sizes)
bytes-drop [] [] i all within = absurd (omega (arith, within))
bytes-drop [] (size ∷ sizes) i all within = absurd (omega (arith, all))
bytes-drop (o ∷ out) [] i all within = absurd (omega (arith, all))
bytes-drop (o ∷ out) (size ∷ sizes) zero all within = refl
bytes-drop (o ∷ out) (size ∷ sizes) (suc i) all within =
    let next : suc i + 1 ≡ suc (i + 1) = omega arith in
    rw next (bytes-drop out sizes i (omega (arith, all)) (omega (arith, within)))

-- The account and the numbers that are named. --

abbrev one : Bool → ℕ
one b = cond {A = ℕ} b 1 0

pub out_all : (uses : List Use) (used : ℕ) (account : Account) → IsCounted uses used account → length account.out ≡ length account.sizes
out_all uses used account counted = ap length counted.out ∙ length-each (λ class. count_by (takes account.sizes class) uses) (length account.sizes)

-- one number more, with a block
pub drawn : (uses : List Use) (used : ℕ) (account : Account) (size k : ℕ) → IsCounted uses used account → length uses < 2 ^ 32 →
    class_of size account.sizes ≡ Some k → k < length account.sizes → has_room_for account k 1 ≡ true →
    IsCounted (uses ++ record { asked = size; named = 1 } ∷ []) (used + 1) (after_draws account k 1)
drawn uses used account size k counted few is within room = record {
  some = omega (arith, counted.some, length-append uses (record { asked = size; named = 1 } ∷ []));
  few = omega (arith, few, length-append uses (record { asked = size; named = 1 } ∷ []));
  used_is = omega (arith, counted.used_is, used-push uses size);
  out = ap (λ out. set out k (get_or out k 0 + 1)) counted.out ∙ out-push account.sizes uses size k is within;
  errors = counted.errors;
  made_all = length-set account.made k (max (get_or account.made k 0) (get_or account.out k 0 + 1)) ∙ counted.made_all;
  most = most_drawn account k counted.made_all (out_all uses used account counted) counted.most;
  paid = paid_drawn account k counted.made_all within room;
}

-- and without one
pub drawn_none : (uses : List Use) (used : ℕ) (account : Account) (size : ℕ) → IsCounted uses used account → length uses < 2 ^ 32 →
    class_of size account.sizes ≡ None → IsCounted (uses ++ record { asked = size; named = 1 } ∷ []) (used + 1) account
drawn_none uses used account size counted few is = record {
  some = omega (arith, counted.some, length-append uses (record { asked = size; named = 1 } ∷ []));
  few = omega (arith, few, length-append uses (record { asked = size; named = 1 } ∷ []));
  used_is = omega (arith, counted.used_is, used-push uses size);
  out = counted.out ∙ out-push_none account.sizes uses size is;
  errors = counted.errors;
  made_all = counted.made_all;
  most = counted.most;
  paid = counted.paid;
}

-- a number whose use is another, and that is named as before or isn't
pub kept : (uses : List Use) (used : ℕ) (account : Account) (m : ℕ) (u : Use) → IsCounted uses used account → m < length uses →
    u.asked ≡ (get_or uses m no_use).asked → is_used u ≡ is_used (get_or uses m no_use) → IsCounted (set uses m u) used account
kept uses used account m u counted within asked named = record {
  some = omega (arith, counted.some, length-set uses m u);
  few = omega (arith, counted.few, length-set uses m u);
  used_is = omega (arith, counted.used_is, used-set uses m u within, ap one named);
  out = counted.out ∙ out-same account.sizes uses m u within asked named;
  errors = counted.errors;
  made_all = counted.made_all;
  most = counted.most;
  paid = counted.paid;
}

-- a number that loses its last name, and its block
pub dropped : (uses : List Use) (used : ℕ) (account : Account) (m k : ℕ) (u : Use) → IsCounted uses used account → m < length uses → u.named ≡ 0 →
    (get_or uses m no_use).named ≡ 1 → class_of (get_or uses m no_use).asked account.sizes ≡ Some k → k < length account.sizes →
    IsCounted (set uses m u) (used - 1) (after_return account k)
dropped uses used account m k u counted within none last is room = record {
  some = omega (arith, counted.some, length-set uses m u);
  few = omega (arith, counted.few, length-set uses m u);
  used_is = omega (arith, counted.used_is, used-set uses m u within, ap (λ n. one (leb 1 n)) none, ap (λ n. one (leb 1 n)) last);
  out = ap (λ out. set out k (get_or out k 0 - 1)) counted.out ∙ out-last account.sizes uses m k u within none last is room;
  errors = counted.errors;
  made_all = counted.made_all;
  most = most_returned account k (out_all uses used account counted) counted.most;
  paid = counted.paid;
}

-- and one that had no block
pub dropped_none : (uses : List Use) (used : ℕ) (account : Account) (m : ℕ) (u : Use) → IsCounted uses used account → m < length uses → u.named ≡ 0 →
    (get_or uses m no_use).named ≡ 1 → class_of (get_or uses m no_use).asked account.sizes ≡ None → IsCounted (set uses m u) (used - 1) account
dropped_none uses used account m u counted within none last is = record {
  some = omega (arith, counted.some, length-set uses m u);
  few = omega (arith, counted.few, length-set uses m u);
  used_is = omega (arith, counted.used_is, used-set uses m u within, ap (λ n. one (leb 1 n)) none, ap (λ n. one (leb 1 n)) last);
  out = counted.out ∙ out-last_none account.sizes uses m u within none last is;
  errors = counted.errors;
  made_all = counted.made_all;
  most = counted.most;
  paid = counted.paid;
}

-- No number was given. --

cost_none : (sizes : List ℕ) → cost_of (replicate (length sizes) 0) sizes ≡ 0
cost_none [] = refl
cost_none (size ∷ sizes) = omega (arith, cost_none sizes)

counted_none : (account : Account) → account.made ≡ replicate (length account.sizes) 0 → account.out ≡ replicate (length account.sizes) 0 → account.errors ≡ 0 →
    IsCounted (no_use ∷ []) 0 account
counted_none account made out errors = record {
  some = omega arith;
  few = omega arith;
  used_is = refl;
  out = out ∙ sym (each-none (length account.sizes));
  errors = errors;
  made_all = ap length made ∙ length-replicate (length account.sizes) 0;
  most = λ class within. omega (arith, ap (λ l. get_or l class 0) out, ap (λ l. get_or l class 0) made);
  paid = omega (arith, ap (λ l. cost_of l account.sizes) made, cost_none account.sizes);
}

-- an account of which nothing was made
pub counted_new : (account : Account) (bytes : ℕ) (sizes : List ℕ) →
    account ≡ record { bytes = bytes; sizes = sizes; made = replicate (length sizes) 0; out = replicate (length sizes) 0; requests = 0; errors = 0 } →
    IsCounted (no_use ∷ []) 0 account
counted_new account bytes sizes is =
    subst (λ (a : Account). IsCounted (no_use ∷ []) 0 a) (sym is)
    (counted_none (record { bytes = bytes; sizes = sizes; made = replicate (length sizes) 0; out = replicate (length sizes) 0; requests = 0; errors = 0 }) refl refl refl)

-- Draws and returns, whatever the size. --

-- a class is one of the sizes
class_within : (sizes : List ℕ) (size class : ℕ) → class_of size sizes ≡ Some class → class < length sizes
class_within sizes size class is = (position-Some (leb size) sizes class 0 is).0

-- a block that there is room for is drawn
pub drawn_is : (account : Account) (size class : ℕ) → class_of size account.sizes ≡ Some class → has_room account size ≡ true → after_draws account class 1 ≡ after_request account size
drawn_is account size class is room =
    sym
    (ap (after_request_if account) is
    ∙ ap (λ b. cond b (after_draws account class 1) account) (sym (ap (has_room_if account) is) ∙ room))

-- the account is the one by the numbers that are named
pub account_is : (uses : List Use) (used : ℕ) (account : Account) → IsCounted uses used account →
    account ≡ account_by (record { uses = uses; bytes = account.bytes; sizes = account.sizes; made = account.made; requests = account.requests })
account_is uses used account counted =
    ap (λ out. let a : Account = record account { out = out } in a) counted.out
    ∙ ap (λ errors. let a : Account = record account { out = blocks_out account.sizes uses; errors = errors } in a) counted.errors

-- a request changes neither bytes nor sizes
request_bytes : (account : Account) (class : Option ℕ) → (after_request_if account class).bytes ≡ account.bytes
request_bytes account None = refl
request_bytes account (Some class) = at (has_room_for account class 1)
  where
    at : (b : Bool) → (cond {A = Account} b (after_draws account class 1) account).bytes ≡ account.bytes
    at true = refl
    at false = refl

request_sizes : (account : Account) (class : Option ℕ) → (after_request_if account class).sizes ≡ account.sizes
request_sizes account None = refl
request_sizes account (Some class) = at (has_room_for account class 1)
  where
    at : (b : Bool) → (cond {A = Account} b (after_draws account class 1) account).sizes ≡ account.sizes
    at true = refl
    at false = refl

-- what the fields stand for once a number was given
pub sent_is : (s : Sends) (uses : List Use) (size : ℕ) (account : Account) → account ≡ after_request (account_by s) size →
    uses ≡ s.uses ++ record { asked = size; named = 1 } ∷ [] →
    (let a : Sends = record { uses = uses; bytes = account.bytes; sizes = account.sizes; made = account.made; requests = account.requests } in a) ≡ with_send s size
sent_is s uses size account is pushed =
    let by : Account = after_request (account_by s) size in
    ap (λ (a : Account). let x : Sends = record { uses = uses; bytes = a.bytes; sizes = a.sizes; made = a.made; requests = a.requests } in x) is
    ∙ ap (λ (us : List Use). let x : Sends = record { uses = us; bytes = by.bytes; sizes = by.sizes; made = by.made; requests = by.requests } in x) pushed
    ∙ ap (λ n. let x : Sends = record (with_send s size) { bytes = n; sizes = by.sizes } in x) (request_bytes (account_by s) (class_of size s.sizes))
    ∙ ap (λ l. let x : Sends = record (with_send s size) { sizes = l } in x) (request_sizes (account_by s) (class_of size s.sizes))

-- a number that is given keeps the account counted
pub drawn_any : (uses : List Use) (used : ℕ) (account : Account) (size : ℕ) → IsCounted uses used account → length uses < 2 ^ 32 →
    has_room account size ≡ true →
    IsCounted (uses ++ record { asked = size; named = 1 } ∷ []) (used + 1) (after_request account size)
drawn_any uses used account size counted few room = at (class_of size account.sizes) refl
  where
    at : (o : Option ℕ) → class_of size account.sizes ≡ o → IsCounted (uses ++ record { asked = size; named = 1 } ∷ []) (used + 1) (after_request account size)
    at None is =
        subst (IsCounted (uses ++ record { asked = size; named = 1 } ∷ []) (used + 1)) (sym (ap (after_request_if account) is)) (drawn_none uses used account size counted few is)
    at (Some class) is =
        subst (IsCounted (uses ++ record { asked = size; named = 1 } ∷ []) (used + 1)) (drawn_is account size class is room)
        (drawn uses used account size class counted few is (class_within account.sizes size class is) (sym (ap (has_room_if account) is) ∙ room))

-- and so does a number that loses its last name
pub dropped_any : (uses : List Use) (used : ℕ) (account : Account) (m : ℕ) (u : Use) → IsCounted uses used account → m < length uses → u.named ≡ 0 →
    (get_or uses m no_use).named ≡ 1 →
    IsCounted (set uses m u) (used - 1) (returned_if account (class_of (get_or uses m no_use).asked account.sizes))
dropped_any uses used account m u counted within none last = at (class_of (get_or uses m no_use).asked account.sizes) refl
  where
    at : (o : Option ℕ) → class_of (get_or uses m no_use).asked account.sizes ≡ o → IsCounted (set uses m u) (used - 1) (returned_if account o)
    at None is = dropped_none uses used account m u counted within none last is
    at (Some class) is = dropped uses used account m class u counted within none last is (class_within account.sizes (get_or uses m no_use).asked class is)

-- Names that come and go. --

still_used : (n k : ℕ) → 1 ≤ n → leb 1 (n + k) ≡ leb 1 n
still_used n k some = grind (arith, nat_tests)

still_as : (n : ℕ) → (n ≡ 1 → ⊥) → leb 1 (n - 1) ≡ leb 1 n
still_as n other = grind (arith, nat_tests)

-- a number that is named is named more often
pub named_more : (uses : List Use) (used : ℕ) (account : Account) (m k : ℕ) → IsCounted uses used account → 1 ≤ (use_at uses m).named →
    IsCounted (with_names uses m k) used account
named_more uses used account m k counted some =
    kept uses used account m (record (use_at uses m) { named = (use_at uses m).named + k }) counted (was_given uses m some) refl (still_used (use_at uses m).named k some)

-- a number loses a name that isn't its last
pub dropped_kept : (uses : List Use) (used : ℕ) (account : Account) (m : ℕ) → IsCounted uses used account → ((use_at uses m).named ≡ 1 → ⊥) →
    IsCounted (without_name uses m) used account
dropped_kept uses used account m counted other = at (cases_lt m (length uses))
  where
    u : Use
    u = record (use_at uses m) { named = (use_at uses m).named - 1 }

    at : (m < length uses) ⊎ (length uses ≤ m) → IsCounted (set uses m u) used account
    at (inl within) = kept uses used account m u counted within refl (still_as (use_at uses m).named other)
    at (inr past) = subst (λ (us : List Use). IsCounted us used account) (sym (set_past uses m u past)) counted

-- a number loses its last name
pub dropped_last : (uses : List Use) (used : ℕ) (account : Account) (m : ℕ) → IsCounted uses used account → (use_at uses m).named ≡ 1 →
    IsCounted (without_name uses m) (used - 1) (returned_if account (class_of (use_at uses m).asked account.sizes))
dropped_last uses used account m counted last =
    dropped_any uses used account m (record (use_at uses m) { named = (use_at uses m).named - 1 }) counted (was_given uses m (omega (arith, last))) (omega (arith, last)) last

-- some number is named then
pub used_some : (uses : List Use) (used : ℕ) (account : Account) (m : ℕ) → IsCounted uses used account → (use_at uses m).named ≡ 1 → 1 ≤ used
used_some uses used account m counted last =
    let each : Use → ℕ = λ u. cond {A = ℕ} (is_used u) 1 0 in
    omega (
      arith,
      counted.used_is,
      get_or-le-sum_by each uses m no_use (was_given uses m (omega (arith, last))),
      ap (λ n. cond {A = ℕ} (leb 1 n) 1 0) last,
    )

-- a return changes only what is out
pub returned_is : (uses : List Use) (account : Account) (class : Option ℕ) →
    (let x : Sends = record { uses = uses; bytes = (returned_if account class).bytes; sizes = (returned_if account class).sizes; made = (returned_if account class).made; requests = (returned_if account class).requests } in x)
    ≡ record { uses = uses; bytes = account.bytes; sizes = account.sizes; made = account.made; requests = account.requests }
returned_is uses account None = refl
returned_is uses account (Some class) = refl
