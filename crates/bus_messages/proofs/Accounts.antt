-- The account, by what is held.
use Rattle.std.proofs.Common.{◌≡◌, ℕ, zero, suc, Bool, true, false, cond, leb, List, ◌∷◌, length, count_by, Option, Some, None, refl, ap, ◌∙◌, sym}
use Rattle.std.specs.Option.{option_map_or}
use Rattle.fsw_base.specs.Blocks.{class_of}
use Rattle.fsw_base.specs.PoolAccounts.{Account, after_return}
use Rattle.fsw_base.specs.Limits.{usual_limits}
use Rattle.es_pool.specs.Pool.{is_out, out_in, in_use_by}
use Rattle.buf_desc.specs.Slots.{slot_at, is_live}
use Rattle.bus_words.specs.Bus.{Item, Pipe, Buffer, opening}
use Rattle.bus_messages.specs.declared.store.BusStore.TheInside.{Inside}
use Rattle.bus_words.specs.Held.{is_on_pipes, held, has_class, each_below, bytes_in_use}
use Rattle.bus_words.proofs.HeldBlocks.{bytes_of_sends}
use Rattle.bus_messages.specs.Words.{with_held}
use Rattle.bus_messages.specs.Inside.{store_of, Keeps, account_in, returned, after_send, after_release}
use Rattle.bus_messages.proofs.BlocksOut.{out_held, in_use_held}

each-same : (f g : ℕ → ℕ) → ((i : ℕ) → f i ≡ g i) → (n : ℕ) → each_below f n ≡ each_below g n
each-same f g same zero = refl
each-same f g same (suc n) =
    ap (λ k. k ∷ each_below (λ i. f (suc i)) n) (same 0)
    ∙ ap (λ (l : List ℕ). g 0 ∷ l) (each-same (λ i. f (suc i)) (λ i. g (suc i)) (λ i. same (suc i)) n)

-- the account of a store is the one by what its pipes hold
pub held_law : (a : Inside) → Keeps a → ((d : ℕ) → is_live (slot_at a.desk.slots d) ≡ is_out a.desk.pool d) →
    (store_of a).account ≡ with_held (store_of a).account (store_of a).pipes (store_of a).unsent a.given
held_law a keeps live_out =
    ap (λ (l : List ℕ). let v : Account = record (account_in a.desk.pool) { out = l } in v)
    (each-same (out_in a.desk.pool.blocks) (λ class. count_by (has_class (store_of a).pipes (store_of a).unsent a.desk.pool.sizes class) (held (store_of a).pipes (store_of a).unsent a.given))
    (λ class. out_held a.desk a.tables.pipes a.lists.lists a.given keeps.backed keeps.listed live_out class) (length a.desk.pool.sizes))

-- and the sizes of the blocks that are out are those that it adds up
pub bytes_law : (a : Inside) → Keeps a → ((d : ℕ) → is_live (slot_at a.desk.slots d) ≡ is_out a.desk.pool d) →
    in_use_by a.desk.pool.sizes a.desk.pool.blocks ≡ bytes_in_use (store_of a).account
bytes_law a keeps live_out =
    in_use_held a.desk a.tables.pipes a.lists.lists a.given keeps.backed keeps.listed live_out
    ∙ sym (bytes_of_sends (record usual_limits { sizes = a.desk.pool.sizes })
    (record (opening usual_limits 0) { pipes = (store_of a).pipes; unsent = (store_of a).unsent; numbers_given = a.given }))
    ∙ sym (ap bytes_in_use (held_law a keeps live_out))

-- What changes in the number of blocks that are out alone. --

abbrev pub OutAlone : Account → Account → Type 0
OutAlone old new = new ≡ record old { out = new.out }

-- such an account is told by another and by what is held
pub held_now : (old new : Account) (pipes : List Pipe) (unsent : List (List Buffer)) (given : ℕ) → OutAlone old new → new ≡ with_held new pipes unsent given → new ≡ with_held old pipes unsent given
held_now old new pipes unsent given alone law = law ∙ ap (λ (c : Account). with_held c pipes unsent given) alone

returned_alone : (account : Account) (size : ℕ) → OutAlone account (returned account size)
returned_alone account size = by_class (class_of size account.sizes)
  where
    by_class : (o : Option ℕ) → option_map_or {U = Account} (after_return account) o account ≡ record account { out = (option_map_or {U = Account} (after_return account) o account).out }
    by_class None = refl
    by_class (Some class) = refl

pub released_alone : (account : Account) (item : Option Item) (pipes : List Pipe) → OutAlone account (after_release account item pipes)
released_alone account None pipes = refl
released_alone account (Some item) pipes = by_named (is_on_pipes pipes item.number)
  where
    by_named : (b : Bool) → cond {A = Account} b account (returned account item.asked) ≡ record account { out = (cond {A = Account} b account (returned account item.asked)).out }
    by_named true = refl
    by_named false = returned_alone account item.asked

pub sent_alone : (account : Account) (size reached : ℕ) → OutAlone account (after_send account size reached)
sent_alone account size reached = by_reached (leb 1 reached)
  where
    by_reached : (b : Bool) → cond {A = Account} b account (returned account size) ≡ record account { out = (cond {A = Account} b account (returned account size)).out }
    by_reached true = refl
    by_reached false = returned_alone account size

-- one such change after another
pub alone_then : (first next last : Account) → OutAlone first next → OutAlone next last → OutAlone first last
alone_then first next last a b = b ∙ ap (λ (c : Account). let v : Account = record c { out = last.out } in v) a

-- an account that is the same as one of those
pub alone_as : (old next new : Account) → OutAlone old next → new ≡ next → OutAlone old new
alone_as old next new alone is = is ∙ alone ∙ ap (λ (c : Account). let v : Account = record old { out = c.out } in v) (sym is)

pub returned_is_alone : (account : Account) (size : ℕ) → OutAlone account (returned account size)
returned_is_alone account size = returned_alone account size
