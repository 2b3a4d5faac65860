-- Working buffers: as many tables have one as there are keys with one.
use Rattle.std.proofs.Common.{◌≡◌, ◌≢◌, ℕ, zero, suc, ◌+◌, ◌<◌, ◌&&◌, not, Bool, true, false, cond, eqb, leb, Option, Some, None, is_some, List, [], ◌∷◌, length, get_or, set, count_by, All, refl, ap, sym, ◌∙◌, subst, arith}
use Rattle.std.specs.List.{AllPairs}
use Rattle.std.specs.Option.{IsSome, option_map_or}
use Rattle.std.proofs.lemmas.Bool.Decides.{nat_tests}
use Rattle.std.proofs.lemmas.List.{length-set, get_or-set_same, get_or-set_other}
use Rattle.std.proofs.lemmas.List.Elements.{All-head, All-tail}
use Rattle.std.proofs.lemmas.List.Sums.{sum_by-cons, sum_by-set}
use Rattle.fsw_base.proofs.Lists.{count_by-map}
use Rattle.tbl_words.specs.Tables as state
use Rattle.tbl_registry.specs.declared.rows.Handle.{Handle}
use Rattle.tbl_registry.specs.Listing.{Table, IsTied, table_at}
use Rattle.table_blocks.specs.declared.next.Next.{Next}
use Rattle.table_blocks.specs.declared.next.Next.TheVariants.{Nothing, Inactive, Staged}
use Rattle.table_blocks.specs.Blocks.{has_buffer, buffers_taken}
use Rattle.table_blocks.specs.Contents.{Content, no_content, kept_at, content_at, is_staged}
use Rattle.table_core.specs.declared.plain.PlainTables.TheInside.{Inside}
use Rattle.table_core.specs.Inside.{means, table_in, staged_of, IsFilled, Keeps}
use Rattle.table_core.proofs.Fields.{count_alike}

-- Counts. --

none_pass : {X : Type 0} (p : X → Bool) (d : X) (xs : List X) → ((i : ℕ) → p (get_or xs i d) ≡ false) → count_by p xs ≡ 0
none_pass p d [] none = refl
none_pass p d (x ∷ xs) none =
    omega (arith, sum_by-cons (λ y. cond {A = ℕ} (p y) 1 0) x xs, ap (λ b. cond {A = ℕ} b 1 0) (none 0), none_pass p d xs (λ i. none (suc i)))

-- if what passes lies under the keys of tables, it is counted by these
module _ {X : Type 0} (p : X → Bool) (d : X) (off : p d ≡ false) where
  -- those of the other keys
  abbrev left_by : List X → Table → List X
  left_by xs t = set xs t.key d

  pub counted_by_keys : (tables : List Table) (xs : List X) → AllPairs (λ earlier later. earlier.key ≡ later.key → ⊥) tables → All (λ t. t.key < length xs) tables →
      ((i : ℕ) → p (get_or xs i d) ≡ true → IsSome (table_at tables i)) → count_by p xs ≡ count_by (λ (t : Table). p (get_or xs t.key d)) tables
  counted_by_keys [] xs apart within known = none_pass p d xs (λ i. by_test (p (get_or xs i d)) (known i))
    where
      by_test : (b : Bool) → (b ≡ true → IsSome (table_at [] 0)) → b ≡ false
      by_test true never = absurd (cc (never refl))
      by_test false none = refl
  counted_by_keys (t ∷ tables) xs apart within known =
      omega (
        arith,
        sum_by-set (λ y. cond {A = ℕ} (p y) 1 0) xs t.key d d (All-head (λ (u : Table). u.key < length xs) t tables within),
        ap (λ b. cond {A = ℕ} b 1 0) off,
        sum_by-cons (λ (u : Table). cond {A = ℕ} (p (get_or xs u.key d)) 1 0) t tables,
        counted_by_keys tables (left_by xs t) (λ i j e lt inside. apart (suc i) (suc j) e (omega (arith, lt)) (omega (arith, inside))) left_within left_known,
        count_alike (λ (u : Table). p (get_or (left_by xs t) u.key d)) (λ (u : Table). p (get_or xs u.key d)) tables
            (λ k e inside. ap p (get_or-set_other xs t.key (get_or tables k e).key d d (λ same. apart 0 (suc k) e (omega arith) (omega (arith, inside)) (sym same)))),
      )
    where
      is_same : (i : ℕ) → eqb t.key i ≡ true → t.key ≡ i
      is_same i same = grind (arith, nat_tests)

      is_other : (i : ℕ) → eqb t.key i ≡ false → i ≢ t.key
      is_other i other same = grind (arith, nat_tests)

      left_within : All (λ (u : Table). u.key < length (left_by xs t)) tables
      left_within k e inside = omega (arith, length-set xs t.key d, All-tail (λ (u : Table). u.key < length xs) t tables within k e inside)

      left_known : (i : ℕ) → p (get_or (left_by xs t) i d) ≡ true → IsSome (table_at tables i)
      left_known i is = by_test (eqb t.key i) refl
        where
          by_test : (b : Bool) → eqb t.key i ≡ b → IsSome (table_at tables i)
          by_test true same =
              absurd (cc (sym off ∙ ap p (sym (get_or-set_same xs t.key d d (All-head (λ (u : Table). u.key < length xs) t tables within))) ∙ ap (λ k. p (get_or (left_by xs t) k d)) (is_same i same) ∙ is))
          by_test false other =
              subst (λ b. IsSome (cond {A = Option Table} b (Some t) (table_at tables i))) other (known i (ap p (sym (get_or-set_other xs t.key i d d (is_other i other))) ∙ is))

-- Working buffers. --

pub staged_alike : (next : Next) → is_some (staged_of next) ≡ is_staged next
staged_alike Nothing = refl
staged_alike (Inactive version) = refl
staged_alike (Staged staged) = refl

-- a table has a working buffer in the state as its contents have
has_alike : (handles : List Handle) (contents : List (Option Content)) (t : Table) → IsFilled handles contents t →
    (not (state.is_double (table_in handles contents t)) && is_some (table_in handles contents t).staged) ≡ has_buffer (kept_at contents t.key)
has_alike handles contents t filled =
    ap (λ b. not (eqb t.option 1) && b) (staged_alike (content_at contents t.key).next)
    ∙ ap (λ n. not (eqb n 1) && is_staged (content_at contents t.key).next) (sym filled.option)
    ∙ by_kept (kept_at contents t.key) filled.there
  where
    by_kept : (o : Option Content) → is_some o ≡ true →
        (not (eqb (option_map_or (λ (x : Content). x) o no_content).option 1) && is_staged (option_map_or (λ (x : Content). x) o no_content).next) ≡ has_buffer o
    by_kept None never = absurd (cc (never))
    by_kept (Some c) is = refl

open_where : (o : Option Content) → has_buffer o ≡ true → is_some o ≡ true
open_where None never = absurd (cc (never))
open_where (Some c) is = refl

pub taken_alike : (a : Inside) → Keeps a → IsTied a.registry → state.buffers_taken (means a).tables ≡ buffers_taken a.blocks.tables
taken_alike a keeps tied =
    count_by-map (λ (t : state.Table). not (state.is_double t) && is_some t.staged) (table_in a.registry.handles a.blocks.tables) a.registry.tables
    ∙ count_alike (λ (t : Table). not (state.is_double (table_in a.registry.handles a.blocks.tables t)) && is_some (table_in a.registry.handles a.blocks.tables t).staged) (λ (t : Table). has_buffer (kept_at a.blocks.tables t.key)) a.registry.tables
    (λ k d within. has_alike a.registry.handles a.blocks.tables (get_or a.registry.tables k d) (keeps.filled k d within))
    ∙ sym (counted_by_keys has_buffer None refl a.registry.tables a.blocks.tables tied.keys_apart
    (λ k d within. omega (arith, tied.keys k d within, keeps.table_room, keeps.content_room))
    (λ i is. keeps.known i (open_where (kept_at a.blocks.tables i) is)))

-- all four are taken if none is free
pub all_taken : (free taken : ℕ) → free + taken ≡ 4 → leb 4 taken ≡ eqb free 0
all_taken zero taken four = grind (arith, nat_tests)
all_taken (suc free) taken four = grind (arith, nat_tests)
