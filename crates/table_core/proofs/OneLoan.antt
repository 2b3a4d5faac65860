-- Handles that hold one version of one table are lent it by one loan, since they have the table's key and with it its contents.
use Rattle.std.proofs.Common.{◌≡◌, ℕ, eqb, Option, Some, None, find, refl, ap, sym, ◌∙◌, subst}
use Rattle.std.specs.Option.{IsSomeAnd, option_map, option_map_or}
use Rattle.fsw_base.proofs.Lists.{find-map}
use Rattle.tbl_words.specs.Tables as state
use Rattle.tbl_registry.specs.declared.rows.Handle.{Handle}
use Rattle.tbl_registry.specs.Listing.{Table, IsTied, handle_at, table_at, number_at}
use Rattle.tbl_registry.proofs.HandleDrops.{either_way}
use Rattle.table_blocks.specs.Contents.{version_at, content_at}
use Rattle.table_core.specs.declared.plain.PlainTables.TheInside.{Inside}
use Rattle.table_core.specs.Core.{Lent, HoldsVersion, AreOneLoan, loan_of}
use Rattle.table_core.specs.Inside.{plain_of, means, handle_with, handle_in, hold_of, lent_in}
use Rattle.table_core.proofs.Fields.{IsOf, its_table, known_by, handle_here}

-- the table of a handle is found by its number
pub number_of : (a : Inside) → IsTied a.registry → (h : Handle) → (of : IsOf a h) → find (λ (t : Table). eqb t.number h.table) a.registry.tables ≡ Some of.t
number_of a tied h of =
    either_way a.registry.tables h.key h.table tied.tables_rise (ap (option_map (λ (t : Table). t.number)) of.there ∙ ap Some of.number) ∙ of.there

-- so handles of one table have one key
one_key : (a : Inside) → IsTied a.registry → (h k : Handle) → IsOf a h → IsOf a k → h.table ≡ k.table → h.key ≡ k.key
one_key a tied h k of its same =
    sym (known_by a.registry.tables h.key of.t of.there)
    ∙ ap (λ (o : Option Table). option_map_or (λ (t : Table). t.key) o 0) (
    sym (number_of a tied h of) ∙ ap (λ n. find (λ (t : Table). eqb t.number n) a.registry.tables) same ∙ number_of a tied k its
    )
    ∙ known_by a.registry.tables k.key its.t its.there

-- what a handle that holds a version is, and was lent
pub record Lends (a : Inside) (number table version : ℕ) : Type 0 where
  pub h : Handle
  pub here : handle_at a.registry.handles number ≡ Some h
  pub of_table : h.table ≡ table
  pub held : h.held ≡ Some version
  pub loan : loan_of (plain_of a).lent number ≡ (version_at (content_at a.blocks.tables h.key) version).loan

pub lends : (a : Inside) (number table version : ℕ) → HoldsVersion (means a).handles number table version → Lends a number table version
lends a number table version holds =
    by_found (handle_at a.registry.handles number) refl (subst P (handle_here a number) holds)
  where
    P : Option state.Handle → Type 0
    P o = IsSomeAnd o (λ (h : state.Handle). (h.table ≡ table) × (option_map (λ (hold : state.Hold). hold.version) h.hold ≡ Some version))

    loan_here : loan_of (plain_of a).lent number ≡ option_map_or (λ (one : Lent). one.loan) (option_map (lent_in a.blocks.tables) (handle_at a.registry.handles number)) 0
    loan_here = ap (λ (o : Option Lent). option_map_or (λ (one : Lent). one.loan) o 0) (find-map (λ (one : Lent). eqb one.handle number) (lent_in a.blocks.tables) a.registry.handles)

    by_found : (o : Option Handle) → handle_at a.registry.handles number ≡ o → P (option_map (handle_in a.blocks.tables) o) → Lends a number table version
    by_found None at never = absurd never
    by_found (Some h) at its = record {
      h = h;
      here = at;
      of_table = its.0;
      held = held_so h.held its.1;
      loan = loan_here ∙ ap (λ (o : Option Handle). option_map_or (λ (one : Lent). one.loan) (option_map (lent_in a.blocks.tables) o) 0) at ∙ by_held h.held its.1;
    }
      where
        held_so : (held : Option ℕ) → option_map (λ (hold : state.Hold). hold.version) (option_map (hold_of (content_at a.blocks.tables h.key)) held) ≡ Some version → held ≡ Some version
        held_so None never = absurd (cc (never))
        held_so (Some v) is = is

        by_held : (held : Option ℕ) → option_map (λ (hold : state.Hold). hold.version) (option_map (hold_of (content_at a.blocks.tables h.key)) held) ≡ Some version →
            option_map_or (λ v. (version_at (content_at a.blocks.tables h.key) v).loan) held 0 ≡ (version_at (content_at a.blocks.tables h.key) version).loan
        by_held None never = absurd (cc (never))
        by_held (Some v) is =
            let same : v ≡ version = ap (λ (o : Option ℕ). option_map_or (λ n. n) o v) is in
            ap (λ n. (version_at (content_at a.blocks.tables h.key) n).loan) same

pub one_loan : (a : Inside) → IsTied a.registry → AreOneLoan (plain_of a)
one_loan a tied number other table version holds too =
    let first = lends a number table version holds in
    let second = lends a other table version too in
    let key = one_key a tied first.h second.h (its_table a tied number first.h first.here) (its_table a tied other second.h second.here) (first.of_table ∙ sym second.of_table) in
    first.loan ∙ ap (λ k. (version_at (content_at a.blocks.tables k) version).loan) key ∙ sym second.loan
