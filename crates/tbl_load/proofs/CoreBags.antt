-- The bags of the core are those of the history, since what handles hold is lent by the loans that were noted.
use Rattle.std.proofs.Common.{◌≡◌, ℕ, true, List, Option, Some, None, length, is_some, refl, ap, sym, ◌∙◌, subst}
use Rattle.std.specs.Option.{IsSomeAnd, option_map, option_and_then}
use Rattle.tbl_words.specs.Holds.{hold_of}
use Rattle.tbl_words.specs.Tables.{Handle, Hold, State, handle_at}
use Rattle.tbl_words.proofs.Orders.{handles_rise}
use Rattle.table_blocks.specs.Held.{HeldViews}
use Rattle.table_core.specs.Core as plain
use Rattle.table_core.specs.Core.{Holds, HoldsVersion, loan_of, view_due, views_due}
use Rattle.tbl_load.specs.declared.tables.TblCore.TheInside.{Inside}
use Rattle.tbl_load.specs.Bags.{HasBag, KeepsBags, AreOneLoan, AreTwoLoans, lent_tables, loans_of}
use Rattle.tbl_load.specs.Core.{Core, state_of}
use Rattle.tbl_load.specs.Inside.{core_of, Stands}
use Rattle.tbl_load.specs.Notes.{noted}
use Rattle.tbl_load.proofs.Dues.{due_by, due_alike, told_each}
use Rattle.tbl_load.proofs.OwnHandles.{Rise}

pub rise_in : (a : Inside) → Stands a → Rise a.core.state.handles
rise_in a stands = subst (λ (s : State). Rise s.handles) (sym stands.state) (handles_rise a.core.limits (length a.noted.log.budgets) a.noted.log.entries)

-- what is due by the loans of the core is due by those that were noted
dues_are : (a : Inside) → Stands a → (app n : ℕ) → view_due a.core app n ≡ view_due (lent_tables (core_of a)) app n
dues_are a stands app n =
    let handles = (state_of (core_of a)).handles in
    let told = loan_of (loans_of (core_of a)) in
    ap (λ (s : State). due_by (loan_of a.core.lent) app (handle_at s.handles n)) stands.state
    ∙ due_alike (loan_of a.core.lent) told app handles
    (λ m some.
    stands.loans m (ap (λ (s : State). is_some (hold_of s.handles m)) stands.state ∙ some)
    ∙ sym (told_each (λ k. noted k a.noted.log.entries a.noted.notes) handles m some)) n

counts_are : (a : Inside) → Stands a → (app : ℕ) → views_due a.core app ≡ views_due (lent_tables (core_of a)) app
counts_are a stands app = ap (λ (s : State). views_due (record a.core { state = s }) app) stands.state

-- a bag of the history is one of the core
pub bag_in : (a : Inside) (old : Core) (app : ℕ) (bag : HeldViews) → core_of a ≡ old → Stands a → HasBag old app bag → Holds a.core app bag
bag_in a old app bag is stands has_old =
    let has : HasBag (core_of a) app bag = subst (λ core. HasBag core app bag) (sym is) has_old in
    record {
      seen = λ n. has.seen n ∙ sym (dues_are a stands app n);
      counted = has.counted ∙ sym (counts_are a stands app);
      room = has.room;
    }

-- and the other way round
pub bag_out : (a : Inside) (app : ℕ) (bag : HeldViews) → Stands a → Holds a.core app bag → HasBag (core_of a) app bag
bag_out a app bag stands has = record {
  seen = λ n. has.seen n ∙ dues_are a stands app n;
  counted = has.counted ∙ counts_are a stands app;
  room = has.room;
}

-- so what keeps the core's bags keeps those of the history
pub bags_over : (a next : Inside) (old : Core) → core_of a ≡ old → Stands a → Stands next → ((app : ℕ) (bag : HeldViews) → Holds a.core app bag → Holds next.core app bag) → KeepsBags old (core_of next)
bags_over a next old is stands stands_next keeps app bag has = bag_out next app bag stands_next (keeps app bag (bag_in a old app bag is stands has))

-- a handle that holds a version holds something
held_one : (handles : List Handle) (n table version : ℕ) → HoldsVersion handles n table version → is_some (hold_of handles n) ≡ true
held_one handles n table version its = by_found (handle_at handles n) its
  where
    by_hold : (o : Option Hold) → option_map (λ (hold : Hold). hold.version) o ≡ Some version → is_some o ≡ true
    by_hold None never = absurd (cc (never))
    by_hold (Some hold) is = refl

    by_found : (o : Option Handle) → IsSomeAnd o (λ (h : Handle). (h.table ≡ table) × (option_map (λ (hold : Hold). hold.version) h.hold ≡ Some version)) → is_some (option_and_then (λ (h : Handle). h.hold) o) ≡ true
    by_found None never = absurd never
    by_found (Some h) its = by_hold h.hold its.1

-- what the history's handles hold the core's do
holds_in : (a : Inside) → Stands a → (n table version : ℕ) → HoldsVersion (state_of (core_of a)).handles n table version → HoldsVersion a.core.state.handles n table version
holds_in a stands n table version holds = subst (λ (s : State). HoldsVersion s.handles n table version) (sym stands.state) holds

-- handles that hold one version of one table have one loan noted, as the core's loans are one
pub one_loan : (a : Inside) → Stands a → plain.AreOneLoan a.core → AreOneLoan (core_of a)
one_loan a stands told number other table version holds too =
    let here = holds_in a stands number table version holds in
    let there = holds_in a stands other table version too in
    sym (stands.loans number (held_one a.core.state.handles number table version here))
    ∙ told number other table version here there
    ∙ stands.loans other (held_one a.core.state.handles other table version there)

-- and what two hold of two tables, or of two versions, has two, as the core's loans are two
pub two_loans : (a : Inside) → Stands a → (number other : ℕ) → plain.AreTwoLoans a.core number other → AreTwoLoans (core_of a) number other
two_loans a stands number other told table its version second holds too differ same =
    let here = holds_in a stands number table version holds in
    let there = holds_in a stands other its second too in
    told table its version second here there differ
    (stands.loans number (held_one a.core.state.handles number table version here)
    ∙ same
    ∙ sym (stands.loans other (held_one a.core.state.handles other its second there)))
