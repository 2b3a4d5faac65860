-- A rotation at the tables: what it adds to their history is what the applications had still to make.
use Rattle.std.proofs.Common.{◌≡◌, ℕ, zero, suc, ◌==◌, not, true, false, cond, eqb-true, eq-eqb, List, [], ◌∷◌, ◌++◌, append_assoc, Option, Some, None, refl, ap, sym, ◌∙◌, subst}
use Rattle.std.specs.Option.{is_some}
use Rattle.fsw_base.specs.Limits.{Limits}
use Rattle.bus_words.specs.Bus.{standing_of}
use Rattle.bus_words.proofs.Finds.{Each, not_true, same-sym}
use Rattle.tbl_words.specs.declared.history.Entry.{Entry}
use Rattle.tbl_words.specs.Tables.{has_ended}
use Rattle.script_runs.specs.Rotation.{Running, SoFar, turn, rotated, rotations}
use Rattle.script_runs.specs.TableTrace.{own_table_entries}
use Rattle.script_runs.proofs.OneTurn.{IsTurn, listed}
use Rattle.script_runs.proofs.RotationSteps.{left_of, IsFit, apart-front, left-front, left-here, left-other, left-turned, is_live, one-leads, one-turn, rotated-turns}
use Rattle.script_runs.specs.Owing.{TableOwes, first_left}
use Rattle.script_runs.proofs.TableTurn.{IsTableSound, IsTableTurn, table-turn-in}

-- Entries of one's own. --

own-mine : (app : ℕ) (added es : List Entry) → Each (λ e. e.app ≡ app) added → own_table_entries app (added ++ es) ≡ added ++ own_table_entries app es
own-mine app [] es own = refl
own-mine app (e ∷ added) es own =
    ap (λ b. cond {A = List Entry} b (e ∷ own_table_entries app (added ++ es)) (own_table_entries app (added ++ es))) (eq-eqb e.app app own.0)
    ∙ ap (λ l. e ∷ l) (own-mine app added es own.1)

own-other : (app k : ℕ) (added es : List Entry) → (k == app) ≡ false → Each (λ e. e.app ≡ app) added → own_table_entries k (added ++ es) ≡ own_table_entries k es
own-other app k [] es differ own = refl
own-other app k (e ∷ added) es differ own =
    ap (λ b. cond {A = List Entry} b (e ∷ own_table_entries k (added ++ es)) (own_table_entries k (added ++ es))) (ap (λ n. n == k) own.0 ∙ same-sym app k ∙ differ)
    ∙ own-other app k added es differ own.1

-- The rotation so far. --

-- the tables so far, and those who are left: exactly those that haven't ended
pub record IsTableFit (limits : Limits) (apps : ℕ) (sofar : SoFar) (rs : List Running) : Type 0 where
  pub sound : IsTableSound limits apps sofar
  pub fits : (k : ℕ) → is_some (left_of rs k) ≡ not (has_ended sofar.tables k)

-- the whole history of the tables goes on from here with what each application has still to make
pub record TableOwed (sofar : SoFar) (rs : List Running) (whole : List Entry) : Type 0 where
  pub entries : List Entry
  pub history : whole ≡ sofar.table_history ++ entries
  pub owes : (k : ℕ) → TableOwes (left_of rs k) (own_table_entries k entries)

-- from here to there
pub record TableLeads (limits : Limits) (apps : ℕ) (sofar : SoFar) (rs : List Running) (next : SoFar) (rest : List Running) : Type 0 where
  pub fit : IsTableFit limits apps next rest
  pub back : (whole : List Entry) → TableOwed next rest whole → TableOwed sofar rs whole

leads-then : (limits : Limits) (apps : ℕ) (sofar between next : SoFar) (rs ms rest : List Running) → TableLeads limits apps sofar rs between ms → TableLeads limits apps between ms next rest →
    TableLeads limits apps sofar rs next rest
leads-then limits apps sofar between next rs ms rest first second = record { fit = second.fit; back = λ whole owed. first.back whole (second.back whole owed) }

owes-same : (o p : Option Running) (es fs : List Entry) → o ≡ p → es ≡ fs → TableOwes o es → TableOwes p fs
owes-same o p es fs left own owed = subst (λ x. TableOwes x fs) left (subst (λ x. TableOwes o x) own owed)

-- who is left goes on at the tables
going : (limits : Limits) (apps : ℕ) (sofar : SoFar) (ds others : List Running) (r : Running) → IsFit limits apps sofar (ds ++ r ∷ others) → IsTableFit limits apps sofar (ds ++ r ∷ others) →
    has_ended sofar.tables r.app ≡ false
going limits apps sofar ds others r bus fit = not_true (has_ended sofar.tables r.app) (sym (fit.fits r.app) ∙ ap is_some (left-turned ds others r bus.apart))

first-listed : (left : Option Running) → first_left (listed left) ≡ left
first-listed None = refl
first-listed (Some r) = refl

turn-leads : (limits : Limits) (apps : ℕ) (sofar : SoFar) (ds others : List Running) (r : Running) (next : SoFar × List Running) → IsFit limits apps sofar (ds ++ r ∷ others) →
    IsTableFit limits apps sofar (ds ++ r ∷ others) →
    (t : IsTurn limits apps sofar r (standing_of sofar.state r.app) next) → IsTableTurn limits apps sofar r next →
    TableLeads limits apps sofar (ds ++ r ∷ others) next.0 (ds ++ (listed t.left ++ others))
turn-leads limits apps sofar ds others r next bus fit t at =
    let front = apart-front ds others r bus.apart in
    let after : List Running = ds ++ (listed t.left ++ others) in
    let before : List Running = ds ++ r ∷ others in
    let stays : first_left next.1 ≡ t.left = ap first_left t.lists ∙ first-listed t.left in
    let here : left_of after r.app ≡ first_left next.1 = left-front ds (listed t.left ++ others) r.app front.0 ∙ left-here t.left others r.app t.number front.1 ∙ sym stays in
    record {
      fit = record {
        sound = at.sound;
        fits = λ k. elim (k == r.app) as (λ b. (k == r.app) ≡ b → is_some (left_of after k) ≡ not (has_ended next.0.tables k)) [
          | true ↦ λ is. subst (λ n. is_some (left_of after n) ≡ not (has_ended next.0.tables n)) (sym (eqb-true k r.app is)) (ap is_some here ∙ at.fits)
          | false ↦ λ differ. ap is_some (left-other ds others r t.left k t.number differ) ∙ fit.fits k ∙ ap not (sym (at.others k differ))
        ] refl;
      };
      back = λ whole owed. record {
        entries = at.added ++ owed.entries;
        history = owed.history ∙ ap (λ h. h ++ owed.entries) at.history ∙ append_assoc sofar.table_history at.added owed.entries;
        owes = λ k. elim (k == r.app) as (λ b. (k == r.app) ≡ b → TableOwes (left_of before k) (own_table_entries k (at.added ++ owed.entries))) [
          | true ↦ λ is. subst (λ n. TableOwes (left_of before n) (own_table_entries n (at.added ++ owed.entries))) (sym (eqb-true k r.app is))
              (owes-same (Some r) (left_of before r.app) (at.added ++ own_table_entries r.app owed.entries) (own_table_entries r.app (at.added ++ owed.entries))
              (sym (left-turned ds others r bus.apart)) (sym (own-mine r.app at.added owed.entries at.own))
              (at.owes (own_table_entries r.app owed.entries)
              (owes-same (left_of after r.app) (first_left next.1) (own_table_entries r.app owed.entries) (own_table_entries r.app owed.entries) here refl (owed.owes r.app))))
          | false ↦ λ differ.
              owes-same (left_of after k) (left_of before k) (own_table_entries k owed.entries) (own_table_entries k (at.added ++ owed.entries))
              (left-other ds others r t.left k t.number differ) (sym (own-other r.app k at.added owed.entries differ at.own)) (owed.owes k)
        ] refl;
      };
    }

-- Rotations. --

-- one turn, of the first of those who have still to take it
turned-leads : (limits : Limits) (apps : ℕ) (sofar : SoFar) (ds others : List Running) (r : Running) → IsFit limits apps sofar (ds ++ r ∷ others) → IsTableFit limits apps sofar (ds ++ r ∷ others) →
    TableLeads limits apps sofar (ds ++ r ∷ others) (turn limits sofar r).0 ((ds ++ (turn limits sofar r).1) ++ others)
turned-leads limits apps sofar ds others r bus fit =
    let first : SoFar × List Running = turn limits sofar r in
    let t : IsTurn limits apps sofar r (standing_of sofar.state r.app) first = one-turn limits apps sofar ds others r bus in
    let lists : ds ++ (listed t.left ++ others) ≡ ds ++ (first.1 ++ others) = ap (λ l. ds ++ (l ++ others)) (sym t.lists) in
    subst (λ l. TableLeads limits apps sofar (ds ++ r ∷ others) first.0 l) (lists ∙ sym (append_assoc ds first.1 others))
    (turn-leads limits apps sofar ds others r first bus fit t
    (table-turn-in limits apps sofar r (standing_of sofar.state r.app) fit.sound (going limits apps sofar ds others r bus fit) (is_live limits apps sofar ds others r bus)))

-- a rotation of these, after which others turned
rotated-tables : (limits : Limits) (apps : ℕ) (sofar : SoFar) (ds others : List Running) → IsFit limits apps sofar (ds ++ others) → IsTableFit limits apps sofar (ds ++ others) →
    TableLeads limits apps sofar (ds ++ others) (rotated limits sofar others).0 (ds ++ (rotated limits sofar others).1)
rotated-tables limits apps sofar ds [] bus fit = record { fit = fit; back = λ whole owed. owed }
rotated-tables limits apps sofar ds (r ∷ others) bus fit =
    let first : SoFar × List Running = turn limits sofar r in
    let next : SoFar × List Running = rotated limits first.0 others in
    let one = turned-leads limits apps sofar ds others r bus fit in
    let rest = rotated-tables limits apps first.0 (ds ++ first.1) others (one-leads limits apps sofar ds others r bus).fit one.fit in
    subst (λ l. TableLeads limits apps sofar (ds ++ r ∷ others) next.0 l) (append_assoc ds first.1 next.1)
    (leads-then limits apps sofar first.0 next.0 (ds ++ r ∷ others) ((ds ++ first.1) ++ others) ((ds ++ first.1) ++ next.1) one rest)

-- so many rotations
pub rotations-tables : (n : ℕ) (limits : Limits) (apps : ℕ) (sofar : SoFar) (rs : List Running) → IsFit limits apps sofar rs → IsTableFit limits apps sofar rs →
    TableLeads limits apps sofar rs (rotations n limits (sofar, rs)).0 (rotations n limits (sofar, rs)).1
rotations-tables zero limits apps sofar rs bus fit = record { fit = fit; back = λ whole owed. owed }
rotations-tables (suc n) limits apps sofar rs bus fit =
    let next : SoFar × List Running = rotated limits sofar rs in
    let last : SoFar × List Running = rotations n limits next in
    let first = rotated-tables limits apps sofar [] rs bus fit in
    leads-then limits apps sofar next.0 last.0 rs next.1 last.1 first
    (rotations-tables n limits apps next.0 next.1 (rotated-turns limits apps sofar [] rs bus).leads.fit first.fit)
