-- A rotation: what it adds to the history is what the applications had still to make, and it lowers what is left to do.
use Rattle.std.proofs.Common.{◌≡◌, ◌⊎◌, inl, inr, ℕ, zero, suc, ◌+◌, ◌-◌, ◌<◌, ◌≤◌, ◌==◌, ◌&&◌, not, true, false, cond, true≢false, eqb-true, eq-eqb, List, [], ◌∷◌, ◌++◌, append_assoc, slice_index_or, slice_set, Option, Some, None, refl, ap, sym, ◌∙◌, subst, arith}
use Rattle.std.specs.Option.{is_some}
use Rattle.std.specs.List.{list_all}
use Rattle.fsw_base.specs.Limits.{Limits}
use Rattle.bus_words.specs.declared.calls.BusAnswer.{BusAnswer}
use Rattle.bus_words.specs.declared.calls.BusAnswer.TheVariants.{Got, TimeOut, Pending}
use Rattle.bus_words.specs.declared.history.Entry.{Entry}
use Rattle.bus_words.specs.Bus.{Pipe, State, Standing, Active, Waiting, Ended, standing_of, is_empty, is_idle, others_idle, unsent_of}
use Rattle.bus_words.specs.Machine.{pended_answer, oldest_number}
use Rattle.bus_words.proofs.Finds.{Each, not_true, not_false, same-sym, same-self}
use Rattle.script_runs.specs.Rotation.{Running, SoFar, turn, rotated, rotations}
use Rattle.script_runs.specs.Trace.{own_entries}
use Rattle.bus_words.proofs.LegalSteps.{standing_at}
use Rattle.script_runs.proofs.Buffers.{agree-other}
use Rattle.script_runs.specs.Owing.{Owes}
use Rattle.script_runs.proofs.OneTurn.{IsSound, IsTurn, IsStuck, HasNumber, HasWritten, listed, weight, is_ended, is_pending, turn-in}

-- Who is left. --

-- the application of this number, if it hasn't ended
abbrev pub left_of : List Running → ℕ → Option Running
left_of [] k = None
left_of (r ∷ rs) k = cond {A = Option Running} (r.app == k) (Some r) (left_of rs k)

-- no two have one number
abbrev pub AreApart : List Running → Type 0
AreApart [] = Unit {0}
AreApart (r ∷ rs) = (left_of rs r.app ≡ None) × AreApart rs

some_none : (r : Running) → Some r ≡ None → ⊥
some_none r is = true≢false (ap is_some is)

pub left-front : (xs ys : List Running) (k : ℕ) → left_of xs k ≡ None → left_of (xs ++ ys) k ≡ left_of ys k
left-front [] ys k none = refl
left-front (x ∷ xs) ys k none =
    elim (x.app == k) as (λ b. cond {A = Option Running} b (Some x) (left_of xs k) ≡ None → cond {A = Option Running} b (Some x) (left_of (xs ++ ys) k) ≡ left_of ys k) [
      | true ↦ λ is. absurd (some_none x is)
      | false ↦ λ is. left-front xs ys k is
    ] none

left-none : (ds others : List Running) (r : Running) (k : ℕ) → left_of (ds ++ r ∷ others) k ≡ None → (r.app == k) ≡ false
left-none [] others r k none =
    elim (r.app == k) as (λ b. cond {A = Option Running} b (Some r) (left_of others k) ≡ None → b ≡ false) [ true ↦ λ is. absurd (some_none r is) | false ↦ λ is. refl ] none
left-none (d ∷ ds) others r k none =
    elim (d.app == k) as (λ b. cond {A = Option Running} b (Some d) (left_of (ds ++ r ∷ others) k) ≡ None → (r.app == k) ≡ false) [
      | true ↦ λ is. absurd (some_none d is)
      | false ↦ λ is. left-none ds others r k is
    ] none

pub left-other : (ds others : List Running) (r : Running) (left : Option Running) (k : ℕ) → HasNumber r.app left → (k == r.app) ≡ false →
    left_of (ds ++ (listed left ++ others)) k ≡ left_of (ds ++ r ∷ others) k
left-other [] others r None k number differ = ap (λ b. cond {A = Option Running} b (Some r) (left_of others k)) (sym (same-sym r.app k ∙ differ))
left-other [] others r (Some x) k number differ =
    ap (λ b. cond {A = Option Running} b (Some x) (left_of others k)) (ap (λ n. n == k) number ∙ same-sym r.app k ∙ differ)
    ∙ ap (λ b. cond {A = Option Running} b (Some r) (left_of others k)) (sym (same-sym r.app k ∙ differ))
left-other (d ∷ ds) others r left k number differ =
    ap (λ o. cond {A = Option Running} (d.app == k) (Some d) o) (left-other ds others r left k number differ)

pub left-here : (left : Option Running) (others : List Running) (app : ℕ) → HasNumber app left → left_of others app ≡ None → left_of (listed left ++ others) app ≡ left
left-here None others app number none = none
left-here (Some r) others app number none = ap (λ b. cond {A = Option Running} b (Some r) (left_of others app)) (eq-eqb r.app app number)

pub apart-front : (ds others : List Running) (r : Running) → AreApart (ds ++ r ∷ others) → (left_of ds r.app ≡ None) × (left_of others r.app ≡ None)
apart-front [] others r apart = (refl, apart.0)
apart-front (d ∷ ds) others r apart =
    let rest = apart-front ds others r apart.1 in (
      ap (λ b. cond {A = Option Running} b (Some d) (left_of ds r.app)) (same-sym d.app r.app ∙ left-none ds others r d.app apart.0) ∙ rest.0,
      rest.1,
    )

apart-after : (ds others : List Running) (r : Running) (left : Option Running) → HasNumber r.app left → AreApart (ds ++ r ∷ others) → AreApart (ds ++ (listed left ++ others))
apart-after [] others r None number apart = apart.1
apart-after [] others r (Some x) number apart = (ap (left_of others) number ∙ apart.0, apart.1)
apart-after (d ∷ ds) others r left number apart = (
  left-other ds others r left d.app number (same-sym d.app r.app ∙ left-none ds others r d.app apart.0) ∙ apart.0,
  apart-after ds others r left number apart.1,
)

pub left-turned : (ds others : List Running) (r : Running) → AreApart (ds ++ r ∷ others) → left_of (ds ++ r ∷ others) r.app ≡ Some r
left-turned ds others r apart =
    left-front ds (r ∷ others) r.app (apart-front ds others r apart).0
    ∙ ap (λ b. cond {A = Option Running} b (Some r) (left_of others r.app)) (same-self r.app)

-- Entries of one's own. --

own-mine : (app : ℕ) (added es : List Entry) → Each (λ e. e.app ≡ app) added → own_entries app (added ++ es) ≡ added ++ own_entries app es
own-mine app [] es own = refl
own-mine app (e ∷ added) es own =
    ap (λ b. cond {A = List Entry} b (e ∷ own_entries app (added ++ es)) (own_entries app (added ++ es))) (eq-eqb e.app app own.0)
    ∙ ap (λ l. e ∷ l) (own-mine app added es own.1)

own-other : (app k : ℕ) (added es : List Entry) → (k == app) ≡ false → Each (λ e. e.app ≡ app) added → own_entries k (added ++ es) ≡ own_entries k es
own-other app k [] es differ own = refl
own-other app k (e ∷ added) es differ own =
    ap (λ b. cond {A = List Entry} b (e ∷ own_entries k (added ++ es)) (own_entries k (added ++ es))) (ap (λ n. n == k) own.0 ∙ same-sym app k ∙ differ)
    ∙ own-other app k added es differ own.1

-- The rotation so far. --

-- the bus so far, and those who are left: exactly those that haven't ended
pub record IsFit (limits : Limits) (apps : ℕ) (sofar : SoFar) (rs : List Running) : Type 0 where
  pub sound : IsSound limits apps sofar
  pub apart : AreApart rs
  pub fits : (k : ℕ) → is_some (left_of rs k) ≡ not (is_ended (standing_of sofar.state k))
  pub written : (k : ℕ) → 1 ≤ k → HasWritten sofar.state k (left_of rs k)

-- the whole history goes on from here with what each application has still to make
pub record Owed (sofar : SoFar) (rs : List Running) (whole : List Entry) : Type 0 where
  pub entries : List Entry
  pub history : whole ≡ sofar.history ++ entries
  pub owes : (k : ℕ) → Owes (standing_of sofar.state k) (left_of rs k) (own_entries k entries)

-- from here to there
pub record Leads (limits : Limits) (apps : ℕ) (sofar : SoFar) (rs : List Running) (next : SoFar) (rest : List Running) : Type 0 where
  pub fit : IsFit limits apps next rest
  pub back : (whole : List Entry) → Owed next rest whole → Owed sofar rs whole

pub leads-then : (limits : Limits) (apps : ℕ) (sofar between next : SoFar) (rs ms rest : List Running) → Leads limits apps sofar rs between ms → Leads limits apps between ms next rest →
    Leads limits apps sofar rs next rest
leads-then limits apps sofar between next rs ms rest first second = record { fit = second.fit; back = λ whole owed. first.back whole (second.back whole owed) }

owes-same : (st to : Standing) (o p : Option Running) (es fs : List Entry) → st ≡ to → o ≡ p → es ≡ fs → Owes st o es → Owes to p fs
owes-same st to o p es fs stands left own owed =
    subst (λ x. Owes x p fs) stands (subst (λ x. Owes st x fs) left (subst (λ x. Owes st o x) own owed))

written-other : (s t : State) (k : ℕ) (left : Option Running) → unsent_of t.unsent k ≡ unsent_of s.unsent k → HasWritten s k left → HasWritten t k left
written-other s t k None same written = tt
written-other s t k (Some r) same written = agree-other s t k r.written same written

turn-leads : (limits : Limits) (apps : ℕ) (sofar : SoFar) (ds others : List Running) (r : Running) (next : SoFar × List Running) → IsFit limits apps sofar (ds ++ r ∷ others) →
    (t : IsTurn limits apps sofar r (standing_of sofar.state r.app) next) → Leads limits apps sofar (ds ++ r ∷ others) next.0 (ds ++ (listed t.left ++ others))
turn-leads limits apps sofar ds others r next fit t =
    let front = apart-front ds others r fit.apart in
    let after : List Running = ds ++ (listed t.left ++ others) in
    let before : List Running = ds ++ r ∷ others in
    let here : left_of after r.app ≡ t.left = left-front ds (listed t.left ++ others) r.app front.0 ∙ left-here t.left others r.app t.number front.1 in
    record {
      fit = record {
        sound = t.sound;
        apart = apart-after ds others r t.left t.number fit.apart;
        fits = λ k. elim (k == r.app) as (λ b. (k == r.app) ≡ b → is_some (left_of after k) ≡ not (is_ended (standing_of next.0.state k))) [
          | true ↦ λ is. subst (λ n. is_some (left_of after n) ≡ not (is_ended (standing_of next.0.state n))) (sym (eqb-true k r.app is))
              (ap is_some here ∙ t.fits ∙ ap (λ st. not (is_ended st)) (sym t.stands))
          | false ↦ λ differ.
              ap is_some (left-other ds others r t.left k t.number differ) ∙ fit.fits k ∙ ap (λ st. not (is_ended st)) (sym (t.others k differ))
        ] refl;
        written = λ k first. elim (k == r.app) as (λ b. (k == r.app) ≡ b → HasWritten next.0.state k (left_of after k)) [
          | true ↦ λ is. subst (λ n. HasWritten next.0.state n (left_of after n)) (sym (eqb-true k r.app is)) (subst (HasWritten next.0.state r.app) (sym here) t.written)
          | false ↦ λ differ.
              written-other sofar.state next.0.state k (left_of after k) (t.buffers k first differ)
              (subst (HasWritten sofar.state k) (sym (left-other ds others r t.left k t.number differ)) (fit.written k first))
        ] refl;
      };
      back = λ whole owed. record {
        entries = t.added ++ owed.entries;
        history = owed.history ∙ ap (λ h. h ++ owed.entries) t.history ∙ append_assoc sofar.history t.added owed.entries;
        owes = λ k. elim (k == r.app) as (λ b. (k == r.app) ≡ b → Owes (standing_of sofar.state k) (left_of before k) (own_entries k (t.added ++ owed.entries))) [
          | true ↦ λ is. subst (λ n. Owes (standing_of sofar.state n) (left_of before n) (own_entries n (t.added ++ owed.entries))) (sym (eqb-true k r.app is))
              (owes-same (standing_of sofar.state r.app) (standing_of sofar.state r.app) (Some r) (left_of before r.app) (t.added ++ own_entries r.app owed.entries) (own_entries r.app (t.added ++ owed.entries))
              refl (sym (left-turned ds others r fit.apart)) (sym (own-mine r.app t.added owed.entries t.own))
              (t.owes (own_entries r.app owed.entries)
              (owes-same (standing_of next.0.state r.app) t.now (left_of after r.app) t.left (own_entries r.app owed.entries) (own_entries r.app owed.entries) t.stands here refl (owed.owes r.app))))
          | false ↦ λ differ.
              owes-same (standing_of next.0.state k) (standing_of sofar.state k) (left_of after k) (left_of before k) (own_entries k owed.entries) (own_entries k (t.added ++ owed.entries))
              (t.others k differ) (left-other ds others r t.left k t.number differ) (sym (own-other r.app k t.added owed.entries differ t.own)) (owed.owes k)
        ] refl;
      };
    }

-- What is left to do. --

abbrev pub weights : State → List Running → ℕ
weights s [] = 0
weights s (r ∷ rs) = weight (standing_of s r.app) (Some r) + weights s rs

weights-append : (s : State) (xs ys : List Running) → weights s (xs ++ ys) ≡ weights s xs + weights s ys
weights-append s [] ys = omega arith
weights-append s (x ∷ xs) ys = let rest = weights-append s xs ys in omega (arith, rest)

weights-same : (s t : State) (who : ℕ) (rs : List Running) → ((k : ℕ) → (k == who) ≡ false → standing_of t k ≡ standing_of s k) → left_of rs who ≡ None → weights t rs ≡ weights s rs
weights-same s t who [] same none = refl
weights-same s t who (r ∷ rs) same none =
    elim (r.app == who) as (λ b. (r.app == who) ≡ b → cond {A = Option Running} b (Some r) (left_of rs who) ≡ None → weights t (r ∷ rs) ≡ weights s (r ∷ rs)) [
      | true ↦ λ is some. absurd (some_none r some)
      | false ↦ λ differ none.
          ap (λ st. weight st (Some r) + weights t rs) (same r.app differ)
          ∙ ap (λ n. weight (standing_of s r.app) (Some r) + n) (weights-same s t who rs same none)
    ] refl none

weights-listed : (s : State) (app : ℕ) (now : Standing) (left : Option Running) → HasNumber app left → standing_of s app ≡ now → weights s (listed left) ≡ weight now left
weights-listed s app now None number stands = refl
weights-listed s app now (Some r) number stands =
    ap (λ n. weight (standing_of s n) (Some r) + 0) number
    ∙ ap (λ st. weight st (Some r) + 0) stands
    ∙ nothing (weight now (Some r))
  where
    nothing : (n : ℕ) → n + 0 ≡ n
    nothing n = omega arith

turn-falls : (limits : Limits) (apps : ℕ) (sofar : SoFar) (ds others : List Running) (r : Running) (next : SoFar × List Running) → IsFit limits apps sofar (ds ++ r ∷ others) →
    (t : IsTurn limits apps sofar r (standing_of sofar.state r.app) next) → weight t.now t.left < weight (standing_of sofar.state r.app) (Some r) →
    weights next.0.state (ds ++ (listed t.left ++ others)) < weights sofar.state (ds ++ r ∷ others)
turn-falls limits apps sofar ds others r next fit t less =
    let front = apart-front ds others r fit.apart in
    let now = next.0.state in
    let one = weights-append now ds (listed t.left ++ others) in
    let two = weights-append now (listed t.left) others in
    let three = weights-append sofar.state ds (r ∷ others) in
    let same = weights-same sofar.state now r.app ds t.others front.0 in
    let rest = weights-same sofar.state now r.app others t.others front.1 in
    let mine = weights-listed now r.app t.now t.left t.number t.stands in
    sums (weights now (ds ++ (listed t.left ++ others))) (weights now ds) (weights now (listed t.left ++ others)) (weights now (listed t.left)) (weights now others)
    (weights sofar.state (ds ++ r ∷ others)) (weights sofar.state ds) (weight (standing_of sofar.state r.app) (Some r)) (weights sofar.state others) (weight t.now t.left)
    one two three same rest mine less
  where
    sums : (all front tail mine rest whole ds was others now : ℕ) → all ≡ front + tail → tail ≡ mine + rest → whole ≡ ds + (was + others) → front ≡ ds → rest ≡ others → mine ≡ now → now < was → all < whole
    sums all front tail mine rest whole ds was others now one two three same rests mines less = omega (arith, one, two, three, same, rests, mines, less)

-- Rotations. --

-- what a rotation of these does, after which others turned
pub record HasTurned (limits : Limits) (apps : ℕ) (sofar : SoFar) (ds others : List Running) (next : SoFar × List Running) : Type 0 where
  pub leads : Leads limits apps sofar (ds ++ others) next.0 (ds ++ next.1)
  pub falls : (weights next.0.state (ds ++ next.1) < weights sofar.state (ds ++ others)) ⊎ ((next ≡ (sofar, others)) × Each (λ r. IsStuck sofar.state r.app) others)

pub is_live : (limits : Limits) (apps : ℕ) (sofar : SoFar) (ds others : List Running) (r : Running) → IsFit limits apps sofar (ds ++ r ∷ others) → is_ended (standing_of sofar.state r.app) ≡ false
is_live limits apps sofar ds others r fit =
    not_true (is_ended (standing_of sofar.state r.app)) (sym (fit.fits r.app) ∙ ap is_some (left-turned ds others r fit.apart))

-- who hasn't ended has a number
live-first : (s : State) (app : ℕ) → is_ended (standing_of s app) ≡ false → 1 ≤ app
live-first s zero live = absurd (true≢false live)
live-first s (suc app) live = omega arith

own-written : (limits : Limits) (apps : ℕ) (sofar : SoFar) (ds others : List Running) (r : Running) → IsFit limits apps sofar (ds ++ r ∷ others) → HasWritten sofar.state r.app (Some r)
own-written limits apps sofar ds others r fit =
    subst (HasWritten sofar.state r.app) (left-turned ds others r fit.apart) (fit.written r.app (live-first sofar.state r.app (is_live limits apps sofar ds others r fit)))

abbrev Falls : SoFar → List Running → List Running → SoFar × List Running → Type 0
Falls sofar ds others next = (weights next.0.state (ds ++ next.1) < weights sofar.state (ds ++ others)) ⊎ ((next ≡ (sofar, others)) × Each (λ r. IsStuck sofar.state r.app) others)

falls-then : (sofar : SoFar) (ds others : List Running) (r : Running) (first rest : SoFar × List Running) →
    (weights first.0.state (ds ++ (first.1 ++ others)) < weights sofar.state (ds ++ r ∷ others)) ⊎ ((first ≡ (sofar, r ∷ [])) × IsStuck sofar.state r.app) →
    Falls first.0 (ds ++ first.1) others rest →
    Falls sofar ds (r ∷ others) (rest.0, first.1 ++ rest.1)
falls-then sofar ds others r first rest (inl less) (inl lower) =
    inl (chain _ _ _ (ap (weights rest.0.state) (append_assoc ds first.1 rest.1)) lower (ap (weights first.0.state) (append_assoc ds first.1 others)) less)
  where
    chain : (a b c : ℕ) {e f : ℕ} → e ≡ a → e < f → f ≡ b → b < c → a < c
    chain a b c same less also lower = omega (arith, same, less, also, lower)
falls-then sofar ds others r first rest (inl less) (inr stuck) =
    inl (equal _ _ (ap (λ (x : SoFar × List Running). weights x.0.state (ds ++ (first.1 ++ x.1))) stuck.0) less)
  where
    equal : (a c : ℕ) {b : ℕ} → a ≡ b → b < c → a < c
    equal a c same less = omega (arith, same, less)
falls-then sofar ds others r first rest (inr stay) (inl lower) =
    inl (chain _ _ (ap (weights rest.0.state) (append_assoc ds first.1 rest.1)) lower
    (ap (weights first.0.state) (append_assoc ds first.1 others) ∙ ap (λ (x : SoFar × List Running). weights x.0.state (ds ++ (x.1 ++ others))) stay.0))
  where
    chain : (a c : ℕ) {e f : ℕ} → e ≡ a → e < f → f ≡ c → a < c
    chain a c same less also = omega (arith, same, less, also)
falls-then sofar ds others r first rest (inr stay) (inr stuck) =
    inr (
      ap (λ (x : SoFar × List Running). (x.0, first.1 ++ x.1)) stuck.0 ∙ ap (λ (x : SoFar × List Running). (x.0, x.1 ++ others)) stay.0,
      (stay.1, subst (λ (x : SoFar × List Running). Each (λ q. IsStuck x.0.state q.app) others) stay.0 stuck.1),
    )

-- one turn, of the first of those who have still to take it
pub one-turn : (limits : Limits) (apps : ℕ) (sofar : SoFar) (ds others : List Running) (r : Running) → IsFit limits apps sofar (ds ++ r ∷ others) →
    IsTurn limits apps sofar r (standing_of sofar.state r.app) (turn limits sofar r)
one-turn limits apps sofar ds others r fit =
    turn-in limits apps sofar r (standing_of sofar.state r.app) fit.sound
    (own-written limits apps sofar ds others r fit) refl (is_live limits apps sofar ds others r fit)

pub one-leads : (limits : Limits) (apps : ℕ) (sofar : SoFar) (ds others : List Running) (r : Running) → IsFit limits apps sofar (ds ++ r ∷ others) →
    Leads limits apps sofar (ds ++ r ∷ others) (turn limits sofar r).0 ((ds ++ (turn limits sofar r).1) ++ others)
one-leads limits apps sofar ds others r fit =
    let first : SoFar × List Running = turn limits sofar r in
    let t : IsTurn limits apps sofar r (standing_of sofar.state r.app) first = one-turn limits apps sofar ds others r fit in
    let lists : ds ++ (listed t.left ++ others) ≡ ds ++ (first.1 ++ others) = ap (λ l. ds ++ (l ++ others)) (sym t.lists) in
    subst (λ l. Leads limits apps sofar (ds ++ r ∷ others) first.0 l) (lists ∙ sym (append_assoc ds first.1 others)) (turn-leads limits apps sofar ds others r first fit t)

pub rotated-turns : (limits : Limits) (apps : ℕ) (sofar : SoFar) (ds others : List Running) → IsFit limits apps sofar (ds ++ others) →
    HasTurned limits apps sofar ds others (rotated limits sofar others)
rotated-turns limits apps sofar ds [] fit = record { leads = record { fit = fit; back = λ whole owed. owed }; falls = inr (refl, tt) }
rotated-turns limits apps sofar ds (r ∷ others) fit =
    let first : SoFar × List Running = turn limits sofar r in
    let t : IsTurn limits apps sofar r (standing_of sofar.state r.app) first = one-turn limits apps sofar ds others r fit in
    let lists : ds ++ (listed t.left ++ others) ≡ ds ++ (first.1 ++ others) = ap (λ l. ds ++ (l ++ others)) (sym t.lists) in
    let one = one-leads limits apps sofar ds others r fit in
    let rest = rotated-turns limits apps first.0 (ds ++ first.1) others one.fit in
    let next : SoFar × List Running = rotated limits first.0 others in
    record {
      leads = subst (λ l. Leads limits apps sofar (ds ++ r ∷ others) next.0 l) (append_assoc ds first.1 next.1)
          (leads-then limits apps sofar first.0 next.0 (ds ++ r ∷ others) ((ds ++ first.1) ++ others) ((ds ++ first.1) ++ next.1) one rest.leads);
      falls = falls-then sofar ds others r first next (one_falls first t lists (turn-falls limits apps sofar ds others r first fit t) t.falls) rest.falls;
    }
  where
    one_falls : (first : SoFar × List Running) (t : IsTurn limits apps sofar r (standing_of sofar.state r.app) first) →
        ds ++ (listed t.left ++ others) ≡ ds ++ (first.1 ++ others) →
        (weight t.now t.left < weight (standing_of sofar.state r.app) (Some r) → weights first.0.state (ds ++ (listed t.left ++ others)) < weights sofar.state (ds ++ r ∷ others)) →
        (weight t.now t.left < weight (standing_of sofar.state r.app) (Some r)) ⊎ ((first ≡ (sofar, r ∷ [])) × IsStuck sofar.state r.app) →
        (weights first.0.state (ds ++ (first.1 ++ others)) < weights sofar.state (ds ++ r ∷ others)) ⊎ ((first ≡ (sofar, r ∷ [])) × IsStuck sofar.state r.app)
    one_falls first t lists lower (inl less) = inl (subst (λ l. weights first.0.state l < weights sofar.state (ds ++ r ∷ others)) lists (lower less))
    one_falls first t lists lower (inr stay) = inr stay

-- Not all wait for ever. --

pended-empty : (s : State) (app pipe : ℕ) → pended_answer s app pipe ≡ Pending → (is_empty s.pipes pipe ≡ true) × (others_idle s app ≡ false)
pended-empty s app pipe pending =
    let got = Got (oldest_number s.pipes pipe) in
    elim (is_empty s.pipes pipe) as (λ b. cond {A = BusAnswer} (not b) got (cond {A = BusAnswer} (others_idle s app) TimeOut Pending) ≡ Pending → (b ≡ true) × (others_idle s app ≡ false)) [
      | true ↦ elim (others_idle s app) as (λ c. cond {A = BusAnswer} c TimeOut Pending ≡ Pending → (true ≡ true) × (c ≡ false)) [
        | true ↦ λ is. absurd (true≢false (sym (ap is_pending is)))
        | false ↦ λ is. (refl, refl)
      ]
      | false ↦ λ is. absurd (true≢false (sym (ap is_pending is)))
    ] pending

ended-idle : (pipes : List Pipe) (standing : Standing) → is_ended standing ≡ true → is_idle pipes standing ≡ true
ended-idle pipes Active is = absurd (true≢false (sym is))
ended-idle pipes (Waiting pipe) is = absurd (true≢false (sym is))
ended-idle pipes Ended is = refl

stuck-idle : (s : State) (rs : List Running) (k : ℕ) → Each (λ r. IsStuck s r.app) rs → is_some (left_of rs k) ≡ true → is_idle s.pipes (standing_of s k) ≡ true
stuck-idle s [] k stuck some = absurd (true≢false (sym some))
stuck-idle s (r ∷ rs) k stuck some =
    elim (r.app == k) as (λ b. (r.app == k) ≡ b → is_some (cond {A = Option Running} b (Some r) (left_of rs k)) ≡ true → is_idle s.pipes (standing_of s k) ≡ true) [
      | true ↦ λ is some.
          subst (λ n. is_idle s.pipes (standing_of s n) ≡ true) (eqb-true r.app k is)
          (ap (is_idle s.pipes) stuck.0.waits ∙ (pended-empty s r.app stuck.0.pipe stuck.0.nothing).0)
      | false ↦ λ differ some. stuck-idle s rs k stuck.1 some
    ] refl some

all-idle : (pipes : List Pipe) (xs : List Standing) → ((i : ℕ) → is_idle pipes (slice_index_or xs i Ended) ≡ true) → list_all (is_idle pipes) xs ≡ true
all-idle pipes [] idle = refl
all-idle pipes (x ∷ xs) idle = ap (λ b. b && list_all (is_idle pipes) xs) (idle 0) ∙ all-idle pipes xs (λ i. idle (suc i))

idle-set : (pipes : List Pipe) (xs : List Standing) (at i : ℕ) → ((i : ℕ) → is_idle pipes (slice_index_or xs i Ended) ≡ true) → is_idle pipes (slice_index_or (slice_set xs at Ended) i Ended) ≡ true
idle-set pipes [] at i idle = refl
idle-set pipes (x ∷ xs) zero zero idle = refl
idle-set pipes (x ∷ xs) zero (suc i) idle = idle (suc i)
idle-set pipes (x ∷ xs) (suc at) zero idle = idle 0
idle-set pipes (x ∷ xs) (suc at) (suc i) idle = idle-set pipes xs at i (λ j. idle (suc j))

-- if all that are left are stuck, the first look is a time-out
not_stuck : (limits : Limits) (apps : ℕ) (sofar : SoFar) (r : Running) (others : List Running) → IsFit limits apps sofar (r ∷ others) → Each (λ q. IsStuck sofar.state q.app) (r ∷ others) → ⊥
not_stuck limits apps sofar r others fit stuck =
    let s = sofar.state in
    let idle : (k : ℕ) → is_idle s.pipes (standing_of s k) ≡ true = λ k.
    elim (is_some (left_of (r ∷ others) k)) as (λ b. is_some (left_of (r ∷ others) k) ≡ b → is_idle s.pipes (standing_of s k) ≡ true) [
      | true ↦ λ is. stuck-idle s (r ∷ others) k stuck is
      | false ↦ λ is. ended-idle s.pipes (standing_of s k) (not_false (is_ended (standing_of s k)) (sym (fit.fits k) ∙ is))
    ] refl in
    let at : (i : ℕ) → is_idle s.pipes (slice_index_or s.standings i Ended) ≡ true = λ i. ap (is_idle s.pipes) (sym (standing_at s i)) ∙ idle (suc i) in
    true≢false (sym (all-idle s.pipes (slice_set s.standings (r.app - 1) Ended) (λ i. idle-set s.pipes s.standings (r.app - 1) i at)) ∙ (pended-empty s r.app stuck.0.pipe stuck.0.nothing).1)

-- what so many rotations do
pub record HasRotated (limits : Limits) (apps : ℕ) (sofar : SoFar) (rs : List Running) (next : SoFar × List Running) : Type 0 where
  pub leads : Leads limits apps sofar rs next.0 next.1
  pub none : next.1 ≡ []

pub rotations-end : (n : ℕ) (limits : Limits) (apps : ℕ) (sofar : SoFar) (rs : List Running) → IsFit limits apps sofar rs → weights sofar.state rs ≤ n →
    HasRotated limits apps sofar rs (rotations n limits (sofar, rs))
rotations-end zero limits apps sofar [] fit few = record { leads = record { fit = fit; back = λ whole owed. owed }; none = refl }
rotations-end zero limits apps sofar (r ∷ others) fit few = absurd (omega (arith, few))
rotations-end (suc n) limits apps sofar [] fit few = rotations-end n limits apps sofar [] fit (omega arith)
rotations-end (suc n) limits apps sofar (r ∷ others) fit few =
    let next : SoFar × List Running = rotated limits sofar (r ∷ others) in
    let turned = rotated-turns limits apps sofar [] (r ∷ others) fit in
    let less : weights next.0.state next.1 < weights sofar.state (r ∷ others) = lower turned.falls in
    let rest = rotations-end n limits apps next.0 next.1 turned.leads.fit (fewer _ _ less few) in
    record {
      leads = leads-then limits apps sofar next.0 (rotations n limits next).0 (r ∷ others) next.1 (rotations n limits next).1 turned.leads rest.leads;
      none = rest.none;
    }
  where
    lower : Falls sofar [] (r ∷ others) (rotated limits sofar (r ∷ others)) → weights (rotated limits sofar (r ∷ others)).0.state (rotated limits sofar (r ∷ others)).1 < weights sofar.state (r ∷ others)
    lower (inl less) = less
    lower (inr stuck) = absurd (not_stuck limits apps sofar r others fit stuck.1)

    fewer : (a b : ℕ) → a < b → b ≤ suc n → a ≤ n
    fewer a b less few = omega (arith, less, few)
