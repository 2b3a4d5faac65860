-- News for applications that wait: without news each look is in vain, and with news a look is answered.
use Rattle.std.proofs.Common.{◌≡◌, ◌≢◌, ℕ, zero, suc, ◌+◌, ◌-◌, ◌<◌, ◌||◌, ◌&&◌, not, Bool, true, false, true≢false, cond, eqb, ne_eqb, if◌then◌else◌, List, [], ◌∷◌, length, map, get_or, set, refl, ap, ap₂, sym, ◌∙◌, arith}
use Rattle.std.specs.List.{list_any, list_all}
use Rattle.std.proofs.lemmas.List.Folds.{list_any_at, list_all-map}
use Rattle.bus_words.specs.declared.calls.BusAnswer.{BusAnswer}
use Rattle.bus_words.specs.declared.calls.BusAnswer.TheVariants.{Got, TimeOut, Pending}
use Rattle.bus_words.specs.Bus.{State, Standing, Active, Waiting, Ended, is_empty, is_idle, others_idle, standing_of, waited_on}
use Rattle.bus_words.specs.Machine.{oldest_number, pended_answer}
use Rattle.bus_core.specs.declared.activities.Activity.{Activity}
use Rattle.bus_core.specs.declared.plain.PlainBus.TheInside.{Inside}
use Rattle.bus_core.specs.Inside.{means}
use Rattle.bus_core.specs.News.{is_waiting, has_message, has_news}
use Rattle.bus_core.specs.Rows.{standing_in, idle_in}

-- Lists. --

pub list_any-map : {X Y : Type 0} (p : X → Bool) (h : Y → X) (ys : List Y) → list_any p (map h ys) ≡ list_any (λ y. p (h y)) ys
list_any-map p h [] = refl
list_any-map p h (y ∷ ys) = ap (λ b. p (h y) || b) (list_any-map p h ys)

-- an element that passes, if some one does
found_at : {X : Type 0} (p : X → Bool) (xs : List X) (d : X) → list_any p xs ≡ true → (i : ℕ) × (i < length xs) × (p (get_or xs i d) ≡ true)
found_at p [] d is = absurd (true≢false (sym is))
found_at {X} p (x ∷ xs) d is = by (p x) refl is (found_at p xs d)
  where
    by : (b : Bool) → p x ≡ b → (b || list_any p xs) ≡ true → (list_any p xs ≡ true → (i : ℕ) × (i < length xs) × (p (get_or xs i d) ≡ true)) → (i : ℕ) × (i < length (x ∷ xs)) × (p (get_or (x ∷ xs) i d) ≡ true)
    by true here is later = (0, omega arith, here)
    by false here is later = let r = later is in (suc r.0, omega (arith, r.1), r.2)

-- Standings. --

either_false : (a b : Bool) → (a || b) ≡ false → (a ≡ false) × (b ≡ false)
either_false true b is = absurd (true≢false is)
either_false false b is = (refl, is)

-- an element in the place of one that is as idle leaves whether all are
all_as_before : {X : Type 0} (p : X → Bool) (xs : List X) (i : ℕ) (y d : X) → i < length xs → p y ≡ true → p (get_or xs i d) ≡ true → list_all p (set xs i y) ≡ list_all p xs
all_as_before p [] i y d within passes passed = absurd (omega (arith, within))
all_as_before p (x ∷ xs) zero y d within passes passed = ap (λ b. b && list_all p xs) (passes ∙ sym passed)
all_as_before p (x ∷ xs) (suc i) y d within passes passed = ap (λ b. p x && b) (all_as_before p xs i y d (omega (arith, within)) passes passed)

-- what passes for all passes for each
all_at : {X : Type 0} (p : X → Bool) (xs : List X) (i : ℕ) (d : X) → list_all p xs ≡ true → i < length xs → p (get_or xs i d) ≡ true
all_at p [] i d all within = absurd (omega (arith, within))
all_at {X} p (x ∷ xs) i d all within = by (p x) refl all i within (λ k rest before. all_at p xs k d rest before)
  where
    by : (b : Bool) → p x ≡ b → (b && list_all p xs) ≡ true → (k : ℕ) → k < length (x ∷ xs) → ((j : ℕ) → list_all p xs ≡ true → j < length xs → p (get_or xs j d) ≡ true) → p (get_or (x ∷ xs) k d) ≡ true
    by true here rest zero within later = here
    by true here rest (suc k) within later = later k rest (omega (arith, within))
    by false here rest k within later = absurd (true≢false (sym rest))

-- one that waits is one of the applications
waits_within : (standings : List Standing) (i pipe : ℕ) → get_or standings i Ended ≡ Waiting pipe → i < length standings
waits_within [] i pipe is = absurd (cc is)
waits_within (x ∷ xs) zero pipe is = omega arith
waits_within (x ∷ xs) (suc i) pipe is = let r : i < length xs = waits_within xs i pipe is in omega arith

waits_at : (s : State) (app pipe : ℕ) → standing_of s app ≡ Waiting pipe → get_or s.standings (app - 1) Ended ≡ Waiting pipe
waits_at s app pipe is = by (eqb app 0) is
  where
    by : (b : Bool) → cond {A = Standing} b Ended (get_or s.standings (app - 1) Ended) ≡ Waiting pipe → get_or s.standings (app - 1) Ended ≡ Waiting pipe
    by true is = absurd (cc is)
    by false is = is

standing_next : (s : State) (i : ℕ) → standing_of s (i + 1) ≡ get_or s.standings i Ended
standing_next s i =
    let back : i + 1 - 1 ≡ i = omega arith in
    ap (λ b. cond {A = Standing} b Ended (get_or s.standings (i + 1 - 1) Ended)) (ne_eqb (i + 1) 0 (λ e. omega (arith, e)))
    ∙ ap (λ (k : ℕ). get_or s.standings k Ended) back

-- Looks. --

-- what a look is answered, by whether the pipe is empty and all others are idle
abbrev answer_by : Bool → Bool → ℕ → BusAnswer
answer_by empty idle number = if not empty then Got number else if idle then TimeOut else Pending

module _ (s : State) where
  -- an application that waits on an empty pipe is no busier than one that has ended
  others_as_all : (app pipe : ℕ) → standing_of s app ≡ Waiting pipe → is_empty s.pipes pipe ≡ true → others_idle s app ≡ list_all (is_idle s.pipes) s.standings
  others_as_all app pipe is empty =
      let here = waits_at s app pipe is in
      all_as_before (is_idle s.pipes) s.standings (app - 1) Ended Ended (waits_within s.standings (app - 1) pipe here) refl (ap (is_idle s.pipes) here ∙ empty)

  no_message : (app pipe : ℕ) → list_any (has_message s.pipes) s.standings ≡ false → standing_of s app ≡ Waiting pipe → is_empty s.pipes pipe ≡ true
  no_message app pipe none is = by (is_empty s.pipes pipe) refl
    where
      here : get_or s.standings (app - 1) Ended ≡ Waiting pipe
      here = waits_at s app pipe is

      by : (b : Bool) → is_empty s.pipes pipe ≡ b → is_empty s.pipes pipe ≡ true
      by true e = e
      by false e =
          absurd (true≢false (sym (list_any_at (has_message s.pipes) s.standings (app - 1) Ended (waits_within s.standings (app - 1) pipe here) (ap (has_message s.pipes) here ∙ ap not e)) ∙ none))

  someone_busy : (app pipe : ℕ) → (list_any is_waiting s.standings && list_all (is_idle s.pipes) s.standings) ≡ false → standing_of s app ≡ Waiting pipe → list_all (is_idle s.pipes) s.standings ≡ false
  someone_busy app pipe none is =
      let here = waits_at s app pipe is in
      ap (λ b. b && list_all (is_idle s.pipes) s.standings) (sym (list_any_at is_waiting s.standings (app - 1) Ended (waits_within s.standings (app - 1) pipe here) (ap is_waiting here))) ∙ none

  -- without news each look is in vain
  none_answered : has_news s ≡ false → (app pipe : ℕ) → standing_of s app ≡ Waiting pipe → pended_answer s app pipe ≡ Pending
  none_answered none app pipe is =
      let parts = either_false (list_any (has_message s.pipes) s.standings) (list_any is_waiting s.standings && list_all (is_idle s.pipes) s.standings) none in
      let empty = no_message app pipe parts.0 is in
      ap (λ b. answer_by b (others_idle s app) (oldest_number s.pipes pipe)) empty
      ∙ ap (λ b. answer_by true b (oldest_number s.pipes pipe)) (others_as_all app pipe is empty ∙ someone_busy app pipe parts.1 is)

  message_of : (x : Standing) → has_message s.pipes x ≡ true → (pipe : ℕ) × (x ≡ Waiting pipe) × (is_empty s.pipes pipe ≡ false)
  message_of Active is = absurd (true≢false (sym is))
  message_of (Waiting pipe) is = (pipe, refl, by (is_empty s.pipes pipe) is)
    where
      by : (b : Bool) → not b ≡ true → b ≡ false
      by true is = absurd (true≢false (sym is))
      by false is = refl
  message_of Ended is = absurd (true≢false (sym is))

  waiting_of : (x : Standing) → is_waiting x ≡ true → (pipe : ℕ) × (x ≡ Waiting pipe)
  waiting_of Active is = absurd (true≢false (sym is))
  waiting_of (Waiting pipe) is = (pipe, refl)
  waiting_of Ended is = absurd (true≢false (sym is))

  -- and with news a look is answered
  some_answered : has_news s ≡ true → (app : ℕ) × (pipe : ℕ) × (standing_of s app ≡ Waiting pipe) × (pended_answer s app pipe ≢ Pending)
  some_answered some = by (list_any (has_message s.pipes) s.standings) refl some
    where
      both : (a b : Bool) → (a && b) ≡ true → (a ≡ true) × (b ≡ true)
      both true b is = (refl, is)
      both false b is = absurd (true≢false (sym is))

      by : (b : Bool) → list_any (has_message s.pipes) s.standings ≡ b → (b || (list_any is_waiting s.standings && list_all (is_idle s.pipes) s.standings)) ≡ true
          → (app : ℕ) × (pipe : ℕ) × (standing_of s app ≡ Waiting pipe) × (pended_answer s app pipe ≢ Pending)
      by true any is =
          let r = found_at (has_message s.pipes) s.standings Ended any in
          let m = message_of (get_or s.standings r.0 Ended) r.2 in
          let answer = ap (λ b. answer_by b (others_idle s (r.0 + 1)) (oldest_number s.pipes m.0)) m.2 in
          (r.0 + 1, m.0, standing_next s r.0 ∙ m.1, λ vain. absurd (cc (sym answer ∙ vain)))
      by false any is =
          let parts = both (list_any is_waiting s.standings) (list_all (is_idle s.pipes) s.standings) is in
          let r = found_at is_waiting s.standings Ended parts.0 in
          let w = waiting_of (get_or s.standings r.0 Ended) r.2 in
          let stands = standing_next s r.0 ∙ w.1 in
          let empty : is_empty s.pipes w.0 ≡ true = sym (ap (is_idle s.pipes) w.1) ∙ all_at (is_idle s.pipes) s.standings r.0 Ended parts.1 r.1 in
          let answer =
          ap (λ b. answer_by b (others_idle s (r.0 + 1)) (oldest_number s.pipes w.0)) empty
          ∙ ap (λ b. answer_by true b (oldest_number s.pipes w.0)) (others_as_all (r.0 + 1) w.0 stands empty ∙ parts.1) in
          (r.0 + 1, w.0, stands, λ vain. absurd (cc (sym answer ∙ vain)))

  waited : (x : Standing) → is_waiting x ≡ true → x ≡ Waiting (waited_on x)
  waited Active is = absurd (true≢false (sym is))
  waited (Waiting pipe) is = refl
  waited Ended is = absurd (true≢false (sym is))

  -- the same of the pipe that the application waits on
  pub none_heard : has_news s ≡ false → (app : ℕ) → is_waiting (standing_of s app) ≡ true → pended_answer s app (waited_on (standing_of s app)) ≡ Pending
  none_heard none app waits = none_answered none app (waited_on (standing_of s app)) (waited (standing_of s app) waits)

  pub some_heard : has_news s ≡ true → (app : ℕ) × (is_waiting (standing_of s app) ≡ true) × (pended_answer s app (waited_on (standing_of s app)) ≢ Pending)
  some_heard some =
      let r = some_answered some in
      (r.0, ap is_waiting r.2, λ vain. r.3 (ap (λ (x : Standing). pended_answer s r.0 (waited_on x)) (sym r.2) ∙ vain))

-- Activities. --

-- as the core's fields say it
news-acts : (a : Inside) →
    (list_any (λ (x : Activity). has_message a.store.pipes (standing_in x)) a.activities.items
    || (list_any (λ (x : Activity). is_waiting (standing_in x)) a.activities.items && list_all (idle_in a.store.pipes) a.activities.items))
    ≡ has_news (means a).bus
news-acts a =
    let pipes = a.store.pipes in
    let acts = a.activities.items in
    ap₂ (λ (x y : Bool). x || (y && list_all (idle_in pipes) acts)) (sym (list_any-map (has_message pipes) standing_in acts)) (sym (list_any-map is_waiting standing_in acts))
    ∙ ap (λ (z : Bool). list_any (has_message pipes) (map standing_in acts) || (list_any is_waiting (map standing_in acts) && z)) (sym (list_all-map (is_idle pipes) standing_in acts))

-- the same of a slice of the activities
pub news-told : (a : Inside) (acts : List Activity) → acts ≡ a.activities.items →
    (list_any (λ (x : Activity). has_message a.store.pipes (standing_in x)) acts
    || (list_any (λ (x : Activity). is_waiting (standing_in x)) acts && list_all (idle_in a.store.pipes) acts))
    ≡ has_news (means a).bus
news-told a acts same =
    ap (λ (l : List Activity). list_any (λ (x : Activity). has_message a.store.pipes (standing_in x)) l || (list_any (λ (x : Activity). is_waiting (standing_in x)) l && list_all (idle_in a.store.pipes) l)) same
    ∙ news-acts a
