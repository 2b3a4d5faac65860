-- Counters, once more was counted.
use Rattle.std.proofs.Common.{rules, ◌≡◌, List, [], ◌∷◌, ◌++◌, fold, refl, sym, ap, ◌∙◌, append_assoc, append-nil, arith}
use Rattle.std.proofs.lemmas.Grind.{common_steps}
use Rattle.housekeeping.specs.declared.names.CounterName.{CounterName}
use Rattle.housekeeping.specs.declared.names.CounterName.TheVariants.{Nosub, Send, Recv, Create, Sub, Opts, Find, Dup, Limit, Overflow, Oldest}
use Rattle.housekeeping.specs.Counters.{count_of, ticked, times, shown, counts_of}

-- one event more is one tick more
pub counts_of-push : (events : List CounterName) (event : CounterName) → counts_of (events ++ event ∷ []) ≡ ticked (counts_of events) event
counts_of-push events event = first_of (search rules, grind (arith, common_steps))

-- some events more are as many ticks, in order
pub counts_of-append : (events more : List CounterName) → counts_of (events ++ more) ≡ fold ticked (counts_of events) more
counts_of-append events [] = ap counts_of (append-nil events)
counts_of-append events (event ∷ more) =
    ap counts_of (sym (append_assoc events (event ∷ []) more))
    ∙ counts_of-append (events ++ event ∷ []) more
    ∙ ap (λ counts. fold ticked counts more) (counts_of-push events event)

-- each counter shows how often its name stands among the events
pub count_of-counts_of : (events : List CounterName) (name : CounterName) → count_of (counts_of events) name ≡ shown (times name events)
count_of-counts_of events Nosub = refl
count_of-counts_of events Send = refl
count_of-counts_of events Recv = refl
count_of-counts_of events Create = refl
count_of-counts_of events Sub = refl
count_of-counts_of events Opts = refl
count_of-counts_of events Find = refl
count_of-counts_of events Dup = refl
count_of-counts_of events Limit = refl
count_of-counts_of events Overflow = refl
count_of-counts_of events Oldest = refl
