-- What the lines of a report tell.
use Rattle.std.proofs.Common.{◌≡◌, ℕ, ◌+◌, ◌<◌, ◌^◌, ◌==◌, nat_lt, if◌then◌else◌, Bool, true, false, List, [], ◌∷◌, ◌++◌, length, get_or, sum, find, Option, Some, None, All, codes, decimal, refl, ap, sym, ◌∙◌, arith, append_assoc}
use Rattle.std.specs.List.{list_all}
use Rattle.std.specs.Str.{bytes_eq}
use Rattle.std.proofs.lemmas.Fmt.{decimal_injective}
use Rattle.std.proofs.lemmas.List.{append_cancel_left}
use Rattle.std.proofs.lemmas.List.Elements.{All-head, All-tail}
use Rattle.fsw_base.specs.declared.config.Scope.{Scope}
use Rattle.fsw_base.specs.declared.config.Scope.TheVariants as scopes
use Rattle.fsw_base.specs.declared.statuses.SbStatus.{SbStatus}
use Rattle.fsw_base.specs.declared.statuses.SbStatus.TheVariants.{BadArgument, MaxPipesMet, PipeCrErr, MaxMsgsMet, MaxDestsMet, MsgTooBig, BufAlocErr, NoMessage, BufferInvalid}
use Rattle.fsw_base.specs.declared.statuses.EsStatus.{EsStatus}
use Rattle.fsw_base.specs.declared.statuses.EsStatus.TheVariants.{ErrMemBlockSize, BufferNotInPool, PoolBlockInvalid, NoPool}
use Rattle.fsw_base.specs.declared.statuses.EvsStatus.{EvsStatus}
use Rattle.fsw_base.specs.declared.statuses.EvsStatus.TheVariants.{AppNotRegistered, EvtNotRegistered}
use Rattle.fsw_base.specs.declared.config.PoolStats.{PoolStats}
use Rattle.fsw_base.specs.declared.config.BusStats.{BusStats}
use Rattle.fsw_base.specs.Events.{kind_number}
use Rattle.fsw_base.specs.Statuses.{sb_name, es_name, evs_name}
use Rattle.bus_words.specs.declared.calls.BusAnswer.{BusAnswer}
use Rattle.bus_words.specs.declared.calls.BusAnswer.TheVariants.{Done, Number, Name, Sent, Got, TimeOut, Pending, Pool, Bus, Sb, Es, Evs}
use Rattle.bus_words.specs.declared.history.Call.{Call}
use Rattle.bus_words.specs.declared.history.Call.TheVariants.{Create, Delete, SetOpts, GetOpts, Find, PipeName, Subscribe, Unsubscribe, Transmit, Receive, Pend, Look, Allocate, TransmitBuffer, Release, PoolCreate, PoolGet, PoolPut, PoolFigures, Register, SendEvent, ResetFilter, LogMode, ClearLog, Housekeeping, Figures, End}
use Rattle.bus_words.specs.declared.history.Entry.{Entry}
use Rattle.text_page.specs.Texts.{name_text, numbered}
use Rattle.run_report.specs.BusText.{scope_text, mode_text, call_text, figures_text, stats_text, answer_text, entry_text}
use Rattle.run_report.specs.ReadBack.{has_plain_name, can_answer, tells_plain_name, are_short, are_short_stats, has_short_numbers, IsPlain, TellTheSame}
use Rattle.run_report.proofs.Splits.{above, above-append, above-from_within, and_first, and_second, split_once, split_twice, split_thrice, decimal_above, letter_not_decimal}
use Rattle.run_report.proofs.Words.{short, same_fronts, name_word, word, behind_word, behind_number, split_four, beginning, fourth, line_parts}

-- Answers. --

name_above : (status : SbStatus) → above 11 (sb_name status) ≡ true
name_above BadArgument = refl
name_above MaxPipesMet = refl
name_above PipeCrErr = refl
name_above MaxMsgsMet = refl
name_above MaxDestsMet = refl
name_above MsgTooBig = refl
name_above BufAlocErr = refl
name_above NoMessage = refl
name_above BufferInvalid = refl

pool_name_above : (status : EsStatus) → above 11 (es_name status) ≡ true
pool_name_above ErrMemBlockSize = refl
pool_name_above BufferNotInPool = refl
pool_name_above PoolBlockInvalid = refl
pool_name_above NoPool = refl

event_name_above : (status : EvsStatus) → above 11 (evs_name status) ≡ true
event_name_above AppNotRegistered = refl
event_name_above EvtNotRegistered = refl

-- nor have figures
figures_above : (figures : PoolStats) → above 11 (figures_text figures) ≡ true
figures_above figures = words (decimal figures.size) (decimal figures.requests) (decimal figures.errors) (decimal figures.free)
    (decimal_above 11 figures.size (omega arith)) (decimal_above 11 figures.requests (omega arith))
    (decimal_above 11 figures.errors (omega arith)) (decimal_above 11 figures.free (omega arith))
  where
    words : (u v w z : List ℕ) → above 11 u ≡ true → above 11 v ≡ true → above 11 w ≡ true → above 11 z ≡ true →
        above 11 ((((((u ++ 32 ∷ []) ++ v) ++ 32 ∷ []) ++ w) ++ 32 ∷ []) ++ z) ≡ true
    words u v w z first second third fourth =
        above-append 11 (((((u ++ 32 ∷ []) ++ v) ++ 32 ∷ []) ++ w) ++ 32 ∷ []) z
        (above-append 11 ((((u ++ 32 ∷ []) ++ v) ++ 32 ∷ []) ++ w) (32 ∷ [])
        (above-append 11 (((u ++ 32 ∷ []) ++ v) ++ 32 ∷ []) w
        (above-append 11 ((u ++ 32 ∷ []) ++ v) (32 ∷ [])
        (above-append 11 (u ++ 32 ∷ []) v (above-append 11 u (32 ∷ []) first refl) second) refl) third) refl) fourth

stats_above : (stats : BusStats) → above 11 (stats_text stats) ≡ true
stats_above stats = words (decimal stats.nosub) (decimal stats.limit) (decimal stats.overflow) (decimal stats.buffers) (decimal stats.bytes)
    (decimal_above 11 stats.nosub (omega arith)) (decimal_above 11 stats.limit (omega arith)) (decimal_above 11 stats.overflow (omega arith))
    (decimal_above 11 stats.buffers (omega arith)) (decimal_above 11 stats.bytes (omega arith))
  where
    one_more : (u v : List ℕ) → above 11 u ≡ true → above 11 v ≡ true → above 11 ((u ++ 32 ∷ []) ++ v) ≡ true
    one_more u v first second = above-append 11 (u ++ 32 ∷ []) v (above-append 11 u (32 ∷ []) first refl) second

    words : (u v w z x : List ℕ) → above 11 u ≡ true → above 11 v ≡ true → above 11 w ≡ true → above 11 z ≡ true → above 11 x ≡ true →
        above 11 ((((((((u ++ 32 ∷ []) ++ v) ++ 32 ∷ []) ++ w) ++ 32 ∷ []) ++ z) ++ 32 ∷ []) ++ x) ≡ true
    words u v w z x first second third fourth fifth =
        one_more ((((((u ++ 32 ∷ []) ++ v) ++ 32 ∷ []) ++ w) ++ 32 ∷ []) ++ z) x
        (one_more ((((u ++ 32 ∷ []) ++ v) ++ 32 ∷ []) ++ w) z (one_more ((u ++ 32 ∷ []) ++ v) w (one_more u v first second) third) fourth) fifth

-- an answer has no line end
answer_above : (a : BusAnswer) → tells_plain_name a ≡ true → above 11 (answer_text a) ≡ true
answer_above Done plain = refl
answer_above (Number number) plain = decimal_above 11 number (omega arith)
answer_above (Name name) plain = above-from_within 33 126 11 (omega arith) name plain
answer_above (Sent number reached) plain =
    above-append 11 (decimal number ++ 32 ∷ []) (decimal reached)
    (above-append 11 (decimal number) (32 ∷ []) (decimal_above 11 number (omega arith)) refl) (decimal_above 11 reached (omega arith))
answer_above (Got number) plain = decimal_above 11 number (omega arith)
answer_above TimeOut plain = refl
answer_above Pending plain = refl
answer_above (Pool figures) plain = figures_above figures
answer_above (Bus stats) plain = stats_above stats
answer_above (Sb status) plain = name_above status
answer_above (Es status) plain = pool_name_above status
answer_above (Evs status) plain = event_name_above status

-- the refusal of a name
all_refusals : List SbStatus
all_refusals = BadArgument ∷ MaxPipesMet ∷ PipeCrErr ∷ MaxMsgsMet ∷ MaxDestsMet ∷ MsgTooBig ∷ BufAlocErr ∷ NoMessage ∷ BufferInvalid ∷ []

refusal_of : List ℕ → Option SbStatus
refusal_of text = find (λ s. bytes_eq (sb_name s) text) all_refusals

refusal_of-name : (s : SbStatus) → refusal_of (sb_name s) ≡ Some s
unfolding refusal_of all_refusals
refusal_of-name BadArgument = refl
refusal_of-name MaxPipesMet = refl
refusal_of-name PipeCrErr = refl
refusal_of-name MaxMsgsMet = refl
refusal_of-name MaxDestsMet = refl
refusal_of-name MsgTooBig = refl
refusal_of-name BufAlocErr = refl
refusal_of-name NoMessage = refl
refusal_of-name BufferInvalid = refl

same_name : (s t : SbStatus) → sb_name s ≡ sb_name t → s ≡ t
same_name s t e = let both : Some s ≡ Some t = sym (refusal_of-name s) ∙ ap refusal_of e ∙ refusal_of-name t in cc both

all_pool_refusals : List EsStatus
all_pool_refusals = ErrMemBlockSize ∷ BufferNotInPool ∷ PoolBlockInvalid ∷ NoPool ∷ []

pool_refusal_of : List ℕ → Option EsStatus
pool_refusal_of text = find (λ s. bytes_eq (es_name s) text) all_pool_refusals

pool_refusal_of-name : (s : EsStatus) → pool_refusal_of (es_name s) ≡ Some s
unfolding pool_refusal_of all_pool_refusals
pool_refusal_of-name ErrMemBlockSize = refl
pool_refusal_of-name BufferNotInPool = refl
pool_refusal_of-name PoolBlockInvalid = refl
pool_refusal_of-name NoPool = refl

same_pool_name : (s t : EsStatus) → es_name s ≡ es_name t → s ≡ t
same_pool_name s t e = let both : Some s ≡ Some t = sym (pool_refusal_of-name s) ∙ ap pool_refusal_of e ∙ pool_refusal_of-name t in cc both

all_event_refusals : List EvsStatus
all_event_refusals = AppNotRegistered ∷ EvtNotRegistered ∷ []

event_refusal_of : List ℕ → Option EvsStatus
event_refusal_of text = find (λ s. bytes_eq (evs_name s) text) all_event_refusals

event_refusal_of-name : (s : EvsStatus) → event_refusal_of (evs_name s) ≡ Some s
unfolding event_refusal_of all_event_refusals
event_refusal_of-name AppNotRegistered = refl
event_refusal_of-name EvtNotRegistered = refl

same_event_name : (s t : EvsStatus) → evs_name s ≡ evs_name t → s ≡ t
same_event_name s t e = let both : Some s ≡ Some t = sym (event_refusal_of-name s) ∙ ap event_refusal_of e ∙ event_refusal_of-name t in cc both

-- no refusal is a time-out
not_time_out : (s : SbStatus) → sb_name s ≡ codes "CFE_SB_TIME_OUT" → ⊥
unfolding refusal_of all_refusals
not_time_out s e = let other : Some s ≡ None = sym (refusal_of-name s) ∙ ap refusal_of e in cc other

-- what the sixth byte of a text tells of an answer: 0 of a call that is done, 1 of a refusal by the bus or a time-out, 2 of a
-- wait, 3 of a refusal by the event services, 4 of a refusal by the pools
abbrev kind_at : List ℕ → ℕ
kind_at text =
    let byte = get_or text 5 0 in
    if byte == 85 then 0 else (if byte == 66 then 1 else (if byte == 78 then 2 else (if byte == 86 then 3 else 4)))

sixth_name : (s : SbStatus) → kind_at (sb_name s) ≡ 1
sixth_name BadArgument = refl
sixth_name MaxPipesMet = refl
sixth_name PipeCrErr = refl
sixth_name MaxMsgsMet = refl
sixth_name MaxDestsMet = refl
sixth_name MsgTooBig = refl
sixth_name BufAlocErr = refl
sixth_name NoMessage = refl
sixth_name BufferInvalid = refl

sixth_event_name : (s : EvsStatus) → kind_at (evs_name s) ≡ 3
sixth_event_name AppNotRegistered = refl
sixth_event_name EvtNotRegistered = refl

sixth_pool_name : (s : EsStatus) → kind_at (es_name s) ≡ 4
sixth_pool_name ErrMemBlockSize = refl
sixth_pool_name BufferNotInPool = refl
sixth_pool_name PoolBlockInvalid = refl
sixth_pool_name NoPool = refl

abbrev kind_of : BusAnswer → ℕ
kind_of (Sb s) = 1
kind_of TimeOut = 1
kind_of Pending = 2
kind_of (Evs s) = 3
kind_of (Es s) = 4
kind_of a = 0

sixth : (a : BusAnswer) → kind_at (answer_text a) ≡ kind_of a
sixth Done = refl
sixth (Number number) = refl
sixth (Name name) = refl
sixth (Sent number reached) = refl
sixth (Got number) = refl
sixth TimeOut = refl
sixth Pending = refl
sixth (Pool figures) = refl
sixth (Bus stats) = refl
sixth (Sb s) = sixth_name s
sixth (Es s) = sixth_pool_name s
sixth (Evs s) = sixth_event_name s

same_kind : (a b : BusAnswer) → answer_text a ≡ answer_text b → kind_of a ≡ kind_of b
same_kind a b e = sym (sixth a) ∙ ap kind_at e ∙ sixth b

-- of numbers that have 32 bits, the first and the others
first_short : (n : ℕ) (ns : List ℕ) → list_all (λ number. nat_lt number (2 ^ 32)) (n ∷ ns) ≡ true →
    (nat_lt n (2 ^ 32) ≡ true) × (list_all (λ number. nat_lt number (2 ^ 32)) ns ≡ true)
first_short n ns all =
    let others = list_all (λ number. nat_lt number (2 ^ 32)) ns in
    (and_first (nat_lt n (2 ^ 32)) others all, and_second (nat_lt n (2 ^ 32)) others all)

abbrev the_figures : ℕ → ℕ → ℕ → ℕ → PoolStats
the_figures size requests errors free = record { size = size; requests = requests; errors = errors; free = free }

alike_figures : (f g : PoolStats) → f.size ≡ g.size → f.requests ≡ g.requests → f.errors ≡ g.errors → f.free ≡ g.free → f ≡ g
alike_figures f g size requests errors free =
    ap (λ n. the_figures n f.requests f.errors f.free) size
    ∙ ap (λ n. the_figures g.size n f.errors f.free) requests
    ∙ ap (λ n. the_figures g.size g.requests n f.free) errors
    ∙ ap (λ n. the_figures g.size g.requests g.errors n) free

-- figures that read the same are the same
same_figures : (f g : PoolStats) → are_short f ≡ true → are_short g ≡ true → figures_text f ≡ figures_text g → f ≡ g
same_figures f g one other e =
    let rest : decimal f.size ++ 32 ∷ (decimal f.requests ++ 32 ∷ (decimal f.errors ++ 32 ∷ decimal f.free))
    ≡ decimal g.size ++ 32 ∷ (decimal g.requests ++ 32 ∷ (decimal g.errors ++ 32 ∷ decimal g.free)) =
    sym (blanks (decimal f.size) (decimal f.requests) (decimal f.errors) (decimal f.free)) ∙ e
    ∙ blanks (decimal g.size) (decimal g.requests) (decimal g.errors) (decimal g.free) in
    let sizes = same_fronts f.size g.size _ _ rest in
    let requests = same_fronts f.requests g.requests _ _ sizes.1 in
    let errors = same_fronts f.errors g.errors _ _ requests.1 in
    let few = first_short f.size (f.requests ∷ f.errors ∷ f.free ∷ []) one in
    let small = first_short g.size (g.requests ∷ g.errors ∷ g.free ∷ []) other in
    let few2 = first_short f.requests (f.errors ∷ f.free ∷ []) few.1 in
    let small2 = first_short g.requests (g.errors ∷ g.free ∷ []) small.1 in
    let few3 = first_short f.errors (f.free ∷ []) few2.1 in
    let small3 = first_short g.errors (g.free ∷ []) small2.1 in
    alike_figures f g
    (decimal_injective f.size g.size (short f.size few.0) (short g.size small.0) sizes.0)
    (decimal_injective f.requests g.requests (short f.requests few2.0) (short g.requests small2.0) requests.0)
    (decimal_injective f.errors g.errors (short f.errors few3.0) (short g.errors small3.0) errors.0)
    (decimal_injective f.free g.free (short f.free (first_short f.free [] few3.1).0) (short g.free (first_short g.free [] small3.1).0) errors.1)
  where
    blanks : (u v w z : List ℕ) → (((((u ++ 32 ∷ []) ++ v) ++ 32 ∷ []) ++ w) ++ 32 ∷ []) ++ z ≡ u ++ 32 ∷ (v ++ 32 ∷ (w ++ 32 ∷ z))
    blanks u v w z = simp append_assoc

abbrev the_stats : ℕ → ℕ → ℕ → ℕ → ℕ → BusStats
the_stats nosub limit overflow buffers bytes =
    record { nosub = nosub; limit = limit; overflow = overflow; buffers = buffers; bytes = bytes }

alike_stats : (f g : BusStats) → f.nosub ≡ g.nosub → f.limit ≡ g.limit → f.overflow ≡ g.overflow → f.buffers ≡ g.buffers → f.bytes ≡ g.bytes → f ≡ g
alike_stats f g nosub limit overflow buffers bytes =
    ap (λ n. the_stats n f.limit f.overflow f.buffers f.bytes) nosub
    ∙ ap (λ n. the_stats g.nosub n f.overflow f.buffers f.bytes) limit
    ∙ ap (λ n. the_stats g.nosub g.limit n f.buffers f.bytes) overflow
    ∙ ap (λ n. the_stats g.nosub g.limit g.overflow n f.bytes) buffers
    ∙ ap (λ n. the_stats g.nosub g.limit g.overflow g.buffers n) bytes

-- and so are the figures of a bus
same_stats : (f g : BusStats) → are_short_stats f ≡ true → are_short_stats g ≡ true → stats_text f ≡ stats_text g → f ≡ g
same_stats f g one other e =
    let rest : decimal f.nosub ++ 32 ∷ (decimal f.limit ++ 32 ∷ (decimal f.overflow ++ 32 ∷ (decimal f.buffers ++ 32 ∷ decimal f.bytes)))
    ≡ decimal g.nosub ++ 32 ∷ (decimal g.limit ++ 32 ∷ (decimal g.overflow ++ 32 ∷ (decimal g.buffers ++ 32 ∷ decimal g.bytes))) =
    sym (blanks (decimal f.nosub) (decimal f.limit) (decimal f.overflow) (decimal f.buffers) (decimal f.bytes)) ∙ e
    ∙ blanks (decimal g.nosub) (decimal g.limit) (decimal g.overflow) (decimal g.buffers) (decimal g.bytes) in
    let nosub = same_fronts f.nosub g.nosub _ _ rest in
    let limit = same_fronts f.limit g.limit _ _ nosub.1 in
    let overflow = same_fronts f.overflow g.overflow _ _ limit.1 in
    let buffers = same_fronts f.buffers g.buffers _ _ overflow.1 in
    let few = first_short f.nosub (f.limit ∷ f.overflow ∷ f.buffers ∷ f.bytes ∷ []) one in
    let small = first_short g.nosub (g.limit ∷ g.overflow ∷ g.buffers ∷ g.bytes ∷ []) other in
    let few2 = first_short f.limit (f.overflow ∷ f.buffers ∷ f.bytes ∷ []) few.1 in
    let small2 = first_short g.limit (g.overflow ∷ g.buffers ∷ g.bytes ∷ []) small.1 in
    let few3 = first_short f.overflow (f.buffers ∷ f.bytes ∷ []) few2.1 in
    let small3 = first_short g.overflow (g.buffers ∷ g.bytes ∷ []) small2.1 in
    let few4 = first_short f.buffers (f.bytes ∷ []) few3.1 in
    let small4 = first_short g.buffers (g.bytes ∷ []) small3.1 in
    alike_stats f g
    (decimal_injective f.nosub g.nosub (short f.nosub few.0) (short g.nosub small.0) nosub.0)
    (decimal_injective f.limit g.limit (short f.limit few2.0) (short g.limit small2.0) limit.0)
    (decimal_injective f.overflow g.overflow (short f.overflow few3.0) (short g.overflow small3.0) overflow.0)
    (decimal_injective f.buffers g.buffers (short f.buffers few4.0) (short g.buffers small4.0) buffers.0)
    (decimal_injective f.bytes g.bytes (short f.bytes (first_short f.bytes [] few4.1).0) (short g.bytes (first_short g.bytes [] small4.1).0) buffers.1)
  where
    blanks : (u v w z x : List ℕ) →
        (((((((u ++ 32 ∷ []) ++ v) ++ 32 ∷ []) ++ w) ++ 32 ∷ []) ++ z) ++ 32 ∷ []) ++ x ≡ u ++ 32 ∷ (v ++ 32 ∷ (w ++ 32 ∷ (z ++ 32 ∷ x)))
    blanks u v w z x = simp append_assoc

-- whether two answers tell the same things, or one of them tells nothing of a call that is done
abbrev alike : BusAnswer → BusAnswer → Bool
alike (Sb s) b = true
alike (Es s) b = true
alike (Evs s) b = true
alike TimeOut b = true
alike Pending b = true
alike a (Sb t) = true
alike a (Es t) = true
alike a (Evs t) = true
alike a TimeOut = true
alike a Pending = true
alike Done Done = true
alike (Number m) (Number n) = true
alike (Name name) (Name title) = true
alike (Sent m r) (Sent n q) = true
alike (Got m) (Got n) = true
alike (Pool f) (Pool g) = true
alike (Bus f) (Bus g) = true
alike a b = false

-- answers of one kind that read the same are the same
same_answer : (a b : BusAnswer) → alike a b ≡ true → has_short_numbers a ≡ true → has_short_numbers b ≡ true → answer_text a ≡ answer_text b → a ≡ b
same_answer Done Done kind one other e = refl
same_answer TimeOut TimeOut kind one other e = refl
same_answer Pending Pending kind one other e = refl
same_answer (Name name) (Name title) kind one other e = ap Name (cc e)
same_answer (Number m) (Number n) kind one other e = ap Number (decimal_injective m n (short m one) (short n other) (cc e))
same_answer (Got m) (Got n) kind one other e = ap Got (decimal_injective m n (short m one) (short n other) (cc e))
same_answer (Sent m r) (Sent n q) kind one other e =
    let rest : decimal m ++ 32 ∷ decimal r ≡ decimal n ++ 32 ∷ decimal q = sym (append_assoc (decimal m) (32 ∷ []) (decimal r)) ∙ cc e ∙ append_assoc (decimal n) (32 ∷ []) (decimal q) in
    let parts = split_once 33 32 (decimal m) (decimal n) (decimal r) (decimal q) (omega arith) (decimal_above 33 m (omega arith)) (decimal_above 33 n (omega arith)) rest in
    let numbers = decimal_injective m n (short m (and_first (nat_lt m (2 ^ 32)) (nat_lt r (2 ^ 32)) one)) (short n (and_first (nat_lt n (2 ^ 32)) (nat_lt q (2 ^ 32)) other)) parts.0 in
    let reached = decimal_injective r q (short r (and_second (nat_lt m (2 ^ 32)) (nat_lt r (2 ^ 32)) one)) (short q (and_second (nat_lt n (2 ^ 32)) (nat_lt q (2 ^ 32)) other)) parts.1 in
    cc (numbers, reached)
same_answer (Pool f) (Pool g) kind one other e = ap Pool (same_figures f g one other (cc e))
same_answer (Bus f) (Bus g) kind one other e = ap Bus (same_stats f g one other (cc e))
same_answer (Sb s) (Sb t) kind one other e = ap Sb (same_name s t e)
same_answer (Es s) (Es t) kind one other e = ap Es (same_pool_name s t e)
same_answer (Evs s) (Evs t) kind one other e = ap Evs (same_event_name s t e)
same_answer (Sb s) TimeOut kind one other e = absurd (not_time_out s e)
same_answer TimeOut (Sb t) kind one other e = absurd (not_time_out t (sym e))
same_answer (Sb s) b kind one other e = absurd (omega (arith, same_kind (Sb s) b e))
same_answer (Es s) b kind one other e = absurd (omega (arith, same_kind (Es s) b e))
same_answer (Evs s) b kind one other e = absurd (omega (arith, same_kind (Evs s) b e))
same_answer TimeOut b kind one other e = absurd (omega (arith, same_kind TimeOut b e))
same_answer Pending b kind one other e = absurd (omega (arith, same_kind Pending b e))
same_answer a (Sb t) kind one other e = absurd (omega (arith, same_kind a (Sb t) e))
same_answer a (Es t) kind one other e = absurd (omega (arith, same_kind a (Es t) e))
same_answer a (Evs t) kind one other e = absurd (omega (arith, same_kind a (Evs t) e))
same_answer a TimeOut kind one other e = absurd (omega (arith, same_kind a TimeOut e))
same_answer a Pending kind one other e = absurd (omega (arith, same_kind a Pending e))
same_answer a b kind one other e = absurd (cc kind)

-- Calls: what is behind a call can be read off, and the kind of its answer. --

-- what an answer of a call that is done tells
data Telling : Type 0 where
  NoMore : Telling
  ANumber : Telling
  AName : Telling
  ASending : Telling
  AMessage : Telling
  PoolNumbers : Telling
  BusNumbers : Telling

abbrev telling : Call → Telling
telling (Create depth name) = ANumber
telling (Delete pipe) = NoMore
telling (SetOpts pipe bits) = NoMore
telling (GetOpts pipe) = ANumber
telling (Find name) = ANumber
telling (PipeName pipe) = AName
telling (Subscribe id pipe limit scope) = NoMore
telling (Unsubscribe id pipe) = NoMore
telling (Transmit bytes inc) = ASending
telling (Receive pipe) = AMessage
telling (Pend pipe) = AMessage
telling (Look pipe) = AMessage
telling (Allocate size) = ANumber
telling (TransmitBuffer buf bytes inc) = ASending
telling (Release buf) = NoMore
telling (PoolCreate bytes) = ANumber
telling (PoolGet pool size) = ANumber
telling (PoolPut pool grant) = NoMore
telling (PoolFigures pool) = PoolNumbers
telling (Register filters) = NoMore
telling (SendEvent id kind text) = NoMore
telling (ResetFilter id) = NoMore
telling (LogMode mode) = NoMore
telling ClearLog = NoMore
telling Housekeeping = ASending
telling Figures = BusNumbers
telling End = NoMore

-- whether an answer tells this, or is none of a call that is done
abbrev tells : BusAnswer → Telling → Bool
tells (Sb s) what = true
tells (Es s) what = true
tells (Evs s) what = true
tells TimeOut what = true
tells Pending what = true
tells Done NoMore = true
tells (Number number) ANumber = true
tells (Name name) AName = true
tells (Sent number reached) ASending = true
tells (Got number) AMessage = true
tells (Pool figures) PoolNumbers = true
tells (Bus stats) BusNumbers = true
tells a what = false

can_tell : (c : Call) (a : BusAnswer) → can_answer c a ≡ true → tells a (telling c) ≡ true
can_tell c (Sb s) can = refl
can_tell c (Es s) can = refl
can_tell c (Evs s) can = refl
can_tell c TimeOut can = refl
can_tell c Pending can = refl
can_tell (Create depth name) (Number number) can = refl
can_tell (Delete pipe) Done can = refl
can_tell (SetOpts pipe bits) Done can = refl
can_tell (GetOpts pipe) (Number number) can = refl
can_tell (Find name) (Number number) can = refl
can_tell (PipeName pipe) (Name told) can = refl
can_tell (Subscribe id pipe limit scope) Done can = refl
can_tell (Unsubscribe id pipe) Done can = refl
can_tell (Transmit bytes inc) (Sent number reached) can = refl
can_tell (Receive pipe) (Got number) can = refl
can_tell (Pend pipe) (Got number) can = refl
can_tell (Look pipe) (Got number) can = refl
can_tell (Allocate size) (Number number) can = refl
can_tell (TransmitBuffer buf bytes inc) (Sent number reached) can = refl
can_tell (Release buf) Done can = refl
can_tell (PoolCreate bytes) (Number number) can = refl
can_tell (PoolGet pool size) (Number number) can = refl
can_tell (PoolPut pool grant) Done can = refl
can_tell (PoolFigures pool) (Pool figures) can = refl
can_tell (Register filters) Done can = refl
can_tell (SendEvent id kind text) Done can = refl
can_tell (ResetFilter id) Done can = refl
can_tell (LogMode mode) Done can = refl
can_tell ClearLog Done can = refl
can_tell Housekeeping (Sent number reached) can = refl
can_tell Figures (Bus stats) can = refl
can_tell End Done can = refl
can_tell c a can = absurd (cc can)

both_tell : (a b : BusAnswer) (what : Telling) → tells a what ≡ true → tells b what ≡ true → alike a b ≡ true
both_tell (Sb s) b what one other = refl
both_tell (Es s) b what one other = refl
both_tell (Evs s) b what one other = refl
both_tell TimeOut b what one other = refl
both_tell Pending b what one other = refl
both_tell a (Sb t) what one other = refl
both_tell a (Es t) what one other = refl
both_tell a (Evs t) what one other = refl
both_tell a TimeOut what one other = refl
both_tell a Pending what one other = refl
both_tell Done Done what one other = refl
both_tell (Number m) (Number n) what one other = refl
both_tell (Name name) (Name title) what one other = refl
both_tell (Sent m r) (Sent n q) what one other = refl
both_tell (Got m) (Got n) what one other = refl
both_tell (Pool f) (Pool g) what one other = refl
both_tell (Bus f) (Bus g) what one other = refl
both_tell a b NoMore one other = absurd (cc)
both_tell a b ANumber one other = absurd (cc)
both_tell a b AName one other = absurd (cc)
both_tell a b ASending one other = absurd (cc)
both_tell a b AMessage one other = absurd (cc)
both_tell a b PoolNumbers one other = absurd (cc)
both_tell a b BusNumbers one other = absurd (cc)

-- what two calls tell that read the same: the kind of their answers, and what is behind them
record Tells (c d : Call) (x y : List ℕ) : Type 0 where
  kind : telling c ≡ telling d
  rest : x ≡ y

scope_word : (scope : Scope) → above 33 (scope_text scope) ≡ true
scope_word scopes.Global = refl
scope_word scopes.Local = refl

mode_word : (inc : Bool) → above 33 (mode_text inc) ≡ true
mode_word true = refl
mode_word false = refl

call_tells : (c d : Call) (x y : List ℕ) → has_plain_name c ≡ true → has_plain_name d ≡ true → call_text c ++ 32 ∷ x ≡ call_text d ++ 32 ∷ y → Tells c d x y
call_tells (Create depth name) (Create height title) x y plain clear e = record {
  kind = refl;
  rest = split_twice (decimal depth) (decimal height) (name_text name) (name_text title) x y (word depth) (word height) (name_word name plain) (name_word title clear) (cc e);
}
call_tells (Delete pipe) (Delete tube) x y plain clear e = record { kind = refl; rest = behind_number pipe tube x y (cc e) }
call_tells (SetOpts pipe bits) (SetOpts tube flags) x y plain clear e = record {
  kind = refl;
  rest = split_twice (decimal pipe) (decimal tube) (decimal bits) (decimal flags) x y (word pipe) (word tube) (word bits) (word flags) (cc e);
}
call_tells (GetOpts pipe) (GetOpts tube) x y plain clear e = record { kind = refl; rest = behind_number pipe tube x y (cc e) }
call_tells (Find name) (Find title) x y plain clear e = record {
  kind = refl;
  rest = behind_word (name_text name) (name_text title) x y (name_word name plain) (name_word title clear) (cc e);
}
call_tells (PipeName pipe) (PipeName tube) x y plain clear e = record { kind = refl; rest = behind_number pipe tube x y (cc e) }
call_tells (Subscribe id pipe limit scope) (Subscribe key tube bound range) x y plain clear e = record {
  kind = refl;
  rest = split_thrice (decimal pipe) (decimal tube) (decimal limit) (decimal bound) (scope_text scope) (scope_text range) x y
      (word pipe) (word tube) (word limit) (word bound) (scope_word scope) (scope_word range) (cc e);
}
call_tells (Unsubscribe id pipe) (Unsubscribe key tube) x y plain clear e = record { kind = refl; rest = behind_number pipe tube x y (cc e) }
call_tells (Transmit bytes inc) (Transmit octets move) x y plain clear e = record {
  kind = refl;
  rest = split_thrice (decimal (length bytes)) (decimal (length octets)) (decimal (sum bytes)) (decimal (sum octets)) (mode_text inc) (mode_text move) x y
      (word (length bytes)) (word (length octets)) (word (sum bytes)) (word (sum octets)) (mode_word inc) (mode_word move) (cc e);
}
call_tells (Receive pipe) (Receive tube) x y plain clear e = record { kind = refl; rest = behind_number pipe tube x y (cc e) }
call_tells (Pend pipe) (Pend tube) x y plain clear e = record { kind = refl; rest = behind_number pipe tube x y (cc e) }
call_tells (Look pipe) (Look tube) x y plain clear e = record { kind = refl; rest = behind_number pipe tube x y (cc e) }
call_tells (Allocate size) (Allocate least) x y plain clear e = record { kind = refl; rest = behind_number size least x y (cc e) }
call_tells (TransmitBuffer buf bytes inc) (TransmitBuffer block octets move) x y plain clear e = record {
  kind = refl;
  rest = split_four (decimal buf) (decimal block) (decimal (length bytes)) (decimal (length octets)) (decimal (sum bytes)) (decimal (sum octets)) (mode_text inc) (mode_text move) x y
      (word buf) (word block) (word (length bytes)) (word (length octets)) (word (sum bytes)) (word (sum octets)) (mode_word inc) (mode_word move) (cc e);
}
call_tells (Release buf) (Release block) x y plain clear e = record { kind = refl; rest = behind_number buf block x y (cc e) }
call_tells (PoolCreate bytes) (PoolCreate octets) x y plain clear e = record { kind = refl; rest = behind_number bytes octets x y (cc e) }
call_tells (PoolGet pool size) (PoolGet store least) x y plain clear e = record {
  kind = refl;
  rest = split_twice (decimal pool) (decimal store) (decimal size) (decimal least) x y (word pool) (word store) (word size) (word least) (cc e);
}
call_tells (PoolPut pool grant) (PoolPut store block) x y plain clear e = record {
  kind = refl;
  rest = split_twice (decimal pool) (decimal store) (decimal grant) (decimal block) x y (word pool) (word store) (word grant) (word block) (cc e);
}
call_tells (PoolFigures pool) (PoolFigures store) x y plain clear e = record { kind = refl; rest = behind_number pool store x y (cc e) }
call_tells (Register filters) (Register pairs) x y plain clear e = record { kind = refl; rest = behind_number (length filters) (length pairs) x y (cc e) }
call_tells (SendEvent id kind text) (SendEvent key form words) x y plain clear e = record {
  kind = refl;
  rest = split_thrice (decimal id) (decimal key) (decimal (kind_number kind)) (decimal (kind_number form)) (decimal (length text)) (decimal (length words)) x y
      (word id) (word key) (word (kind_number kind)) (word (kind_number form)) (word (length text)) (word (length words)) (cc e);
}
call_tells (ResetFilter id) (ResetFilter key) x y plain clear e = record { kind = refl; rest = behind_number id key x y (cc e) }
call_tells (LogMode mode) (LogMode form) x y plain clear e = record { kind = refl; rest = behind_number mode form x y (cc e) }
call_tells ClearLog ClearLog x y plain clear e = record { kind = refl; rest = cc e }
call_tells Housekeeping Housekeeping x y plain clear e = record { kind = refl; rest = cc e }
call_tells Figures Figures x y plain clear e = record { kind = refl; rest = cc e }
call_tells (Register filters) (ResetFilter key) x y plain clear e = absurd (omega (arith, ap fourth e))
call_tells (ResetFilter id) (Register pairs) x y plain clear e = absurd (omega (arith, ap fourth e))
call_tells (LogMode mode) ClearLog x y plain clear e = absurd (omega (arith, ap fourth e))
call_tells ClearLog (LogMode form) x y plain clear e = absurd (omega (arith, ap fourth e))
call_tells End End x y plain clear e = record { kind = refl; rest = cc e }
call_tells c d x y plain clear e = absurd (omega (arith, ap beginning e))

-- Lines. --

-- a line and what is behind it, word by word
parts_of : (n : ℕ) (e : Entry) (x : List ℕ) →
    entry_text n e ++ x ≡ decimal n ++ 32 ∷ 97 ∷ (decimal e.app ++ 32 ∷ (call_text e.call ++ 32 ∷ 45 ∷ 62 ∷ 32 ∷ (answer_text e.answer ++ 10 ∷ x)))
parts_of n e x = line_parts (decimal n) (decimal e.app) (call_text e.call) (answer_text e.answer) x

-- what two lines tell that read the same
record LinesTell (e f : Entry) (x y : List ℕ) : Type 0 where
  app : e.app ≡ f.app
  answer : e.answer ≡ f.answer
  rest : x ≡ y

line_tells : (n : ℕ) (e f : Entry) (x y : List ℕ) → IsPlain e → IsPlain f → entry_text n e ++ x ≡ entry_text n f ++ y → LinesTell e f x y
line_tells n e f x y one other same =
    let text = sym (parts_of n e x) ∙ same ∙ parts_of n f y in
    let behind = append_cancel_left (decimal n) _ _ text in
    let apps = split_once 33 32 (decimal e.app) (decimal f.app) (call_text e.call ++ 32 ∷ 45 ∷ 62 ∷ 32 ∷ (answer_text e.answer ++ 10 ∷ x)) (call_text f.call ++ 32 ∷ 45 ∷ 62 ∷ 32 ∷ (answer_text f.answer ++ 10 ∷ y))
    (omega arith) (word e.app) (word f.app) (cc behind) in
    let calls = call_tells e.call f.call (45 ∷ 62 ∷ 32 ∷ (answer_text e.answer ++ 10 ∷ x)) (45 ∷ 62 ∷ 32 ∷ (answer_text f.answer ++ 10 ∷ y)) one.name other.name apps.1 in
    let alike = both_tell e.answer f.answer (telling e.call) (can_tell e.call e.answer one.answer) (ap (tells f.answer) calls.kind ∙ can_tell f.call f.answer other.answer) in
    let answers = split_once 11 10 (answer_text e.answer) (answer_text f.answer) x y (omega arith) (answer_above e.answer one.told) (answer_above f.answer other.told) (cc calls.rest) in
    record {
      app = decimal_injective e.app f.app (omega (arith, one.app)) (omega (arith, other.app)) apps.0;
      answer = same_answer e.answer f.answer alike one.numbers other.numbers answers.0;
      rest = answers.1;
    }

-- Histories. --

-- a line is no letter's
line_not_letter : (n c : ℕ) (e : Entry) (x y : List ℕ) → 57 < c → entry_text n e ++ x ≡ c ∷ y → ⊥
line_not_letter n c e x y letter same = letter_not_decimal n c _ y letter (sym (parts_of n e x) ∙ same)

-- what the lines of two histories tell that read the same, and what is behind them
pub record HistoriesTell (one other : List Entry) (x y : List ℕ) : Type 0 where
  pub same : TellTheSame one other
  pub rest : x ≡ y

-- lines that are followed by the line of a letter
pub lines_tell : (n c : ℕ) (one other : List Entry) (x y : List ℕ) → 57 < c → All IsPlain one → All IsPlain other →
    numbered entry_text n one ++ c ∷ x ≡ numbered entry_text n other ++ c ∷ y → HistoriesTell one other x y
lines_tell n c [] [] x y letter plain clear same = record { same = record { apps = refl; answers = refl }; rest = cc same }
lines_tell n c [] (f ∷ fs) x y letter plain clear same =
    absurd (line_not_letter n c f (numbered entry_text (n + 1) fs ++ c ∷ y) x letter (sym (append_assoc (entry_text n f) (numbered entry_text (n + 1) fs) (c ∷ y)) ∙ sym same))
lines_tell n c (e ∷ es) [] x y letter plain clear same =
    absurd (line_not_letter n c e (numbered entry_text (n + 1) es ++ c ∷ x) y letter (sym (append_assoc (entry_text n e) (numbered entry_text (n + 1) es) (c ∷ x)) ∙ same))
lines_tell n c (e ∷ es) (f ∷ fs) x y letter plain clear same =
    let first = line_tells n e f (numbered entry_text (n + 1) es ++ c ∷ x) (numbered entry_text (n + 1) fs ++ c ∷ y) (All-head IsPlain e es plain) (All-head IsPlain f fs clear)
    (sym (append_assoc (entry_text n e) (numbered entry_text (n + 1) es) (c ∷ x)) ∙ same ∙ append_assoc (entry_text n f) (numbered entry_text (n + 1) fs) (c ∷ y)) in
    let others = lines_tell (n + 1) c es fs x y letter (All-tail IsPlain e es plain) (All-tail IsPlain f fs clear) first.rest in
    record { same = record { apps = cc (first.app, others.same.apps); answers = cc (first.answer, others.same.answers) }; rest = others.rest }
