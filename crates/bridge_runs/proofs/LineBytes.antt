-- The lines of an application bring no more bytes to pipes than they are charged for.
use Rattle.std.proofs.Common.{◌≡◌, ◌≢◌, ℕ, zero, suc, ◌+◌, ◌-◌, ◌<◌, ◌≤◌, ◌==◌, Bool, true, false, cond, List, [], ◌∷◌, length, get_or, set, replicate, Option, Some, None, IfSome, refl, ap, sym, ◌∙◌, subst, arith, length-append, length-set}
use Rattle.std.specs.Option.{option_map, option_map_or}
use Rattle.std.proofs.lemmas.Bool.{ne_eqb, eq-eqb}
use Rattle.std.proofs.lemmas.List.{length-replicate, get_or-set_same, get_or-set_other}
use lib.Seq.{set_out}
use mathlib.Core.Logic.{dite}
use native.Mathlib.Decide.{dec_le, ℕ_discrete}
use native.Mathlib.Nat.{lt_of_not-le}
use Rattle.std.proofs.lemmas.List.FromFn.{length-map-range_with_len}
use Rattle.ccsds_msg.specs.Message.{header_bytes}
use Rattle.ccsds_msg.proofs.MessageLemmas.{length-header_bytes}
use Rattle.bus_words.specs.declared.calls.BusAnswer.{BusAnswer}
use Rattle.bus_words.specs.declared.calls.BusAnswer.TheVariants as answers
use Rattle.bus_words.specs.declared.history.Call.{Call}
use Rattle.bus_words.specs.declared.history.Call.TheVariants as calls
use Rattle.bus_words.specs.declared.history.Entry.{Entry}
use Rattle.script_lines.specs.declared.line.Line.{Line}
use Rattle.script_lines.specs.declared.line.Line.TheVariants as lines
use Rattle.script_settings.specs.declared.account.Account.{Account}
use Rattle.script_settings.specs.Accounts.{charge_of, with_line, no_calls, sizes_after}
use Rattle.script_runs.specs.LineCalls.{line_call_of}
use Rattle.script_runs.specs.Messages.{fill_byte, filled, sent_message}
use Rattle.script_runs.specs.Trace.{AfterAnswer, LineEntries, Registers, Trace, call_of, first_registers, registers_after}
use Rattle.script_runs.specs.Written.{Written, bytes_in, first_written, put_in, with_buffer, with_bytes, written_after, written_by}
use Rattle.script_runs.proofs.Buffers.{length-put_in}
use Rattle.bridge_plan.specs.Sends.{sent_by, sent_from}
use Rattle.bridge_runs.specs.Lefts.{brought, is_send, sends_in}
use Rattle.bridge_runs.proofs.LineSends.{sends-cons}
use Rattle.bridge_runs.proofs.Brought.{Grown, Grows, after}
use Rattle.bridge_runs.proofs.Weights.{weigh}

-- ---- registers of buffers

-- No register has a greater number than m, each has a buffer no longer than its latest `alloc` asked for, or none, and a buffer has room for a message.
record Fits (m : ℕ) (buffers sizes : List ℕ) (written : Written) : Type 0 where
  len : length buffers ≡ length sizes
  known : (k : ℕ) → get_or buffers k 0 ≤ m
  fits : (k : ℕ) → length (bytes_in written (get_or buffers k 0)) ≤ get_or sizes k 0
  long : (n : ℕ) → IfSome (written n) (λ bytes. 7 ≤ length bytes)
  none : length (bytes_in written 0) ≡ 0

-- another buffer's bytes stay
others_stay : (written : Written) (n k : ℕ) (buffer : Option (List ℕ)) → n ≢ k → bytes_in (with_buffer written n buffer) k ≡ bytes_in written k
others_stay written n k buffer apart = ap (λ b. option_map_or (λ bytes. bytes) (cond {A = Option (List ℕ)} b buffer (written k)) []) (ne_eqb n k apart)

own_is : (written : Written) (n : ℕ) (buffer : Option (List ℕ)) → bytes_in (with_buffer written n buffer) n ≡ option_map_or (λ bytes. bytes) buffer []
own_is written n buffer = ap (λ b. option_map_or (λ bytes. bytes) (cond {A = Option (List ℕ)} b buffer (written n)) []) (eq-eqb n n refl)

-- what stands in a list if one place was set: the new one there, or the old one
set_cases : (P : ℕ → ℕ → Type 0) (xs ys : List ℕ) (i x y k : ℕ) → length xs ≡ length ys → P x y → P (get_or xs k 0) (get_or ys k 0) → P (get_or (set xs i x) k 0) (get_or (set ys i y) k 0)
set_cases P xs ys i x y k same new old =
    dite (ℕ_discrete k i)
    (λ here.
    dite (dec_le (length xs) i)
    (λ past. subst (λ l. P (get_or l k 0) (get_or (set ys i y) k 0)) (sym (set_out xs i x past)) (subst (λ l. P (get_or xs k 0) (get_or l k 0)) (sym (set_out ys i y (omega (arith, past, same)))) old))
    (λ within.
    let inside : i < length xs = lt_of_not-le within in
    let first : get_or (set xs i x) k 0 ≡ x = ap (λ j. get_or (set xs i x) j 0) here ∙ get_or-set_same xs i x 0 inside in
    let second : get_or (set ys i y) k 0 ≡ y = ap (λ j. get_or (set ys i y) j 0) here ∙ get_or-set_same ys i y 0 (omega (arith, inside, same)) in
    subst (λ a. P a (get_or (set ys i y) k 0)) (sym first) (subst (λ b. P x b) (sym second) new)))
    (λ away. subst (λ a. P a (get_or (set ys i y) k 0)) (sym (get_or-set_other xs i k x 0 away)) (subst (λ b. P (get_or xs k 0) b) (sym (get_or-set_other ys i k y 0 away)) old))

-- a buffer more, of a number greater than all before
fits_alloc : (m : ℕ) (buffers sizes : List ℕ) (written : Written) (buf size n : ℕ) → Fits m buffers sizes written → m < n → 7 ≤ size →
    Fits n (set buffers buf n) (set sizes buf size) (with_buffer written n (Some (replicate size 0)))
fits_alloc m buffers sizes written buf size n f above least =
    let now = with_buffer written n (Some (replicate size 0)) in
    let zeros : length (bytes_in now n) ≡ size = ap length (own_is written n (Some (replicate size 0))) ∙ length-replicate {A = ℕ} size 0 in
    record {
      len = length-set buffers buf n ∙ f.len ∙ sym (length-set sizes buf size);
      known = λ k. let old = f.known k in set_cases (λ a b. a ≤ n) buffers sizes buf n size k f.len (omega arith) (omega (arith, old, above));
      fits = λ k.
          let low = f.known k in
          let old = f.fits k in
          let same : n ≢ get_or buffers k 0 = λ is. absurd (omega (arith, is, low, above)) in
          set_cases (λ a b. length (bytes_in now a) ≤ b) buffers sizes buf n size k f.len (omega (arith, zeros))
          (omega (arith, ap length (others_stay written n (get_or buffers k 0) (Some (replicate size 0)) same), old));
      long = λ j. elim (n == j) as (λ b. IfSome (cond {A = Option (List ℕ)} b (Some (replicate size 0)) (written j)) (λ bytes. 7 ≤ length bytes)) [
        | true ↦ omega (arith, length-replicate {A = ℕ} size 0, least)
        | false ↦ f.long j
      ];
      none = ap length (others_stay written n 0 (Some (replicate size 0)) (λ is. absurd (omega (arith, is, above)))) ∙ f.none;
    }

-- a buffer that was refused
fits_refused : (m : ℕ) (buffers sizes : List ℕ) (written : Written) (buf size : ℕ) → Fits m buffers sizes written → Fits m (set buffers buf 0) (set sizes buf size) written
fits_refused m buffers sizes written buf size f = record {
  len = length-set buffers buf 0 ∙ f.len ∙ sym (length-set sizes buf size);
  known = λ k. set_cases (λ a b. a ≤ m) buffers sizes buf 0 size k f.len (omega arith) (f.known k);
  fits = λ k. let none = f.none in set_cases (λ a b. length (bytes_in written a) ≤ b) buffers sizes buf 0 size k f.len (omega (arith, none)) (f.fits k);
  long = f.long;
  none = f.none;
}

-- a change of a buffer's bytes that keeps how many they are, or that takes it away
fits_changed : (m : ℕ) (buffers sizes : List ℕ) (written : Written) (n : ℕ) (buffer : Option (List ℕ)) → Fits m buffers sizes written →
    length (option_map_or (λ bytes. bytes) buffer []) ≤ length (bytes_in written n) → IfSome buffer (λ bytes. 7 ≤ length bytes) → Fits m buffers sizes (with_buffer written n buffer)
fits_changed m buffers sizes written n buffer f shorter long =
    let now = with_buffer written n buffer in
    let less : (k : ℕ) → length (bytes_in now k) ≤ length (bytes_in written k) = λ k.
    dite (ℕ_discrete n k)
    (λ here. subst (λ j. length (bytes_in now j) ≤ length (bytes_in written j)) here (omega (arith, ap length (own_is written n buffer), shorter)))
    (λ away. omega (arith, ap length (others_stay written n k buffer away))) in
    record {
      len = f.len;
      known = f.known;
      fits = λ k. let first = less (get_or buffers k 0) in let old = f.fits k in omega (arith, first, old);
      long = λ j. elim (n == j) as (λ b. IfSome (cond {A = Option (List ℕ)} b buffer (written j)) (λ bytes. 7 ≤ length bytes)) [ true ↦ long | false ↦ f.long j ];
      none = let first = less 0 in let old = f.none in omega (arith, first, old);
    }

fits_gone : (m : ℕ) (buffers sizes : List ℕ) (written : Written) (n : ℕ) → Fits m buffers sizes written → Fits m buffers sizes (with_buffer written n None)
fits_gone m buffers sizes written n f = fits_changed m buffers sizes written n None f (omega arith) tt

fits_written : (m : ℕ) (buffers sizes : List ℕ) (written : Written) (n : ℕ) (change : List ℕ → List ℕ) → ((bytes : List ℕ) → 7 ≤ length bytes → length (change bytes) ≡ length bytes) →
    Fits m buffers sizes written → Fits m buffers sizes (with_bytes written n change)
fits_written m buffers sizes written n change same f = by_found (written n) refl
  where
    by_found : (found : Option (List ℕ)) → written n ≡ found → Fits m buffers sizes (with_buffer written n (option_map change (written n)))
    by_found None is = subst (λ o. Fits m buffers sizes (with_buffer written n (option_map change o))) (sym is) (fits_gone m buffers sizes written n f)
    by_found (Some bytes) is =
        let least : 7 ≤ length bytes = subst (λ o. IfSome o (λ (b : List ℕ). 7 ≤ length b)) is (f.long n) in
        let long = same bytes least in
        let had : length (bytes_in written n) ≡ length bytes = ap (λ o. length (option_map_or (λ (b : List ℕ). b) o [])) is in
        subst (λ o. Fits m buffers sizes (with_buffer written n (option_map change o))) (sym is)
        (fits_changed m buffers sizes written n (Some (change bytes)) f (omega (arith, long, had)) (omega (arith, long, least)))

-- ---- a line

abbrev Moves : ℕ → Registers → Written → Account → Line → Option Call → Type 0
Moves m registers written account line None = Fits m registers.buffers (sizes_after account.sizes line) (written_by written registers.buffers line)
Moves m registers written account line (Some call) =
    (answer : BusAnswer) → Grown m call answer →
    Fits (after m call answer) (registers_after registers line answer).buffers (sizes_after account.sizes line) (written_after written call answer)
    × (brought call answer ≤ (sent_by account line).bytes)

length-sent : (id size fill : ℕ) → length (sent_message id size fill) ≡ 6 + (size - 6)
length-sent id size fill =
    length-append (header_bytes id 0 size) (filled fill (size - 6))
    ∙ ap (λ (n : ℕ). n + length (filled fill (size - 6))) (length-header_bytes id 0 size)
    ∙ ap (λ (n : ℕ). 6 + n) (length-map-range_with_len (fill_byte fill) 0 (size - 6))

sent_within : (m : ℕ) (bytes : List ℕ) (inc : Bool) (answer : BusAnswer) (most : ℕ) → Grown m (calls.Transmit bytes inc) answer → (7 ≤ length bytes → length bytes ≤ most) → brought (calls.Transmit bytes inc) answer ≤ most
sent_within m bytes inc (answers.Sent number reached) most grown within = within grown
sent_within m bytes inc answer most grown within = omega arith

packet_within : (answer : BusAnswer) → brought calls.Housekeeping answer ≤ 64
packet_within (answers.Sent number reached) = omega arith
packet_within answer = omega arith

alloc_moves : (m : ℕ) (registers : Registers) (written : Written) (sizes : List ℕ) (buf size : ℕ) (answer : BusAnswer) → Fits m registers.buffers sizes written → Grown m (calls.Allocate size) answer →
    Fits (after m (calls.Allocate size) answer) (registers_after registers (lines.Allocate buf size) answer).buffers (set sizes buf size) (written_after written (calls.Allocate size) answer)
unfolding registers_after
alloc_moves m registers written sizes buf size (answers.Number number) f grown = fits_alloc m registers.buffers sizes written buf size number f grown.0 grown.1
alloc_moves m registers written sizes buf size answer f grown = fits_refused m registers.buffers sizes written buf size f

xmit_moves : (m : ℕ) (buffers sizes : List ℕ) (written : Written) (buf : ℕ) (inc : Bool) (answer : BusAnswer) → Fits m buffers sizes written →
    Fits m buffers sizes (written_after written (calls.TransmitBuffer (get_or buffers buf 0) (bytes_in written (get_or buffers buf 0)) inc) answer)
    × (brought (calls.TransmitBuffer (get_or buffers buf 0) (bytes_in written (get_or buffers buf 0)) inc) answer ≤ get_or sizes buf 0)
xmit_moves m buffers sizes written buf inc (answers.Sent number reached) f = (fits_gone m buffers sizes written (get_or buffers buf 0) f, f.fits buf)
xmit_moves m buffers sizes written buf inc answer f = (f, omega arith)

release_moves : (m : ℕ) (buffers sizes : List ℕ) (written : Written) (n : ℕ) (answer : BusAnswer) → Fits m buffers sizes written → Fits m buffers sizes (written_after written (calls.Release n) answer)
release_moves m buffers sizes written n answers.Done f = fits_gone m buffers sizes written n f
release_moves m buffers sizes written n answer f = f

line_moves : (m : ℕ) (registers : Registers) (written : Written) (account : Account) (line : Line) → Fits m registers.buffers account.sizes written → Moves m registers written account line (call_of registers written line)
unfolding call_of line_call_of registers_after sizes_after written_by sent_by charge_of
line_moves m registers written account (lines.Create pipe depth name) f = λ answer grown. (f, omega arith)
line_moves m registers written account (lines.Delete pipe) f = λ answer grown. (f, omega arith)
line_moves m registers written account (lines.SetOpts pipe bits) f = λ answer grown. (f, omega arith)
line_moves m registers written account (lines.GetOpts pipe) f = λ answer grown. (f, omega arith)
line_moves m registers written account (lines.Find pipe name) f = λ answer grown. (f, omega arith)
line_moves m registers written account (lines.PipeName pipe) f = λ answer grown. (f, omega arith)
line_moves m registers written account (lines.Subscribe id pipe limit scope) f = λ answer grown. (f, omega arith)
line_moves m registers written account (lines.Unsubscribe id pipe) f = λ answer grown. (f, omega arith)
line_moves m registers written account (lines.Send id size fill inc) f =
    λ answer grown. (f, sent_within m (sent_message id size fill) inc answer size grown (λ long. omega (arith, long, length-sent id size fill)))
line_moves m registers written account (lines.SendRaw bytes inc) f = λ answer grown. (f, sent_within m bytes inc answer (length bytes) grown (λ long. omega arith))
line_moves m registers written account (lines.Receive pipe) f = λ answer grown. (f, omega arith)
line_moves m registers written account (lines.Pend pipe) f = λ answer grown. (f, omega arith)
line_moves m registers written account (lines.Allocate buf size) f = λ answer grown. (alloc_moves m registers written account.sizes buf size answer f grown, omega arith)
line_moves m registers written account (lines.TransmitBuffer buf inc) f = λ answer grown. xmit_moves m registers.buffers account.sizes written buf inc answer f
line_moves m registers written account (lines.Release buf) f = λ answer grown. (release_moves m registers.buffers account.sizes written (get_or registers.buffers buf 0) answer f, omega arith)
line_moves m registers written account (lines.PoolCreate pool bytes) f = λ answer grown. (f, omega arith)
line_moves m registers written account (lines.PoolGet grant pool size) f = λ answer grown. (f, omega arith)
line_moves m registers written account (lines.PoolPut pool grant) f = λ answer grown. (f, omega arith)
line_moves m registers written account (lines.PoolFigures pool) f = λ answer grown. (f, omega arith)
line_moves m registers written account (lines.Register filters) f = λ answer grown. (f, omega arith)
line_moves m registers written account (lines.SendEvent id kind text) f = λ answer grown. (f, omega arith)
line_moves m registers written account (lines.ResetFilter id) f = λ answer grown. (f, omega arith)
line_moves m registers written account (lines.LogMode mode) f = λ answer grown. (f, omega arith)
line_moves m registers written account lines.ClearLog f = λ answer grown. (f, omega arith)
line_moves m registers written account lines.Housekeeping f = λ answer grown. (f, packet_within answer)
line_moves m registers written account lines.Figures f = λ answer grown. (f, omega arith)
line_moves m registers written account (lines.Form buf id fill) f =
    fits_written m registers.buffers account.sizes written (get_or registers.buffers buf 0) (λ old. sent_message id (length old) fill) (λ bytes least. omega (arith, least, length-sent id (length bytes) fill)) f
line_moves m registers written account (lines.Put buf offset bytes) f =
    fits_written m registers.buffers account.sizes written (get_or registers.buffers buf 0) (λ old. put_in old offset bytes) (λ old least. length-put_in old offset bytes) f
line_moves m registers written account line f = f

-- ---- the lines of an application

abbrev pub bytes_brought : List Entry → ℕ
bytes_brought [] = 0
bytes_brought (e ∷ es) = brought e.call e.answer + bytes_brought es

-- an entry with a call that brings nothing, whatever it was answered
brings_none : (call : Call) (answer : BusAnswer) → call ≡ calls.End → brought call answer ≡ 0
brings_none call answer is = ap (λ c. brought c answer) is

look_next : (m pipe : ℕ) (e : Entry) (es : List Entry) (n : ℕ) → e.call ≡ calls.Look pipe → (Grows m es → bytes_brought es ≤ n) → Grows m (e ∷ es) → bytes_brought (e ∷ es) ≤ n
look_next m pipe e es n is on grows =
    let same : after m e.call e.answer ≡ m = ap (λ c. after m c e.answer) is in
    let none : brought e.call e.answer ≡ 0 = ap (λ c. brought c e.answer) is in
    omega (arith, none, on (subst (λ k. Grows k es) same grows.1))

after_bytes : (m : ℕ) (call : Call) (answer : BusAnswer) (Rest : List Entry → Type 0) (n : ℕ) → ((es : List Entry) → Grows m es → Rest es → bytes_brought es ≤ n) →
    (es : List Entry) → Grows m es → AfterAnswer call answer Rest es → bytes_brought es ≤ n
after_bytes m (calls.Pend pipe) answers.Pending Rest n on [] grows there = absurd there
after_bytes m (calls.Pend pipe) answers.Pending Rest n on (e ∷ es) grows there = look_next m pipe e es n there.0 (λ g. on es g there.1) grows
after_bytes m call answer Rest n on es grows there = on es grows there

line_bytes : (m : ℕ) (registers : Registers) (written : Written) (account : Account) (line : Line) (n : ℕ) (Rest : Registers → Written → List Entry → Type 0) (call : Option Call) →
    Moves m registers written account line call →
    ((k : ℕ) (r : Registers) (w : Written) (es : List Entry) → Fits k r.buffers (sizes_after account.sizes line) w → Grows k es → Rest r w es → bytes_brought es ≤ n) →
    (es : List Entry) → Grows m es →
    LineEntries call (λ c answer rest. Rest (registers_after registers line answer) (written_after written c answer) rest) (λ rest. Rest registers (written_by written registers.buffers line) rest) es →
    bytes_brought es ≤ (sent_by account line).bytes + n
line_bytes m registers written account line n Rest None moves on es grows there =
    let rest = on m registers (written_by written registers.buffers line) es moves grows there in
    omega (arith, rest)
line_bytes m registers written account line n Rest (Some call) moves on [] grows there = absurd there
line_bytes m registers written account line n Rest (Some call) moves on (e ∷ es) grows there =
    let moved = moves e.answer (subst (λ c. Grown m c e.answer) there.0 grows.0) in
    let bound = moved.1 in
    let same : brought e.call e.answer ≡ brought call e.answer = ap (λ c. brought c e.answer) there.0 in
    let behind = after_bytes (after m call e.answer) call e.answer (Rest (registers_after registers line e.answer) (written_after written call e.answer)) n
    (λ rest g r. on (after m call e.answer) (registers_after registers line e.answer) (written_after written call e.answer) rest moved.0 g r)
    es (subst (λ c. Grows (after m c e.answer) es) there.0 grows.1) there.1 in
    omega (arith, same, bound, behind)

trace_bytes : (m : ℕ) (registers : Registers) (written : Written) (account : Account) (lines : List Line) (es : List Entry) → Fits m registers.buffers account.sizes written → Grows m es →
    Trace registers written lines es → bytes_brought es ≤ (sent_from account lines).bytes
trace_bytes m registers written account [] [] f grows ends = absurd ends
trace_bytes m registers written account [] (e ∷ []) f grows ends = omega (arith, brings_none e.call e.answer ends)
trace_bytes m registers written account [] (e ∷ g ∷ es) f grows ends = absurd ends
trace_bytes m registers written account (line ∷ lines) es f grows trace =
    line_bytes m registers written account line (sent_from (with_line account line) lines).bytes (λ r w rest. Trace r w lines rest) (call_of registers written line)
    (line_moves m registers written account line f)
    (λ k r w rest fits g there. trace_bytes k r w (with_line account line) lines rest fits g there) es grows trace

first_fits : Fits 0 first_registers.buffers no_calls.sizes first_written
first_fits = record {
  len = refl;
  known = λ k. zero_there 64 k;
  fits = λ k. omega arith;
  long = λ n. tt;
  none = refl;
}
  where
    zeros_at : (n k : ℕ) → get_or (replicate {A = ℕ} n 0) k 0 ≡ 0
    zeros_at zero k = refl
    zeros_at (suc n) zero = refl
    zeros_at (suc n) (suc k) = zeros_at n k

    zero_there : (n k : ℕ) → get_or (replicate {A = ℕ} n 0) k 0 ≤ 0
    zero_there n k = omega (arith, zeros_at n k)

-- an application's lines bring no more bytes to pipes than they send by their charges
pub own_bytes : (lines : List Line) (es : List Entry) → Grows 0 es → Trace first_registers first_written lines es → bytes_brought es ≤ (sent_from no_calls lines).bytes
own_bytes lines es grows trace = trace_bytes 0 first_registers first_written no_calls lines es first_fits grows trace

-- ---- the bridge

brings_if_sends : (call : Call) (answer : BusAnswer) → cond {A = ℕ} (is_send call) 1 0 ≡ 0 → brought call answer ≡ 0
brings_if_sends (calls.Transmit bytes inc) answer none = absurd (omega (arith, none))
brings_if_sends (calls.TransmitBuffer buf bytes inc) answer none = absurd (omega (arith, none))
brings_if_sends calls.Housekeeping answer none = absurd (omega (arith, none))
brings_if_sends call answer none = refl

-- who sends nothing brings nothing
pub none_brought : (es : List Entry) → sends_in es ≡ 0 → weigh (λ e. brought e.call e.answer) es ≡ 0
none_brought [] none = refl
none_brought (e ∷ es) none =
    let both = sends-cons e es in
    let first : cond {A = ℕ} (is_send e.call) 1 0 ≡ 0 = omega (arith, both, none) in
    omega (arith, brings_if_sends e.call e.answer first, none_brought es (omega (arith, both, none)))
