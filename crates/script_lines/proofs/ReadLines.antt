-- Every call line that a text gives is one that a script can have.
use Rattle.std.proofs.Common.{◌≡◌, ℕ, Bool, true, ◌&&◌, nat_le, nat_lt, eqb, List, length, Option, Result, Ok, Err, refl, ap, ◌∙◌, codes}
use Rattle.std.specs.List.{list_all, starts_with}
use Rattle.fsw_base.specs.declared.script_faults.FaultKind.{FaultKind}
use Rattle.fsw_base.specs.declared.script_faults.FaultKind.TheVariants.{OutOfRange, Repeated}
use Rattle.fsw_base.specs.Starts.{are_distinct_ids}
use Rattle.script_words.specs.Text.{is_text, is_same, words_of, behind_word, trimmed}
use Rattle.script_words.specs.Counts.{Word, next, none, one, two, three, next_two, one_or_two, two_to_four, three_or_four, few}
use Rattle.script_words.specs.Lists.{each}
use Rattle.script_words.specs.Numbers.{number_of, within, pipe_of, buffer_of, pool_of, grant_of, table_of}
use Rattle.script_words.specs.declared.content.Content.{Content}
use Rattle.script_words.specs.Content.{name_of, mode_of, scope_of, filling_of, content_of}
use Rattle.script_lines.specs.declared.line.Line.{Line}
use Rattle.script_lines.specs.declared.bus_lines.BusWord.{BusWord}
use Rattle.script_lines.specs.declared.bus_lines.BusWord.TheVariants as bus
use Rattle.script_lines.specs.declared.memory_lines.MemoryWord.{MemoryWord}
use Rattle.script_lines.specs.declared.memory_lines.MemoryWord.TheVariants as memory
use Rattle.script_lines.specs.declared.event_lines.EventWord.{EventWord}
use Rattle.script_lines.specs.declared.event_lines.EventWord.TheVariants as event
use Rattle.script_lines.specs.declared.table_lines.TableWord.{TableWord}
use Rattle.script_lines.specs.declared.table_lines.TableWord.TheVariants as table
use Rattle.script_lines.specs.declared.call_lines.CallWord.{CallWord}
use Rattle.script_lines.specs.declared.call_lines.CallWord.TheVariants.{Bus, Memory, Event, Table, Show}
use Rattle.script_lines.specs.BusLines.{pipe_alone, create_of, opts_of, find_of, limit_of, subscribed, sub_of, unsub_of, sent, send_of, hex_word, sendraw_of, bus_line_of}
use Rattle.script_lines.specs.MemoryLines.{alloc_of, xmit_of, release_of, form_of, put_of, pool_line_of, pget_of, pput_of, pstats_of, memory_line_of}
use Rattle.script_lines.specs.EventLines.{pair_word, filter_of, registered, evreg_of, two_and_text, kind_of, text_of, evented, event_of, evreset_of, logmode_of, event_line_of}
use Rattle.script_lines.specs.TableLines.{table_alone, triple_word, rule_of, table_words, described, treg_of, tshare_of, placed, load_of, table_line_of, shown, show_of}
use Rattle.script_lines.specs.CallLines.{call_line_of}
use Rattle.script_lines.specs.Ranges.{is_visible, is_event_text, is_content, is_filter, is_rule, is_readable}
use Rattle.script_lines.proofs.Booleans.{and_first, and_second, both}
use Rattle.script_lines.proofs.ReadingLaws.{Holds, then, any, guard, either, given}
use Rattle.script_lines.proofs.ReadTexts.{words_visible, behind_is_text, trimmed_is_text, same_self}
use Rattle.script_lines.proofs.Trims.{trimmed_again}
use Rattle.script_lines.proofs.ReadWords.{number_in, within_in, below_in, pipe_in, buffer_in, pool_in, grant_in, table_in, hex_word_in, name_in, filling_in, content_in, are_visible, two_visible, three_visible, next_two_visible, few_in, each_in}

abbrev Readable : Line → Type 0
Readable line = is_readable line ≡ true

-- ---- lines of the bus

create_in : (words : List Word) → are_visible words ≡ true → Holds Readable (create_of words)
unfolding create_of is_readable
create_in words v =
    then _ _ (three words) _ (three_visible words v) (λ w seen. then _ _ (pipe_of w.0) _ (pipe_in w.0) (λ pipe a. any _ (number_of w.1) _ (λ spelled. then _ _ (within 0 65535 spelled) _ (below_in 65535 spelled) (λ depth b.
    then _ _ (name_of w.2) _ (name_in w.2 seen) (λ name c. both (both a b) c)))))

opts_in : (words : List Word) → Holds Readable (opts_of words)
unfolding opts_of is_readable
opts_in words = any _ (two words) _ (λ w. then _ _ (pipe_of w.0) _ (pipe_in w.0) (λ pipe a. any _ (number_of w.1) _ (λ spelled. then _ _ (within 0 255 spelled) _ (below_in 255 spelled) (λ bits b. both a b))))

find_in : (words : List Word) → are_visible words ≡ true → Holds Readable (find_of words)
unfolding find_of is_readable
find_in words v = then _ _ (two words) _ (two_visible words v) (λ w seen. then _ _ (pipe_of w.0) _ (pipe_in w.0) (λ pipe a. then _ _ (name_of w.1) _ (name_in w.1 seen) (λ name c. both a c)))

sub_in : (words : List Word) → Holds Readable (sub_of words)
unfolding sub_of subscribed is_readable
sub_in words =
    any _ (two_to_four words) _ (λ w. any _ (number_of w.0.0) _ (λ number. then _ _ (pipe_of w.0.1) _ (pipe_in w.0.1) (λ pipe a. any _ (limit_of w.1.0) _ (λ waiting. any _ (scope_of w.1.1) _ (λ scope.
    then _ _ (within 0 65535 number) _ (below_in 65535 number) (λ id b. then _ _ (within 0 65535 waiting) _ (below_in 65535 waiting) (λ limit c. both (both b a) c)))))))

unsub_in : (words : List Word) → Holds Readable (unsub_of words)
unfolding unsub_of is_readable
unsub_in words = any _ (two words) _ (λ w. any _ (number_of w.0) _ (λ spelled. then _ _ (pipe_of w.1) _ (pipe_in w.1) (λ pipe a. then _ _ (within 0 65535 spelled) _ (below_in 65535 spelled) (λ id b. both b a))))

sent_in : (number size first : ℕ) (inc : Bool) → Holds Readable (sent number size first inc)
unfolding sent is_readable
sent_in number size first inc =
    then _ _ (within 0 65535 number) _ (below_in 65535 number) (λ id a. then _ _ (within 7 65542 size) _ (within_in 7 65542 size) (λ n b. then _ _ (within 0 255 first) _ (below_in 255 first) (λ fill c.
    both (both (both a (and_first (nat_le 7 n) (nat_le n 65542) b)) (and_second (nat_le 7 n) (nat_le n 65542) b)) c)))

send_in : (words : List Word) → Holds Readable (send_of words)
unfolding send_of
send_in words =
    any _ (three_or_four words) _ (λ w. any _ (number_of w.0.0) _ (λ id. any _ (number_of w.0.1) _ (λ size. any _ (number_of w.1.0) _ (λ fill. any _ (mode_of w.1.1) _ (λ inc. sent_in id size fill inc)))))

sendraw_in : (words : List Word) → Holds Readable (sendraw_of words)
unfolding sendraw_of is_readable
sendraw_in words = any _ (one_or_two words) _ (λ w. then _ _ (hex_word w.0) _ (hex_word_in w.0) (λ u spelled. any _ (mode_of w.1) _ (λ inc. spelled)))

pipe_alone_in : (words : List Word) → Holds (λ n. nat_lt n 64 ≡ true) (pipe_alone words)
unfolding pipe_alone
pipe_alone_in words = any (λ n. nat_lt n 64 ≡ true) (one words) pipe_of pipe_in

bus_in : (first : BusWord) (words : List Word) → are_visible words ≡ true → Holds Readable (bus_line_of first words)
unfolding bus_line_of is_readable
bus_in bus.Create words v = create_in words v
bus_in bus.Delete words v = then _ _ (pipe_alone words) _ (pipe_alone_in words) (λ pipe a. a)
bus_in bus.SetOpts words v = opts_in words
bus_in bus.GetOpts words v = then _ _ (pipe_alone words) _ (pipe_alone_in words) (λ pipe a. a)
bus_in bus.Find words v = find_in words v
bus_in bus.PipeName words v = then _ _ (pipe_alone words) _ (pipe_alone_in words) (λ pipe a. a)
bus_in bus.Subscribe words v = sub_in words
bus_in bus.Unsubscribe words v = unsub_in words
bus_in bus.Send words v = send_in words
bus_in bus.SendRaw words v = sendraw_in words
bus_in bus.Receive words v = then _ _ (pipe_alone words) _ (pipe_alone_in words) (λ pipe a. a)
bus_in bus.Pend words v = then _ _ (pipe_alone words) _ (pipe_alone_in words) (λ pipe a. a)

-- ---- lines of buffers and pools

memory_in : (first : MemoryWord) (words : List Word) → Holds Readable (memory_line_of first words)
unfolding memory_line_of alloc_of xmit_of release_of form_of put_of pool_line_of pget_of pput_of pstats_of is_readable
memory_in memory.Allocate words =
    any _ (two words) _ (λ w. then _ _ (buffer_of w.0) _ (buffer_in w.0) (λ buf a. any _ (number_of w.1) _ (λ spelled. then _ _ (within 0 65542 spelled) _ (below_in 65542 spelled) (λ size b. both a b))))
memory_in memory.Transmit words = any _ (one_or_two words) _ (λ w. then _ _ (buffer_of w.0) _ (buffer_in w.0) (λ buf a. any _ (mode_of w.1) _ (λ inc. a)))
memory_in memory.Release words = any _ (one words) _ (λ w. then _ _ (buffer_of w) _ (buffer_in w) (λ buf a. a))
memory_in memory.Form words =
    any _ (three words) _ (λ w. then _ _ (buffer_of w.0) _ (buffer_in w.0) (λ buf a. any _ (number_of w.1) _ (λ number. any _ (number_of w.2) _ (λ first.
    then _ _ (within 0 65535 number) _ (below_in 65535 number) (λ id b. then _ _ (within 0 255 first) _ (below_in 255 first) (λ fill c. both (both a b) c))))))
memory_in memory.Put words =
    any _ (three words) _ (λ w. then _ _ (buffer_of w.0) _ (buffer_in w.0) (λ buf a. any _ (number_of w.1) _ (λ place. then _ _ (hex_word w.2) _ (hex_word_in w.2) (λ hex c.
    then _ _ (within 0 65541 place) _ (below_in 65541 place) (λ offset b. both (both a b) c)))))
memory_in memory.PoolCreate words = any _ (two words) _ (λ w. then _ _ (pool_of w.0) _ (pool_in w.0) (λ pool a. then _ _ (number_of w.1) _ (number_in w.1) (λ bytes b. both a b)))
memory_in memory.PoolGet words =
    any _ (three words) _ (λ w. then _ _ (grant_of w.0) _ (grant_in w.0) (λ grant a. then _ _ (pool_of w.1) _ (pool_in w.1) (λ pool b. then _ _ (number_of w.2) _ (number_in w.2) (λ size c. both (both a b) c))))
memory_in memory.PoolPut words = any _ (two words) _ (λ w. then _ _ (pool_of w.0) _ (pool_in w.0) (λ pool a. then _ _ (grant_of w.1) _ (grant_in w.1) (λ grant b. both a b)))
memory_in memory.PoolFigures words = any _ (one words) _ (λ w. then _ _ (pool_of w) _ (pool_in w) (λ pool a. a))

-- ---- lines of events

filter_in : (pair : ℕ × ℕ) → Holds (λ p. is_filter p ≡ true) (filter_of pair)
unfolding filter_of
filter_in pair = guard (λ p. is_filter p ≡ true) (nat_le pair.0 65535 && nat_le pair.1 65535) pair OutOfRange (λ h. h)

evreg_in : (words : List Word) → Holds Readable (evreg_of words)
unfolding evreg_of registered is_readable
evreg_in words =
    then _ _ (few 8 words) _ (few_in 8 words) (λ u small. then _ _ (each pair_word words) _ (each_in pair_word (λ p. true) (λ word. always (pair_word word)) words) (λ pairs a. then _ _ (each filter_of pairs) _ (each_in filter_of is_filter filter_in pairs) (λ filters b.
    guard _ (are_distinct_ids filters) _ Repeated (λ h. both (both (ap (λ n. nat_le n 8) (b.0 ∙ a.0) ∙ small) h) b.1))))
  where
    always : (r : Result (ℕ × ℕ) FaultKind) → Holds (λ p. true ≡ true) r
    always (Ok p) = refl
    always (Err fault) = tt

-- a text that is trimmed
abbrev is_trimmed : List ℕ → Bool
is_trimmed text = list_all is_text text && is_same (trimmed text) text

trimmed_in : (text : List ℕ) → list_all is_text text ≡ true → is_trimmed (trimmed text) ≡ true
trimmed_in text h = both (trimmed_is_text text h) (ap (λ t. is_same t (trimmed text)) (trimmed_again text) ∙ same_self (trimmed text))

two_and_text_in : (rest : List ℕ) → list_all is_text rest ≡ true → Holds (λ w. is_trimmed w.2 ≡ true) (two_and_text rest)
unfolding two_and_text
two_and_text_in rest h =
    any _ (next (words_of rest)) _ (λ first. any _ (next (words_of (behind_word rest))) _ (λ second. trimmed_in (behind_word (behind_word rest)) (behind_is_text (behind_word rest) (behind_is_text rest h))))

text_in : (text : List ℕ) → is_trimmed text ≡ true → Holds (λ t. is_event_text t ≡ true) (text_of text)
unfolding text_of
text_in text h = guard (λ t. is_event_text t ≡ true) (nat_le (length text) 200) text OutOfRange (λ short. both (both short (and_first (list_all is_text text) (is_same (trimmed text) text) h)) (and_second (list_all is_text text) (is_same (trimmed text) text) h))

event_in : (first : EventWord) (rest : List ℕ) → list_all is_text rest ≡ true → Holds Readable (event_line_of first rest)
unfolding event_line_of event_of evented evreset_of logmode_of is_readable
event_in event.Register rest h = evreg_in (words_of rest)
event_in event.Event rest h =
    then _ _ (two_and_text rest) _ (two_and_text_in rest h) (λ w t. any _ (number_of w.0) _ (λ id. any _ (number_of w.1) _ (λ type. then _ _ (within 0 65535 id) _ (below_in 65535 id) (λ number a. any _ (kind_of type) _ (λ kind.
    then _ _ (text_of w.2) _ (text_in w.2 t) (λ kept b. both a b))))))
event_in event.Reset rest h = any _ (one (words_of rest)) _ (λ w. any _ (number_of w) _ (λ number. then _ _ (within 0 65535 number) _ (below_in 65535 number) (λ id a. a)))
event_in event.LogMode rest h = any _ (one (words_of rest)) _ (λ w. any _ (number_of w) _ (λ number. then _ _ (within 0 1 number) _ (below_in 1 number) (λ mode a. a)))
event_in event.LogClear rest h = any _ (none (words_of rest)) _ (λ end. refl)
event_in event.Housekeeping rest h = any _ (none (words_of rest)) _ (λ end. refl)
event_in event.Figures rest h = any _ (none (words_of rest)) _ (λ end. refl)

-- ---- lines of tables

rule_in : (triple : ℕ × ℕ × ℕ) → Holds (λ r. is_rule r ≡ true) (rule_of triple)
unfolding rule_of
rule_in triple = guard (λ r. is_rule r ≡ true) (nat_le triple.0 65535 && nat_le triple.1 255 && nat_le triple.2 255) (record { offset = triple.0; low = triple.1; high = triple.2 }) OutOfRange (λ h. h)

-- the name's word, and at most eight rules
table_words_in : (words : List Word) → are_visible words ≡ true → Holds (λ w. (list_all is_visible w.0.1 ≡ true) × (nat_le (length w.1.2) 8 ≡ true)) (table_words words)
unfolding table_words
table_words_in words v =
    then _ _ (next_two words) _ (next_two_visible words v) (λ front seen. any _ (next_two front.2) _ (λ others. then _ _ (few 8 others.2) _ (few_in 8 others.2) (λ count small. (seen, small))))

described_in : (handle : ℕ) (word : Word) (figures : ℕ × ℕ) (triples : List (ℕ × ℕ × ℕ)) → nat_lt handle 64 ≡ true → list_all is_visible word ≡ true → nat_le (length triples) 8 ≡ true → Holds Readable (described handle word figures triples)
unfolding described is_readable
described_in handle word figures triples a seen small =
    then _ _ (name_of word) _ (name_in word seen) (λ name b. then _ _ (within 0 1000000 figures.0) _ (below_in 1000000 figures.0) (λ size c. then _ _ (within 0 7 figures.1) _ (below_in 7 figures.1) (λ option d.
    then _ _ (each rule_of triples) _ (each_in rule_of is_rule rule_in triples) (λ rules e. both (both (both (both (both a b) c) d) (ap (λ n. nat_le n 8) e.0 ∙ small)) e.1))))

treg_in : (words : List Word) → are_visible words ≡ true → Holds Readable (treg_of words)
unfolding treg_of
treg_in words v =
    then _ _ (table_words words) _ (table_words_in words v) (λ w seen. then _ _ (table_of w.0.0) _ (table_in w.0.0) (λ handle a. any _ (number_of w.1.0) _ (λ size. any _ (number_of w.1.1) _ (λ option.
    then _ _ (each triple_word w.1.2) _ (each_in triple_word (λ t. true) (λ word. always (triple_word word)) w.1.2) (λ triples e.
    described_in handle w.0.1 (size, option) triples a seen.0 (ap (λ n. nat_le n 8) e.0 ∙ seen.1))))))
  where
    always : (r : Result (ℕ × ℕ × ℕ) FaultKind) → Holds (λ p. true ≡ true) r
    always (Ok p) = refl
    always (Err fault) = tt

-- a load
abbrev is_load : ℕ × ℕ × Content → Bool
is_load load = nat_lt load.0 64 && nat_le load.1 65536 && is_content load.2

placed_in : (handle place : ℕ) (word : Word) (filling : Option (ℕ × ℕ)) → nat_lt handle 64 ≡ true → Holds (λ content. is_content content ≡ true) (content_of word filling) → Holds (λ load. is_load load ≡ true) (placed handle place word filling)
unfolding placed
placed_in handle place word filling a fits =
    then _ _ (within 0 65536 place) _ (below_in 65536 place) (λ offset b. then _ _ (content_of word filling) _ fits (λ content c. both (both a b) c))

load_in : (words : List Word) → Holds (λ load. is_load load ≡ true) (load_of words)
unfolding load_of
load_in words =
    any _ (three words) _ (λ w. then _ _ (table_of w.0) _ (table_in w.0) (λ handle a. any _ (number_of w.1) _ (λ place.
    then _ _ (filling_of w.2) _ (filling_in w.2) (λ filling spells. placed_in handle place w.2 filling a (content_in w.2 filling spells)))))

table_alone_in : (words : List Word) → Holds (λ n. nat_lt n 64 ≡ true) (table_alone words)
unfolding table_alone
table_alone_in words = any (λ n. nat_lt n 64 ≡ true) (one words) table_of table_in

table_line_in : (first : TableWord) (words : List Word) → are_visible words ≡ true → Holds Readable (table_line_of first words)
unfolding table_line_of tshare_of is_readable
table_line_in table.Register words v = treg_in words v
table_line_in table.Share words v = then _ _ (two words) _ (two_visible words v) (λ w seen. then _ _ (table_of w.0) _ (table_in w.0) (λ handle a. then _ _ (name_of w.1) _ (name_in w.1 seen) (λ name b. both a b)))
table_line_in table.Unregister words v = then _ _ (table_alone words) _ (table_alone_in words) (λ handle a. a)
table_line_in table.Stage words v = then _ _ (load_of words) _ (load_in words) (λ load a. a)
table_line_in table.Validate words v = then _ _ (table_alone words) _ (table_alone_in words) (λ handle a. a)
table_line_in table.Update words v = then _ _ (table_alone words) _ (table_alone_in words) (λ handle a. a)
table_line_in table.Abort words v = then _ _ (table_alone words) _ (table_alone_in words) (λ handle a. a)
table_line_in table.Load words v = then _ _ (load_of words) _ (load_in words) (λ load a. a)
table_line_in table.GetAddress words v = then _ _ (table_alone words) _ (table_alone_in words) (λ handle a. a)
table_line_in table.ReleaseAddress words v = then _ _ (table_alone words) _ (table_alone_in words) (λ handle a. a)
table_line_in table.Status words v = then _ _ (table_alone words) _ (table_alone_in words) (λ handle a. a)

show_in : (words : List Word) → Holds Readable (show_of words)
unfolding show_of shown is_readable
show_in words =
    any _ (one words) _ (λ w. either Readable (starts_with (λ a b. eqb a b) w (codes "p")) _ _ (then (λ n. nat_lt n 64 ≡ true) Readable (pipe_of w) _ (pipe_in w) (λ pipe a. a)) (then (λ n. nat_lt n 64 ≡ true) Readable (table_of w) _ (table_in w) (λ handle a. a)))

-- ---- any call line

pub call_readable : (first : CallWord) (rest : List ℕ) → list_all is_text rest ≡ true → Holds Readable (call_line_of first rest)
unfolding call_line_of
call_readable (Bus first) rest h = bus_in first (words_of rest) (words_visible rest h)
call_readable (Memory first) rest h = memory_in first (words_of rest)
call_readable (Event first) rest h = event_in first rest h
call_readable (Table first) rest h = table_line_in first (words_of rest) (words_visible rest h)
call_readable Show rest h = show_in (words_of rest)

pub readable_lines : (first : CallWord) (rest : List ℕ) (line : Line) → list_all is_text rest ≡ true → call_line_of first rest ≡ Ok line → is_readable line ≡ true
readable_lines first rest line h e = given Readable (call_line_of first rest) line (call_readable first rest h) e
