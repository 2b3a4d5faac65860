-- The spelling of each line that a script can have is read as that line.
use Rattle.std.proofs.Common.{◌≡◌, ℕ, ◌≤◌, Bool, true, ◌&&◌, nat_le, nat_lt, List, [], ◌∷◌, ◌++◌, length, map, Some, None, Result, Ok, refl, sym, ap, ◌∙◌, subst, arith, codes, decimal}
use Rattle.std.specs.List.{list_all}
use Rattle.std.proofs.lemmas.Bool.{leb-true}
use Rattle.std.proofs.lemmas.List.{length-append}
use Rattle.fsw_base.specs.declared.config.Scope.{Scope}
use Rattle.fsw_base.specs.declared.script_faults.FaultKind.{FaultKind}
use Rattle.fsw_base.specs.declared.events.EventKind.{EventKind}
use Rattle.fsw_base.specs.Events.{kind_number, are_filters}
use Rattle.text_page.specs.Texts.{hex_bytes, hex_id, name_text}
use Rattle.script_words.specs.Readings.{◌>>=◌}
use Rattle.script_words.specs.Text.{has_bytes, is_text, words_of, trimmed, is_same}
use Rattle.script_words.specs.Counts.{Word, none}
use Rattle.script_words.specs.declared.content.Content.TheVariants.{Hex, Fill}
use Rattle.tbl_rules.specs.declared.rules.Rule.{Rule}
use Rattle.script_lines.specs.declared.line.Line.{Line}
use Rattle.script_lines.specs.declared.line.Line.TheVariants as lines
use Rattle.script_lines.specs.declared.bus_lines.BusWord.{BusWord}
use Rattle.script_lines.specs.declared.bus_lines.BusWord.TheVariants as bus
use Rattle.script_lines.specs.declared.memory_lines.MemoryWord.{MemoryWord}
use Rattle.script_lines.specs.declared.memory_lines.MemoryWord.TheVariants as memory
use Rattle.script_lines.specs.declared.event_lines.EventWord.{EventWord}
use Rattle.script_lines.specs.declared.event_lines.EventWord.TheVariants as event
use Rattle.script_lines.specs.declared.table_lines.TableWord.{TableWord}
use Rattle.script_lines.specs.declared.table_lines.TableWord.TheVariants as table
use Rattle.script_lines.specs.declared.call_lines.CallWord.{CallWord}
use Rattle.script_lines.specs.declared.call_lines.CallWord.TheVariants.{Bus, Memory, Event, Table, Show}
use Rattle.script_lines.specs.BusLines.{bus_word, bus_line_of}
use Rattle.script_lines.specs.MemoryLines.{memory_word, memory_line_of}
use Rattle.script_lines.specs.EventLines.{event_word, event_line_of, evreg_of, evreset_of, logmode_of}
use Rattle.script_lines.specs.TableLines.{table_line_of, table_alone, load_of, show_of}
use Rattle.script_lines.specs.TableLines as tables
use Rattle.script_lines.specs.CallLines.{table_or_show, event_or_table, memory_or_event, call_word, call_line_of}
use Rattle.script_text.specs.Spelling.{spaced, behind, pipe_word, buffer_word, pool_word, grant_word, table_word, scope_text, mode_text, content_text, filter_text, rule_text, text_words, line_words, line_text}
use Rattle.script_lines.specs.Ranges.{is_visible, is_name, is_spelled, is_event_text, is_content, is_filter, is_rule, is_readable}
use Rattle.script_text.specs.ReadsBack.{IsReadAs}
use Rattle.script_lines.proofs.Booleans.{and_first, and_second, all_append, all_weaker}
use Rattle.script_text.proofs.PieceLemmas.{spaced_parts}
use Rattle.script_text.proofs.WordLemmas.{is_word, visible_is_text, words-first, words-behind, behind-first, AreWords, no_words, ◌◃◌, keyword, words_are_text}
use Rattle.script_text.proofs.SpelledNumbers.{number_fits, id_fits, hex_text_fits, pipe_fits, buffer_fits, pool_fits, grant_fits, table_fits}
use Rattle.script_text.proofs.SpelledWords.{name_fits, mode_fits, scope_fits, kind_small, filter_fits, rule_fits, elements_fit, hex_content, fill_content, fill_fits}
use Rattle.script_text.proofs.LineReadings.{pipe_alone_reads, create_reads, opts_reads, find_reads, sub_reads, unsub_reads, send_reads, sendraw_reads, alloc_reads, xmit_reads, release_reads, form_reads, put_reads, pool_line_reads, pget_reads, pput_reads, pstats_reads, evreg_reads, event_reads, evreset_reads, logmode_reads, table_alone_reads, tshare_reads, treg_reads, load_reads, show_pipe_reads, show_table_reads}

-- a first word, and a text behind it
text_back : (first : Word) (rest : List Word) (line : Line) (word : CallWord) → is_word first ≡ true → length (first ++ behind rest) ≤ 1024 → list_all is_text (first ++ behind rest) ≡ true
    → call_word first ≡ Some word → call_line_of word (behind rest) ≡ Ok line → IsReadAs (spaced (first ∷ rest)) line
text_back first rest line word form short printed known reads =
    subst (λ (t : List ℕ). IsReadAs t line) (sym (spaced_parts first rest)) (record {
      short = short;
      printed = printed;
      first = first;
      others = words_of (behind rest);
      words = words-first first rest form;
      word = word;
      known = known;
      reads = ap (call_line_of word) (behind-first first rest form) ∙ reads;
    })

-- a line of words
words_back : {n : ℕ} (first : Word) (rest : List Word) (line : Line) (word : CallWord) → AreWords n (first ∷ rest) → nat_le n 1025 ≡ true → call_word first ≡ Some word → call_line_of word (behind rest) ≡ Ok line
    → IsReadAs (spaced (first ∷ rest)) line
words_back {n} first rest line word are few known reads =
    let form = and_first (is_word first) (list_all is_word rest) are.forms in
    let others = and_second (is_word first) (list_all is_word rest) are.forms in
    let bound = leb-true n 1025 few in
    let size = are.short in
    text_back first rest line word form (omega arith)
    (all_append is_text first (behind rest) (all_weaker is_visible is_text visible_is_text first (and_second (has_bytes first) (list_all is_visible first) form)) (words_are_text rest others))
    known reads

bus_back : {n : ℕ} (word : BusWord) (first : Word) (rest : List Word) (line : Line) → AreWords n (first ∷ rest) → nat_le n 1025 ≡ true → call_word first ≡ Some (Bus word) → bus_line_of word rest ≡ Ok line → IsReadAs (spaced (first ∷ rest)) line
unfolding call_line_of
bus_back word first rest line are few known reads =
    words_back first rest line (Bus word) are few known (ap (bus_line_of word) (words-behind rest (and_second (is_word first) (list_all is_word rest) are.forms)) ∙ reads)

memory_back : {n : ℕ} (word : MemoryWord) (first : Word) (rest : List Word) (line : Line) → AreWords n (first ∷ rest) → nat_le n 1025 ≡ true → call_word first ≡ Some (Memory word) → memory_line_of word rest ≡ Ok line → IsReadAs (spaced (first ∷ rest)) line
unfolding call_line_of
memory_back word first rest line are few known reads =
    words_back first rest line (Memory word) are few known (ap (memory_line_of word) (words-behind rest (and_second (is_word first) (list_all is_word rest) are.forms)) ∙ reads)

table_back : {n : ℕ} (word : TableWord) (first : Word) (rest : List Word) (line : Line) → AreWords n (first ∷ rest) → nat_le n 1025 ≡ true → call_word first ≡ Some (Table word) → table_line_of word rest ≡ Ok line → IsReadAs (spaced (first ∷ rest)) line
unfolding call_line_of
table_back word first rest line are few known reads =
    words_back first rest line (Table word) are few known (ap (table_line_of word) (words-behind rest (and_second (is_word first) (list_all is_word rest) are.forms)) ∙ reads)

show_back : {n : ℕ} (first : Word) (rest : List Word) (line : Line) → AreWords n (first ∷ rest) → nat_le n 1025 ≡ true → call_word first ≡ Some Show → show_of rest ≡ Ok line → IsReadAs (spaced (first ∷ rest)) line
unfolding call_line_of
show_back first rest line are few known reads =
    words_back first rest line Show are few known (ap show_of (words-behind rest (and_second (is_word first) (list_all is_word rest) are.forms)) ∙ reads)

-- an event's line, whose form the words alone decide
event_back : {n : ℕ} (word : EventWord) (read : List Word → Result Line FaultKind) (first : Word) (rest : List Word) (line : Line) → ((text : List ℕ) → event_line_of word text ≡ read (words_of text)) → AreWords n (first ∷ rest) → nat_le n 1025 ≡ true
    → call_word first ≡ Some (Event word) → read rest ≡ Ok line → IsReadAs (spaced (first ∷ rest)) line
unfolding call_line_of
event_back word read first rest line by_words are few known reads =
    words_back first rest line (Event word) are few known (by_words (behind rest) ∙ ap read (words-behind rest (and_second (is_word first) (list_all is_word rest) are.forms)) ∙ reads)

create_back : (pipe : ℕ) (depth : ℕ) (name : List ℕ) → nat_lt pipe 64 ≡ true → nat_le depth 65535 ≡ true → is_name name ≡ true → IsReadAs (line_text (lines.Create pipe depth name)) (lines.Create pipe depth name)
unfolding line_words call_word bus_word bus_line_of
create_back pipe depth name h0 h1 h2 =
    bus_back bus.Create (codes "create") (pipe_word pipe ∷ decimal depth ∷ name_text name ∷ []) (lines.Create pipe depth name) (keyword (codes "create") refl refl ◃ pipe_fits pipe h0 ◃ number_fits 65535 depth h1 refl ◃ name_fits name h2 ◃ no_words) refl refl (create_reads pipe depth name h0 h1 h2)

delete_back : (pipe : ℕ) → nat_lt pipe 64 ≡ true → IsReadAs (line_text (lines.Delete pipe)) (lines.Delete pipe)
unfolding line_words call_word bus_word bus_line_of
delete_back pipe h0 =
    bus_back bus.Delete (codes "delete") (pipe_word pipe ∷ []) (lines.Delete pipe) (keyword (codes "delete") refl refl ◃ pipe_fits pipe h0 ◃ no_words) refl refl (ap (λ r. r >>= λ p. Ok (lines.Delete p)) (pipe_alone_reads pipe h0))

opts_back : (pipe : ℕ) (bits : ℕ) → nat_lt pipe 64 ≡ true → nat_le bits 255 ≡ true → IsReadAs (line_text (lines.SetOpts pipe bits)) (lines.SetOpts pipe bits)
unfolding line_words call_word bus_word bus_line_of
opts_back pipe bits h0 h1 =
    bus_back bus.SetOpts (codes "opts") (pipe_word pipe ∷ decimal bits ∷ []) (lines.SetOpts pipe bits) (keyword (codes "opts") refl refl ◃ pipe_fits pipe h0 ◃ number_fits 255 bits h1 refl ◃ no_words) refl refl (opts_reads pipe bits h0 h1)

getopts_back : (pipe : ℕ) → nat_lt pipe 64 ≡ true → IsReadAs (line_text (lines.GetOpts pipe)) (lines.GetOpts pipe)
unfolding line_words call_word bus_word bus_line_of
getopts_back pipe h0 =
    bus_back bus.GetOpts (codes "getopts") (pipe_word pipe ∷ []) (lines.GetOpts pipe) (keyword (codes "getopts") refl refl ◃ pipe_fits pipe h0 ◃ no_words) refl refl (ap (λ r. r >>= λ p. Ok (lines.GetOpts p)) (pipe_alone_reads pipe h0))

find_back : (pipe : ℕ) (name : List ℕ) → nat_lt pipe 64 ≡ true → is_name name ≡ true → IsReadAs (line_text (lines.Find pipe name)) (lines.Find pipe name)
unfolding line_words call_word bus_word bus_line_of
find_back pipe name h0 h1 =
    bus_back bus.Find (codes "find") (pipe_word pipe ∷ name_text name ∷ []) (lines.Find pipe name) (keyword (codes "find") refl refl ◃ pipe_fits pipe h0 ◃ name_fits name h1 ◃ no_words) refl refl (find_reads pipe name h0 h1)

pname_back : (pipe : ℕ) → nat_lt pipe 64 ≡ true → IsReadAs (line_text (lines.PipeName pipe)) (lines.PipeName pipe)
unfolding line_words call_word bus_word bus_line_of
pname_back pipe h0 =
    bus_back bus.PipeName (codes "pname") (pipe_word pipe ∷ []) (lines.PipeName pipe) (keyword (codes "pname") refl refl ◃ pipe_fits pipe h0 ◃ no_words) refl refl (ap (λ r. r >>= λ p. Ok (lines.PipeName p)) (pipe_alone_reads pipe h0))

sub_back : (id : ℕ) (pipe : ℕ) (limit : ℕ) (scope : Scope) → nat_le id 65535 ≡ true → nat_lt pipe 64 ≡ true → nat_le limit 65535 ≡ true → IsReadAs (line_text (lines.Subscribe id pipe limit scope)) (lines.Subscribe id pipe limit scope)
unfolding line_words call_word bus_word bus_line_of
sub_back id pipe limit scope h0 h1 h2 =
    bus_back bus.Subscribe (codes "sub") (hex_id id ∷ pipe_word pipe ∷ decimal limit ∷ scope_text scope ∷ []) (lines.Subscribe id pipe limit scope) (keyword (codes "sub") refl refl ◃ id_fits id h0 ◃ pipe_fits pipe h1 ◃ number_fits 65535 limit h2 refl ◃ scope_fits scope ◃ no_words) refl refl (sub_reads id pipe limit scope h0 h1 h2)

unsub_back : (id : ℕ) (pipe : ℕ) → nat_le id 65535 ≡ true → nat_lt pipe 64 ≡ true → IsReadAs (line_text (lines.Unsubscribe id pipe)) (lines.Unsubscribe id pipe)
unfolding line_words call_word bus_word bus_line_of
unsub_back id pipe h0 h1 =
    bus_back bus.Unsubscribe (codes "unsub") (hex_id id ∷ pipe_word pipe ∷ []) (lines.Unsubscribe id pipe) (keyword (codes "unsub") refl refl ◃ id_fits id h0 ◃ pipe_fits pipe h1 ◃ no_words) refl refl (unsub_reads id pipe h0 h1)

send_back : (id : ℕ) (size : ℕ) (fill : ℕ) (inc : Bool) → nat_le id 65535 ≡ true → nat_le 7 size ≡ true → nat_le size 65542 ≡ true → nat_le fill 255 ≡ true → IsReadAs (line_text (lines.Send id size fill inc)) (lines.Send id size fill inc)
unfolding line_words call_word bus_word bus_line_of
send_back id size fill inc h0 h1 h2 h3 =
    bus_back bus.Send (codes "send") (hex_id id ∷ decimal size ∷ decimal fill ∷ mode_text inc ∷ []) (lines.Send id size fill inc) (keyword (codes "send") refl refl ◃ id_fits id h0 ◃ number_fits 65542 size h2 refl ◃ number_fits 255 fill h3 refl ◃ mode_fits inc ◃ no_words) refl refl (send_reads id size fill inc h0 h1 h2 h3)

sendraw_back : (bytes : List ℕ) (inc : Bool) → is_spelled bytes ≡ true → IsReadAs (line_text (lines.SendRaw bytes inc)) (lines.SendRaw bytes inc)
unfolding line_words call_word bus_word bus_line_of
sendraw_back bytes inc h0 =
    bus_back bus.SendRaw (codes "sendraw") (hex_bytes bytes ∷ mode_text inc ∷ []) (lines.SendRaw bytes inc) (keyword (codes "sendraw") refl refl ◃ hex_text_fits bytes h0 ◃ mode_fits inc ◃ no_words) refl refl (sendraw_reads bytes inc h0)

recv_back : (pipe : ℕ) → nat_lt pipe 64 ≡ true → IsReadAs (line_text (lines.Receive pipe)) (lines.Receive pipe)
unfolding line_words call_word bus_word bus_line_of
recv_back pipe h0 =
    bus_back bus.Receive (codes "recv") (pipe_word pipe ∷ []) (lines.Receive pipe) (keyword (codes "recv") refl refl ◃ pipe_fits pipe h0 ◃ no_words) refl refl (ap (λ r. r >>= λ p. Ok (lines.Receive p)) (pipe_alone_reads pipe h0))

pend_back : (pipe : ℕ) → nat_lt pipe 64 ≡ true → IsReadAs (line_text (lines.Pend pipe)) (lines.Pend pipe)
unfolding line_words call_word bus_word bus_line_of
pend_back pipe h0 =
    bus_back bus.Pend (codes "pend") (pipe_word pipe ∷ []) (lines.Pend pipe) (keyword (codes "pend") refl refl ◃ pipe_fits pipe h0 ◃ no_words) refl refl (ap (λ r. r >>= λ p. Ok (lines.Pend p)) (pipe_alone_reads pipe h0))

alloc_back : (buf : ℕ) (size : ℕ) → nat_lt buf 64 ≡ true → nat_le size 65542 ≡ true → IsReadAs (line_text (lines.Allocate buf size)) (lines.Allocate buf size)
unfolding line_words call_word bus_word memory_or_event memory_word memory_line_of
alloc_back buf size h0 h1 =
    memory_back memory.Allocate (codes "alloc") (buffer_word buf ∷ decimal size ∷ []) (lines.Allocate buf size) (keyword (codes "alloc") refl refl ◃ buffer_fits buf h0 ◃ number_fits 65542 size h1 refl ◃ no_words) refl refl (alloc_reads buf size h0 h1)

xmit_back : (buf : ℕ) (inc : Bool) → nat_lt buf 64 ≡ true → IsReadAs (line_text (lines.TransmitBuffer buf inc)) (lines.TransmitBuffer buf inc)
unfolding line_words call_word bus_word memory_or_event memory_word memory_line_of
xmit_back buf inc h0 =
    memory_back memory.Transmit (codes "xmit") (buffer_word buf ∷ mode_text inc ∷ []) (lines.TransmitBuffer buf inc) (keyword (codes "xmit") refl refl ◃ buffer_fits buf h0 ◃ mode_fits inc ◃ no_words) refl refl (xmit_reads buf inc h0)

release_back : (buf : ℕ) → nat_lt buf 64 ≡ true → IsReadAs (line_text (lines.Release buf)) (lines.Release buf)
unfolding line_words call_word bus_word memory_or_event memory_word memory_line_of
release_back buf h0 =
    memory_back memory.Release (codes "release") (buffer_word buf ∷ []) (lines.Release buf) (keyword (codes "release") refl refl ◃ buffer_fits buf h0 ◃ no_words) refl refl (release_reads buf h0)

pool_back : (pool : ℕ) (bytes : ℕ) → nat_lt pool 8 ≡ true → nat_le bytes 4294967295 ≡ true → IsReadAs (line_text (lines.PoolCreate pool bytes)) (lines.PoolCreate pool bytes)
unfolding line_words call_word bus_word memory_or_event memory_word memory_line_of
pool_back pool bytes h0 h1 =
    memory_back memory.PoolCreate (codes "pool") (pool_word pool ∷ decimal bytes ∷ []) (lines.PoolCreate pool bytes) (keyword (codes "pool") refl refl ◃ pool_fits pool h0 ◃ number_fits 4294967295 bytes h1 refl ◃ no_words) refl refl (pool_line_reads pool bytes h0 h1)

pget_back : (grant : ℕ) (pool : ℕ) (size : ℕ) → nat_lt grant 64 ≡ true → nat_lt pool 8 ≡ true → nat_le size 4294967295 ≡ true → IsReadAs (line_text (lines.PoolGet grant pool size)) (lines.PoolGet grant pool size)
unfolding line_words call_word bus_word memory_or_event memory_word memory_line_of
pget_back grant pool size h0 h1 h2 =
    memory_back memory.PoolGet (codes "pget") (grant_word grant ∷ pool_word pool ∷ decimal size ∷ []) (lines.PoolGet grant pool size) (keyword (codes "pget") refl refl ◃ grant_fits grant h0 ◃ pool_fits pool h1 ◃ number_fits 4294967295 size h2 refl ◃ no_words) refl refl (pget_reads grant pool size h0 h1 h2)

pput_back : (pool : ℕ) (grant : ℕ) → nat_lt pool 8 ≡ true → nat_lt grant 64 ≡ true → IsReadAs (line_text (lines.PoolPut pool grant)) (lines.PoolPut pool grant)
unfolding line_words call_word bus_word memory_or_event memory_word memory_line_of
pput_back pool grant h0 h1 =
    memory_back memory.PoolPut (codes "pput") (pool_word pool ∷ grant_word grant ∷ []) (lines.PoolPut pool grant) (keyword (codes "pput") refl refl ◃ pool_fits pool h0 ◃ grant_fits grant h1 ◃ no_words) refl refl (pput_reads pool grant h0 h1)

pstats_back : (pool : ℕ) → nat_lt pool 8 ≡ true → IsReadAs (line_text (lines.PoolFigures pool)) (lines.PoolFigures pool)
unfolding line_words call_word bus_word memory_or_event memory_word memory_line_of
pstats_back pool h0 =
    memory_back memory.PoolFigures (codes "pstats") (pool_word pool ∷ []) (lines.PoolFigures pool) (keyword (codes "pstats") refl refl ◃ pool_fits pool h0 ◃ no_words) refl refl (pstats_reads pool h0)

form_back : (buf : ℕ) (id : ℕ) (fill : ℕ) → nat_lt buf 64 ≡ true → nat_le id 65535 ≡ true → nat_le fill 255 ≡ true → IsReadAs (line_text (lines.Form buf id fill)) (lines.Form buf id fill)
unfolding line_words call_word bus_word memory_or_event memory_word memory_line_of
form_back buf id fill h0 h1 h2 =
    memory_back memory.Form (codes "form") (buffer_word buf ∷ hex_id id ∷ decimal fill ∷ []) (lines.Form buf id fill) (keyword (codes "form") refl refl ◃ buffer_fits buf h0 ◃ id_fits id h1 ◃ number_fits 255 fill h2 refl ◃ no_words) refl refl (form_reads buf id fill h0 h1 h2)

put_back : (buf : ℕ) (offset : ℕ) (bytes : List ℕ) → nat_lt buf 64 ≡ true → nat_le offset 65541 ≡ true → is_spelled bytes ≡ true → IsReadAs (line_text (lines.Put buf offset bytes)) (lines.Put buf offset bytes)
unfolding line_words call_word bus_word memory_or_event memory_word memory_line_of
put_back buf offset bytes h0 h1 h2 =
    memory_back memory.Put (codes "put") (buffer_word buf ∷ decimal offset ∷ hex_bytes bytes ∷ []) (lines.Put buf offset bytes) (keyword (codes "put") refl refl ◃ buffer_fits buf h0 ◃ number_fits 65541 offset h1 refl ◃ hex_text_fits bytes h2 ◃ no_words) refl refl (put_reads buf offset bytes h0 h1 h2)

tshare_back : (handle : ℕ) (name : List ℕ) → nat_lt handle 64 ≡ true → is_name name ≡ true → IsReadAs (line_text (lines.TableShare handle name)) (lines.TableShare handle name)
unfolding line_words call_word bus_word memory_or_event memory_word event_or_table event_word table_or_show tables.table_word table_line_of
tshare_back handle name h0 h1 =
    table_back table.Share (codes "tshare") (table_word handle ∷ name_text name ∷ []) (lines.TableShare handle name) (keyword (codes "tshare") refl refl ◃ table_fits handle h0 ◃ name_fits name h1 ◃ no_words) refl refl (tshare_reads handle name h0 h1)

tunreg_back : (handle : ℕ) → nat_lt handle 64 ≡ true → IsReadAs (line_text (lines.TableUnregister handle)) (lines.TableUnregister handle)
unfolding line_words call_word bus_word memory_or_event memory_word event_or_table event_word table_or_show tables.table_word table_line_of
tunreg_back handle h0 =
    table_back table.Unregister (codes "tunreg") (table_word handle ∷ []) (lines.TableUnregister handle) (keyword (codes "tunreg") refl refl ◃ table_fits handle h0 ◃ no_words) refl refl (ap (λ r. r >>= λ h. Ok (lines.TableUnregister h)) (table_alone_reads handle h0))

tval_back : (handle : ℕ) → nat_lt handle 64 ≡ true → IsReadAs (line_text (lines.Validate handle)) (lines.Validate handle)
unfolding line_words call_word bus_word memory_or_event memory_word event_or_table event_word table_or_show tables.table_word table_line_of
tval_back handle h0 =
    table_back table.Validate (codes "tval") (table_word handle ∷ []) (lines.Validate handle) (keyword (codes "tval") refl refl ◃ table_fits handle h0 ◃ no_words) refl refl (ap (λ r. r >>= λ h. Ok (lines.Validate h)) (table_alone_reads handle h0))

tupd_back : (handle : ℕ) → nat_lt handle 64 ≡ true → IsReadAs (line_text (lines.Update handle)) (lines.Update handle)
unfolding line_words call_word bus_word memory_or_event memory_word event_or_table event_word table_or_show tables.table_word table_line_of
tupd_back handle h0 =
    table_back table.Update (codes "tupd") (table_word handle ∷ []) (lines.Update handle) (keyword (codes "tupd") refl refl ◃ table_fits handle h0 ◃ no_words) refl refl (ap (λ r. r >>= λ h. Ok (lines.Update h)) (table_alone_reads handle h0))

tabort_back : (handle : ℕ) → nat_lt handle 64 ≡ true → IsReadAs (line_text (lines.Abort handle)) (lines.Abort handle)
unfolding line_words call_word bus_word memory_or_event memory_word event_or_table event_word table_or_show tables.table_word table_line_of
tabort_back handle h0 =
    table_back table.Abort (codes "tabort") (table_word handle ∷ []) (lines.Abort handle) (keyword (codes "tabort") refl refl ◃ table_fits handle h0 ◃ no_words) refl refl (ap (λ r. r >>= λ h. Ok (lines.Abort h)) (table_alone_reads handle h0))

tget_back : (handle : ℕ) → nat_lt handle 64 ≡ true → IsReadAs (line_text (lines.GetAddress handle)) (lines.GetAddress handle)
unfolding line_words call_word bus_word memory_or_event memory_word event_or_table event_word table_or_show tables.table_word table_line_of
tget_back handle h0 =
    table_back table.GetAddress (codes "tget") (table_word handle ∷ []) (lines.GetAddress handle) (keyword (codes "tget") refl refl ◃ table_fits handle h0 ◃ no_words) refl refl (ap (λ r. r >>= λ h. Ok (lines.GetAddress h)) (table_alone_reads handle h0))

trel_back : (handle : ℕ) → nat_lt handle 64 ≡ true → IsReadAs (line_text (lines.ReleaseAddress handle)) (lines.ReleaseAddress handle)
unfolding line_words call_word bus_word memory_or_event memory_word event_or_table event_word table_or_show tables.table_word table_line_of
trel_back handle h0 =
    table_back table.ReleaseAddress (codes "trel") (table_word handle ∷ []) (lines.ReleaseAddress handle) (keyword (codes "trel") refl refl ◃ table_fits handle h0 ◃ no_words) refl refl (ap (λ r. r >>= λ h. Ok (lines.ReleaseAddress h)) (table_alone_reads handle h0))

tstat_back : (handle : ℕ) → nat_lt handle 64 ≡ true → IsReadAs (line_text (lines.Status handle)) (lines.Status handle)
unfolding line_words call_word bus_word memory_or_event memory_word event_or_table event_word table_or_show tables.table_word table_line_of
tstat_back handle h0 =
    table_back table.Status (codes "tstat") (table_word handle ∷ []) (lines.Status handle) (keyword (codes "tstat") refl refl ◃ table_fits handle h0 ◃ no_words) refl refl (ap (λ r. r >>= λ h. Ok (lines.Status h)) (table_alone_reads handle h0))

show_pipe_back : (pipe : ℕ) → nat_lt pipe 64 ≡ true → IsReadAs (line_text (lines.ShowPipe pipe)) (lines.ShowPipe pipe)
unfolding line_words call_word bus_word memory_or_event memory_word event_or_table event_word table_or_show tables.table_word
show_pipe_back pipe h0 =
    show_back (codes "show") (pipe_word pipe ∷ []) (lines.ShowPipe pipe) (keyword (codes "show") refl refl ◃ pipe_fits pipe h0 ◃ no_words) refl refl (show_pipe_reads pipe h0)

show_table_back : (handle : ℕ) → nat_lt handle 64 ≡ true → IsReadAs (line_text (lines.ShowTable handle)) (lines.ShowTable handle)
unfolding line_words call_word bus_word memory_or_event memory_word event_or_table event_word table_or_show tables.table_word
show_table_back handle h0 =
    show_back (codes "show") (table_word handle ∷ []) (lines.ShowTable handle) (keyword (codes "show") refl refl ◃ table_fits handle h0 ◃ no_words) refl refl (show_table_reads handle h0)

treg_back : (handle : ℕ) (name : List ℕ) (size option : ℕ) (rules : List Rule) → nat_lt handle 64 ≡ true → is_name name ≡ true → nat_le size 1000000 ≡ true → nat_le option 7 ≡ true → nat_le (length rules) 8 ≡ true → list_all is_rule rules ≡ true
    → IsReadAs (line_text (lines.TableRegister handle name size option rules)) (lines.TableRegister handle name size option rules)
unfolding line_words call_word bus_word memory_or_event memory_word event_or_table event_word table_or_show tables.table_word table_line_of
treg_back handle name size option rules h0 h1 h2 h3 h4 h5 =
    table_back table.Register (codes "treg") (table_word handle ∷ name_text name ∷ decimal size ∷ decimal option ∷ map rule_text rules) (lines.TableRegister handle name size option rules)
    (keyword (codes "treg") refl refl ◃ table_fits handle h0 ◃ name_fits name h1 ◃ number_fits 1000000 size h2 refl ◃ number_fits 7 option h3 refl ◃ elements_fit is_rule rule_text 32 rule_fits rules 8 (leb-true (length rules) 8 h4) h5)
    refl refl (treg_reads handle name size option rules h0 h1 h2 h3 h4 h5)

tstage_hex_back : (handle offset : ℕ) (bytes : List ℕ) → nat_lt handle 64 ≡ true → nat_le offset 65536 ≡ true → is_spelled bytes ≡ true → IsReadAs (line_text (lines.Stage handle offset (Hex bytes))) (lines.Stage handle offset (Hex bytes))
unfolding line_words call_word bus_word memory_or_event memory_word event_or_table event_word table_or_show tables.table_word table_line_of
tstage_hex_back handle offset bytes h0 h1 h2 =
    table_back table.Stage (codes "tstage") (table_word handle ∷ decimal offset ∷ content_text (Hex bytes) ∷ []) (lines.Stage handle offset (Hex bytes))
    (keyword (codes "tstage") refl refl ◃ table_fits handle h0 ◃ number_fits 65536 offset h1 refl ◃ hex_text_fits bytes h2 ◃ no_words)
    refl refl (ap (λ r. r >>= λ load. Ok (lines.Stage load.0 load.1 load.2)) (load_reads handle offset (Hex bytes) None h0 h1 (hex_content bytes h2)))

tstage_fill_back : (handle offset : ℕ) (len byte : ℕ) → nat_lt handle 64 ≡ true → nat_le offset 65536 ≡ true → is_content (Fill len byte) ≡ true → IsReadAs (line_text (lines.Stage handle offset (Fill len byte))) (lines.Stage handle offset (Fill len byte))
unfolding line_words call_word bus_word memory_or_event memory_word event_or_table event_word table_or_show tables.table_word table_line_of
tstage_fill_back handle offset len byte h0 h1 h2 =
    table_back table.Stage (codes "tstage") (table_word handle ∷ decimal offset ∷ content_text (Fill len byte) ∷ []) (lines.Stage handle offset (Fill len byte))
    (keyword (codes "tstage") refl refl ◃ table_fits handle h0 ◃ number_fits 65536 offset h1 refl ◃ fill_fits len byte h2 ◃ no_words)
    refl refl (ap (λ r. r >>= λ load. Ok (lines.Stage load.0 load.1 load.2)) (load_reads handle offset (Fill len byte) (Some (len, byte)) h0 h1 (fill_content len byte h2)))

tload_hex_back : (handle offset : ℕ) (bytes : List ℕ) → nat_lt handle 64 ≡ true → nat_le offset 65536 ≡ true → is_spelled bytes ≡ true → IsReadAs (line_text (lines.Load handle offset (Hex bytes))) (lines.Load handle offset (Hex bytes))
unfolding line_words call_word bus_word memory_or_event memory_word event_or_table event_word table_or_show tables.table_word table_line_of
tload_hex_back handle offset bytes h0 h1 h2 =
    table_back table.Load (codes "tload") (table_word handle ∷ decimal offset ∷ content_text (Hex bytes) ∷ []) (lines.Load handle offset (Hex bytes))
    (keyword (codes "tload") refl refl ◃ table_fits handle h0 ◃ number_fits 65536 offset h1 refl ◃ hex_text_fits bytes h2 ◃ no_words)
    refl refl (ap (λ r. r >>= λ load. Ok (lines.Load load.0 load.1 load.2)) (load_reads handle offset (Hex bytes) None h0 h1 (hex_content bytes h2)))

tload_fill_back : (handle offset : ℕ) (len byte : ℕ) → nat_lt handle 64 ≡ true → nat_le offset 65536 ≡ true → is_content (Fill len byte) ≡ true → IsReadAs (line_text (lines.Load handle offset (Fill len byte))) (lines.Load handle offset (Fill len byte))
unfolding line_words call_word bus_word memory_or_event memory_word event_or_table event_word table_or_show tables.table_word table_line_of
tload_fill_back handle offset len byte h0 h1 h2 =
    table_back table.Load (codes "tload") (table_word handle ∷ decimal offset ∷ content_text (Fill len byte) ∷ []) (lines.Load handle offset (Fill len byte))
    (keyword (codes "tload") refl refl ◃ table_fits handle h0 ◃ number_fits 65536 offset h1 refl ◃ fill_fits len byte h2 ◃ no_words)
    refl refl (ap (λ r. r >>= λ load. Ok (lines.Load load.0 load.1 load.2)) (load_reads handle offset (Fill len byte) (Some (len, byte)) h0 h1 (fill_content len byte h2)))

evreg_back : (filters : List (ℕ × ℕ)) → are_filters filters ≡ true → list_all is_filter filters ≡ true → IsReadAs (line_text (lines.Register filters)) (lines.Register filters)
unfolding line_words call_word bus_word memory_or_event memory_word event_or_table event_word event_line_of
evreg_back filters h0 h1 =
    event_back event.Register evreg_of (codes "evreg") (map filter_text filters) (lines.Register filters) (λ text. refl)
    (keyword (codes "evreg") refl refl ◃ elements_fit is_filter filter_text 17 filter_fits filters 8 (leb-true (length filters) 8 (and_first (nat_le (length filters) 8) _ h0)) h1)
    refl refl (evreg_reads filters h0 h1)

evreset_back : (id : ℕ) → nat_le id 65535 ≡ true → IsReadAs (line_text (lines.ResetFilter id)) (lines.ResetFilter id)
unfolding line_words call_word bus_word memory_or_event memory_word event_or_table event_word event_line_of
evreset_back id h0 =
    event_back event.Reset evreset_of (codes "evreset") (decimal id ∷ []) (lines.ResetFilter id) (λ text. refl) (keyword (codes "evreset") refl refl ◃ number_fits 65535 id h0 refl ◃ no_words) refl refl (evreset_reads id h0)

logmode_back : (mode : ℕ) → nat_le mode 1 ≡ true → IsReadAs (line_text (lines.LogMode mode)) (lines.LogMode mode)
unfolding line_words call_word bus_word memory_or_event memory_word event_or_table event_word event_line_of
logmode_back mode h0 =
    event_back event.LogMode logmode_of (codes "logmode") (decimal mode ∷ []) (lines.LogMode mode) (λ text. refl) (keyword (codes "logmode") refl refl ◃ number_fits 1 mode h0 refl ◃ no_words) refl refl (logmode_reads mode h0)

logclear_back : IsReadAs (line_text lines.ClearLog) lines.ClearLog
unfolding line_words call_word bus_word memory_or_event memory_word event_or_table event_word event_line_of none
logclear_back = event_back event.LogClear (λ words. none words >>= λ end. Ok lines.ClearLog) (codes "logclear") [] lines.ClearLog (λ text. refl) (keyword (codes "logclear") refl refl ◃ no_words) refl refl refl

hk_back : IsReadAs (line_text lines.Housekeeping) lines.Housekeeping
unfolding line_words call_word bus_word memory_or_event memory_word event_or_table event_word event_line_of none
hk_back = event_back event.Housekeeping (λ words. none words >>= λ end. Ok lines.Housekeeping) (codes "hk") [] lines.Housekeeping (λ text. refl) (keyword (codes "hk") refl refl ◃ no_words) refl refl refl

stats_back : IsReadAs (line_text lines.Figures) lines.Figures
unfolding line_words call_word bus_word memory_or_event memory_word event_or_table event_word event_line_of none
stats_back = event_back event.Figures (λ words. none words >>= λ end. Ok lines.Figures) (codes "stats") [] lines.Figures (λ text. refl) (keyword (codes "stats") refl refl ◃ no_words) refl refl refl

-- the words of an event before its text, and the text
event_front : (id kind : ℕ) (text : List ℕ) → nat_le id 65535 ≡ true → nat_le kind 4 ≡ true → is_event_text text ≡ true
    → (length (codes "event" ++ behind (decimal id ∷ decimal kind ∷ text_words text)) ≤ 1024) × (list_all is_text (codes "event" ++ behind (decimal id ∷ decimal kind ∷ text_words text)) ≡ true)
event_front id kind text h0 h1 h2 =
    let one = number_fits 65535 id h0 refl in
    let other = number_fits 4 kind h1 refl in
    let a = one.short in
    let b = other.short in
    let behind_kind = behind (text_words text) in
    let last = text_end text h2 in
    let short = last.0 in (
      omega (arith, length-append (decimal id) (32 ∷ decimal kind ++ behind (text_words text)), length-append (decimal kind) (behind (text_words text))),
      all_append is_text (decimal id) (32 ∷ decimal kind ++ behind (text_words text)) (visible_text (decimal id) one.form) (all_append is_text (decimal kind) (behind (text_words text)) (visible_text (decimal kind) other.form) last.1),
    )
  where
    visible_text : (word : Word) → is_word word ≡ true → list_all is_text word ≡ true
    visible_text word form = all_weaker is_visible is_text visible_is_text word (and_second (has_bytes word) (list_all is_visible word) form)

    text_end : (t : List ℕ) → is_event_text t ≡ true → (length (behind (text_words t)) ≤ 201) × (list_all is_text (behind (text_words t)) ≡ true)
    text_end [] h = (omega arith, refl)
    text_end (byte ∷ bytes) h =
        let small = leb-true (length (byte ∷ bytes)) 200 (and_first (nat_le (length (byte ∷ bytes)) 200) (list_all is_text (byte ∷ bytes)) (and_first _ (is_same (trimmed (byte ∷ bytes)) (byte ∷ bytes)) h)) in
        let printed = and_second (nat_le (length (byte ∷ bytes)) 200) (list_all is_text (byte ∷ bytes)) (and_first _ (is_same (trimmed (byte ∷ bytes)) (byte ∷ bytes)) h) in
        (omega (arith, length-append bytes []), all_append is_text (byte ∷ bytes) [] printed refl)

event_text_back : (id : ℕ) (kind : EventKind) (text : List ℕ) → nat_le id 65535 ≡ true → is_event_text text ≡ true → IsReadAs (line_text (lines.SendEvent id kind text)) (lines.SendEvent id kind text)
unfolding line_words call_word call_line_of bus_word memory_or_event memory_word event_or_table event_word event_line_of
event_text_back id kind text h0 h1 =
    let front = event_front id (kind_number kind) text h0 (kind_small kind) h1 in
    text_back (codes "event") (decimal id ∷ decimal (kind_number kind) ∷ text_words text) (lines.SendEvent id kind text) (Event event.Event) refl front.0 front.1 refl
    (event_reads id kind text h0 h1 (number_fits 65535 id h0 refl).form (number_fits 4 (kind_number kind) (kind_small kind) refl).form)

pub reads_back : (line : Line) → is_readable line ≡ true → IsReadAs (line_text line) line
unfolding is_readable
reads_back (lines.Create pipe depth name) h = create_back pipe depth name (and_first (nat_lt pipe 64) (nat_le depth 65535) (and_first (nat_lt pipe 64 && nat_le depth 65535) (is_name name) h)) (and_second (nat_lt pipe 64) (nat_le depth 65535) (and_first (nat_lt pipe 64 && nat_le depth 65535) (is_name name) h)) (and_second (nat_lt pipe 64 && nat_le depth 65535) (is_name name) h)
reads_back (lines.Delete pipe) h = delete_back pipe h
reads_back (lines.SetOpts pipe bits) h = opts_back pipe bits (and_first (nat_lt pipe 64) (nat_le bits 255) h) (and_second (nat_lt pipe 64) (nat_le bits 255) h)
reads_back (lines.GetOpts pipe) h = getopts_back pipe h
reads_back (lines.Find pipe name) h = find_back pipe name (and_first (nat_lt pipe 64) (is_name name) h) (and_second (nat_lt pipe 64) (is_name name) h)
reads_back (lines.PipeName pipe) h = pname_back pipe h
reads_back (lines.Subscribe id pipe limit scope) h = sub_back id pipe limit scope (and_first (nat_le id 65535) (nat_lt pipe 64) (and_first (nat_le id 65535 && nat_lt pipe 64) (nat_le limit 65535) h)) (and_second (nat_le id 65535) (nat_lt pipe 64) (and_first (nat_le id 65535 && nat_lt pipe 64) (nat_le limit 65535) h)) (and_second (nat_le id 65535 && nat_lt pipe 64) (nat_le limit 65535) h)
reads_back (lines.Unsubscribe id pipe) h = unsub_back id pipe (and_first (nat_le id 65535) (nat_lt pipe 64) h) (and_second (nat_le id 65535) (nat_lt pipe 64) h)
reads_back (lines.Send id size fill inc) h = send_back id size fill inc (and_first (nat_le id 65535) (nat_le 7 size) (and_first (nat_le id 65535 && nat_le 7 size) (nat_le size 65542) (and_first (nat_le id 65535 && nat_le 7 size && nat_le size 65542) (nat_le fill 255) h))) (and_second (nat_le id 65535) (nat_le 7 size) (and_first (nat_le id 65535 && nat_le 7 size) (nat_le size 65542) (and_first (nat_le id 65535 && nat_le 7 size && nat_le size 65542) (nat_le fill 255) h))) (and_second (nat_le id 65535 && nat_le 7 size) (nat_le size 65542) (and_first (nat_le id 65535 && nat_le 7 size && nat_le size 65542) (nat_le fill 255) h)) (and_second (nat_le id 65535 && nat_le 7 size && nat_le size 65542) (nat_le fill 255) h)
reads_back (lines.SendRaw bytes inc) h = sendraw_back bytes inc h
reads_back (lines.Receive pipe) h = recv_back pipe h
reads_back (lines.Pend pipe) h = pend_back pipe h
reads_back (lines.Allocate buf size) h = alloc_back buf size (and_first (nat_lt buf 64) (nat_le size 65542) h) (and_second (nat_lt buf 64) (nat_le size 65542) h)
reads_back (lines.TransmitBuffer buf inc) h = xmit_back buf inc h
reads_back (lines.Release buf) h = release_back buf h
reads_back (lines.PoolCreate pool bytes) h = pool_back pool bytes (and_first (nat_lt pool 8) (nat_le bytes 4294967295) h) (and_second (nat_lt pool 8) (nat_le bytes 4294967295) h)
reads_back (lines.PoolGet grant pool size) h = pget_back grant pool size (and_first (nat_lt grant 64) (nat_lt pool 8) (and_first (nat_lt grant 64 && nat_lt pool 8) (nat_le size 4294967295) h)) (and_second (nat_lt grant 64) (nat_lt pool 8) (and_first (nat_lt grant 64 && nat_lt pool 8) (nat_le size 4294967295) h)) (and_second (nat_lt grant 64 && nat_lt pool 8) (nat_le size 4294967295) h)
reads_back (lines.PoolPut pool grant) h = pput_back pool grant (and_first (nat_lt pool 8) (nat_lt grant 64) h) (and_second (nat_lt pool 8) (nat_lt grant 64) h)
reads_back (lines.PoolFigures pool) h = pstats_back pool h
reads_back (lines.Register filters) h = evreg_back filters (and_first (are_filters filters) (list_all is_filter filters) h) (and_second (are_filters filters) (list_all is_filter filters) h)
reads_back (lines.SendEvent id kind text) h = event_text_back id kind text (and_first (nat_le id 65535) (is_event_text text) h) (and_second (nat_le id 65535) (is_event_text text) h)
reads_back (lines.ResetFilter id) h = evreset_back id h
reads_back (lines.LogMode mode) h = logmode_back mode h
reads_back lines.ClearLog h = logclear_back
reads_back lines.Housekeeping h = hk_back
reads_back lines.Figures h = stats_back
reads_back (lines.TableRegister handle name size option rules) h =
    let one = nat_lt handle 64 in
    let two = one && is_name name in
    let three = two && nat_le size 1000000 in
    let four = three && nat_le option 7 in
    let five = four && nat_le (length rules) 8 in
    let to_five : five ≡ true = and_first five (list_all is_rule rules) h in
    let to_four : four ≡ true = and_first four (nat_le (length rules) 8) to_five in
    let to_three : three ≡ true = and_first three (nat_le option 7) to_four in
    let to_two : two ≡ true = and_first two (nat_le size 1000000) to_three in
    treg_back handle name size option rules (and_first one (is_name name) to_two) (and_second one (is_name name) to_two)
    (and_second two (nat_le size 1000000) to_three) (and_second three (nat_le option 7) to_four) (and_second four (nat_le (length rules) 8) to_five)
    (and_second five (list_all is_rule rules) h)
reads_back (lines.TableShare handle name) h = tshare_back handle name (and_first (nat_lt handle 64) (is_name name) h) (and_second (nat_lt handle 64) (is_name name) h)
reads_back (lines.TableUnregister handle) h = tunreg_back handle h
reads_back (lines.Stage handle offset (Hex bytes)) h = tstage_hex_back handle offset bytes (and_first (nat_lt handle 64) (nat_le offset 65536) (and_first (nat_lt handle 64 && nat_le offset 65536) (is_content (Hex bytes)) h)) (and_second (nat_lt handle 64) (nat_le offset 65536) (and_first (nat_lt handle 64 && nat_le offset 65536) (is_content (Hex bytes)) h)) (and_second (nat_lt handle 64 && nat_le offset 65536) (is_content (Hex bytes)) h)
reads_back (lines.Stage handle offset (Fill len byte)) h = tstage_fill_back handle offset len byte (and_first (nat_lt handle 64) (nat_le offset 65536) (and_first (nat_lt handle 64 && nat_le offset 65536) (is_content (Fill len byte)) h)) (and_second (nat_lt handle 64) (nat_le offset 65536) (and_first (nat_lt handle 64 && nat_le offset 65536) (is_content (Fill len byte)) h)) (and_second (nat_lt handle 64 && nat_le offset 65536) (is_content (Fill len byte)) h)
reads_back (lines.Validate handle) h = tval_back handle h
reads_back (lines.Update handle) h = tupd_back handle h
reads_back (lines.Abort handle) h = tabort_back handle h
reads_back (lines.Load handle offset (Hex bytes)) h = tload_hex_back handle offset bytes (and_first (nat_lt handle 64) (nat_le offset 65536) (and_first (nat_lt handle 64 && nat_le offset 65536) (is_content (Hex bytes)) h)) (and_second (nat_lt handle 64) (nat_le offset 65536) (and_first (nat_lt handle 64 && nat_le offset 65536) (is_content (Hex bytes)) h)) (and_second (nat_lt handle 64 && nat_le offset 65536) (is_content (Hex bytes)) h)
reads_back (lines.Load handle offset (Fill len byte)) h = tload_fill_back handle offset len byte (and_first (nat_lt handle 64) (nat_le offset 65536) (and_first (nat_lt handle 64 && nat_le offset 65536) (is_content (Fill len byte)) h)) (and_second (nat_lt handle 64) (nat_le offset 65536) (and_first (nat_lt handle 64 && nat_le offset 65536) (is_content (Fill len byte)) h)) (and_second (nat_lt handle 64 && nat_le offset 65536) (is_content (Fill len byte)) h)
reads_back (lines.GetAddress handle) h = tget_back handle h
reads_back (lines.ReleaseAddress handle) h = trel_back handle h
reads_back (lines.Status handle) h = tstat_back handle h
reads_back (lines.Form buf id fill) h = form_back buf id fill (and_first (nat_lt buf 64) (nat_le id 65535) (and_first (nat_lt buf 64 && nat_le id 65535) (nat_le fill 255) h)) (and_second (nat_lt buf 64) (nat_le id 65535) (and_first (nat_lt buf 64 && nat_le id 65535) (nat_le fill 255) h)) (and_second (nat_lt buf 64 && nat_le id 65535) (nat_le fill 255) h)
reads_back (lines.Put buf offset bytes) h = put_back buf offset bytes (and_first (nat_lt buf 64) (nat_le offset 65541) (and_first (nat_lt buf 64 && nat_le offset 65541) (is_spelled bytes) h)) (and_second (nat_lt buf 64) (nat_le offset 65541) (and_first (nat_lt buf 64 && nat_le offset 65541) (is_spelled bytes) h)) (and_second (nat_lt buf 64 && nat_le offset 65541) (is_spelled bytes) h)
reads_back (lines.ShowPipe pipe) h = show_pipe_back pipe h
reads_back (lines.ShowTable handle) h = show_table_back handle h
