-- What the words of each line read as.
use Rattle.std.proofs.Common.{◌≡◌, ℕ, Bool, true, nat_le, nat_lt, eqb, List, [], ◌∷◌, length, map, Option, Ok, append-nil, refl, sym, ap, ◌∙◌, decimal}
use Rattle.std.specs.List.{list_all}
use Rattle.std.proofs.lemmas.Bool.{eqb-true}
use Rattle.fsw_base.specs.declared.config.Scope.{Scope}
use Rattle.fsw_base.specs.declared.events.EventKind.{EventKind}
use Rattle.fsw_base.specs.Events.{kind_number, are_filters}
use Rattle.fsw_base.specs.Starts.{are_distinct_ids}
use Rattle.text_page.specs.Texts.{hex_bytes, hex_id, name_text}
use Rattle.script_words.specs.Readings.{◌>>=◌}
use Rattle.script_words.specs.Lists.{each}
use Rattle.script_words.specs.Text.{is_same, words_of, behind_word, without_blanks_behind, trimmed}
use Rattle.script_words.specs.Counts.{Word, next, none, one, two, three, optional, one_or_two, two_optional, next_two, two_to_four, three_or_four, few}
use Rattle.script_words.specs.declared.content.Content.{Content}
use Rattle.tbl_rules.specs.declared.rules.Rule.{Rule}
use Rattle.script_lines.specs.declared.line.Line.TheVariants as lines
use Rattle.script_lines.specs.BusLines.{pipe_alone, create_of, opts_of, find_of, limit_of, subscribed, sub_of, unsub_of, sent, send_of, sendraw_of}
use Rattle.script_lines.specs.MemoryLines.{alloc_of, xmit_of, release_of, form_of, put_of, pool_line_of, pget_of, pput_of, pstats_of}
use Rattle.script_lines.specs.EventLines.{pair_word, filter_of, registered, evreg_of, two_and_text, text_of, evented, event_of, evreset_of, logmode_of}
use Rattle.script_lines.specs.TableLines.{table_alone, triple_word, rule_of, table_words, described, treg_of, tshare_of, placed, load_of, shown, show_of}
use Rattle.script_text.specs.Spelling.{behind, pipe_word, buffer_word, pool_word, grant_word, table_word, scope_text, mode_text, content_text, filter_text, rule_text, text_words}
use Rattle.script_lines.specs.Ranges.{is_name, is_spelled, is_event_text, is_filter, is_rule}
use Rattle.script_lines.proofs.Booleans.{and_first, and_second}
use Rattle.script_text.proofs.WordLemmas.{is_word, words-next, behind-next, from_space}
use Rattle.script_text.proofs.SpelledNumbers.{number_reads, within_reads, within_most, id_reads, hex_text_reads, pipe_reads, buffer_reads, pool_reads, grant_reads, table_reads}
use Rattle.script_text.proofs.SpelledWords.{name_reads, mode_reads, scope_reads, kind_reads, kind_small, hex_word_reads, filter_reads, filter_kept, rule_reads, rule_kept, each-map, each-same, map-self, map_length, ReadsContent}

-- ---- pipes, subscriptions and messages

pub pipe_alone_reads : (pipe : ℕ) → nat_lt pipe 64 ≡ true → pipe_alone (pipe_word pipe ∷ []) ≡ Ok pipe
unfolding pipe_alone one next none
pipe_alone_reads pipe a = pipe_reads pipe a

pub create_reads : (pipe depth : ℕ) (name : List ℕ) → nat_lt pipe 64 ≡ true → nat_le depth 65535 ≡ true → is_name name ≡ true → create_of (pipe_word pipe ∷ decimal depth ∷ name_text name ∷ []) ≡ Ok (lines.Create pipe depth name)
unfolding create_of three two one next none
create_reads pipe depth name a b c =
    let p = pipe_reads pipe a in
    let q = number_reads 65535 depth b refl in
    let r = within_most 65535 depth b in
    let s = name_reads name c in
    rw (p, q, r, s) refl

pub opts_reads : (pipe bits : ℕ) → nat_lt pipe 64 ≡ true → nat_le bits 255 ≡ true → opts_of (pipe_word pipe ∷ decimal bits ∷ []) ≡ Ok (lines.SetOpts pipe bits)
unfolding opts_of two one next none
opts_reads pipe bits a b =
    let p = pipe_reads pipe a in
    let q = number_reads 255 bits b refl in
    let r = within_most 255 bits b in
    rw (p, q, r) refl

pub find_reads : (pipe : ℕ) (name : List ℕ) → nat_lt pipe 64 ≡ true → is_name name ≡ true → find_of (pipe_word pipe ∷ name_text name ∷ []) ≡ Ok (lines.Find pipe name)
unfolding find_of two one next none
find_reads pipe name a b =
    let p = pipe_reads pipe a in
    let q = name_reads name b in
    rw (p, q) refl

subscribed_reads : (id pipe limit : ℕ) (scope : Scope) → nat_le id 65535 ≡ true → nat_le limit 65535 ≡ true → subscribed id pipe limit scope ≡ Ok (lines.Subscribe id pipe limit scope)
unfolding subscribed
subscribed_reads id pipe limit scope a b =
    let p = within_most 65535 id a in
    let q = within_most 65535 limit b in
    rw p (rw q refl)

pub sub_reads : (id pipe limit : ℕ) (scope : Scope) → nat_le id 65535 ≡ true → nat_lt pipe 64 ≡ true → nat_le limit 65535 ≡ true → sub_of (hex_id id ∷ pipe_word pipe ∷ decimal limit ∷ scope_text scope ∷ []) ≡ Ok (lines.Subscribe id pipe limit scope)
unfolding sub_of two_to_four next_two two_optional optional next none limit_of
sub_reads id pipe limit scope a b c =
    let p = id_reads id a in
    let q = pipe_reads pipe b in
    let r = number_reads 65535 limit c refl in
    let s = scope_reads scope in
    rw (p, q, r, s) (subscribed_reads id pipe limit scope a c)

pub unsub_reads : (id pipe : ℕ) → nat_le id 65535 ≡ true → nat_lt pipe 64 ≡ true → unsub_of (hex_id id ∷ pipe_word pipe ∷ []) ≡ Ok (lines.Unsubscribe id pipe)
unfolding unsub_of two one next none
unsub_reads id pipe a b =
    let p = id_reads id a in
    let q = pipe_reads pipe b in
    let r = within_most 65535 id a in
    rw (p, q, r) refl

sent_reads : (id size fill : ℕ) (inc : Bool) → nat_le id 65535 ≡ true → nat_le 7 size ≡ true → nat_le size 65542 ≡ true → nat_le fill 255 ≡ true → sent id size fill inc ≡ Ok (lines.Send id size fill inc)
unfolding sent
sent_reads id size fill inc a b c d =
    let p = within_most 65535 id a in
    let q = within_reads 7 65542 size b c in
    let r = within_most 255 fill d in
    rw p (rw q (rw r refl))

pub send_reads : (id size fill : ℕ) (inc : Bool) → nat_le id 65535 ≡ true → nat_le 7 size ≡ true → nat_le size 65542 ≡ true → nat_le fill 255 ≡ true
    → send_of (hex_id id ∷ decimal size ∷ decimal fill ∷ mode_text inc ∷ []) ≡ Ok (lines.Send id size fill inc)
unfolding send_of three_or_four next_two one_or_two optional next none
send_reads id size fill inc a b c d =
    let p = id_reads id a in
    let q = number_reads 65542 size c refl in
    let r = number_reads 255 fill d refl in
    let s = mode_reads inc in
    rw p (rw q (rw r (rw s (sent_reads id size fill inc a b c d))))

pub sendraw_reads : (bytes : List ℕ) (inc : Bool) → is_spelled bytes ≡ true → sendraw_of (hex_bytes bytes ∷ mode_text inc ∷ []) ≡ Ok (lines.SendRaw bytes inc)
unfolding sendraw_of one_or_two optional next none
sendraw_reads bytes inc a =
    let p = hex_word_reads bytes a in
    let q = mode_reads inc in
    rw (p, q) (ap (λ l. Ok (lines.SendRaw l inc)) (hex_text_reads bytes a))

-- ---- buffers and pools

pub alloc_reads : (buf size : ℕ) → nat_lt buf 64 ≡ true → nat_le size 65542 ≡ true → alloc_of (buffer_word buf ∷ decimal size ∷ []) ≡ Ok (lines.Allocate buf size)
unfolding alloc_of two one next none
alloc_reads buf size a b =
    let p = buffer_reads buf a in
    let q = number_reads 65542 size b refl in
    let r = within_most 65542 size b in
    rw (p, q, r) refl

pub xmit_reads : (buf : ℕ) (inc : Bool) → nat_lt buf 64 ≡ true → xmit_of (buffer_word buf ∷ mode_text inc ∷ []) ≡ Ok (lines.TransmitBuffer buf inc)
unfolding xmit_of one_or_two optional next none
xmit_reads buf inc a =
    let p = buffer_reads buf a in
    let q = mode_reads inc in
    rw (p, q) refl

pub release_reads : (buf : ℕ) → nat_lt buf 64 ≡ true → release_of (buffer_word buf ∷ []) ≡ Ok (lines.Release buf)
unfolding release_of one next none
release_reads buf a = let p = buffer_reads buf a in rw p refl

pub form_reads : (buf id fill : ℕ) → nat_lt buf 64 ≡ true → nat_le id 65535 ≡ true → nat_le fill 255 ≡ true → form_of (buffer_word buf ∷ hex_id id ∷ decimal fill ∷ []) ≡ Ok (lines.Form buf id fill)
unfolding form_of three two one next none
form_reads buf id fill a b c =
    let p = buffer_reads buf a in
    let q = id_reads id b in
    let r = number_reads 255 fill c refl in
    let s = within_most 65535 id b in
    let t = within_most 255 fill c in
    rw p (rw q (rw r (rw s (rw t refl))))

pub put_reads : (buf offset : ℕ) (bytes : List ℕ) → nat_lt buf 64 ≡ true → nat_le offset 65541 ≡ true → is_spelled bytes ≡ true → put_of (buffer_word buf ∷ decimal offset ∷ hex_bytes bytes ∷ []) ≡ Ok (lines.Put buf offset bytes)
unfolding put_of three two one next none
put_reads buf offset bytes a b c =
    let p = buffer_reads buf a in
    let q = number_reads 65541 offset b refl in
    let r = hex_word_reads bytes c in
    let s = within_most 65541 offset b in
    rw (p, q, r, s) (ap (λ l. Ok (lines.Put buf offset l)) (hex_text_reads bytes c))

pub pool_line_reads : (pool bytes : ℕ) → nat_lt pool 8 ≡ true → nat_le bytes 4294967295 ≡ true → pool_line_of (pool_word pool ∷ decimal bytes ∷ []) ≡ Ok (lines.PoolCreate pool bytes)
unfolding pool_line_of two one next none
pool_line_reads pool bytes a b =
    let p = pool_reads pool a in
    let q = number_reads 4294967295 bytes b refl in
    rw (p, q) refl

pub pget_reads : (grant pool size : ℕ) → nat_lt grant 64 ≡ true → nat_lt pool 8 ≡ true → nat_le size 4294967295 ≡ true → pget_of (grant_word grant ∷ pool_word pool ∷ decimal size ∷ []) ≡ Ok (lines.PoolGet grant pool size)
unfolding pget_of three two one next none
pget_reads grant pool size a b c =
    let p = grant_reads grant a in
    let q = pool_reads pool b in
    let r = number_reads 4294967295 size c refl in
    rw (p, q, r) refl

pub pput_reads : (pool grant : ℕ) → nat_lt pool 8 ≡ true → nat_lt grant 64 ≡ true → pput_of (pool_word pool ∷ grant_word grant ∷ []) ≡ Ok (lines.PoolPut pool grant)
unfolding pput_of two one next none
pput_reads pool grant a b =
    let p = pool_reads pool a in
    let q = grant_reads grant b in
    rw (p, q) refl

pub pstats_reads : (pool : ℕ) → nat_lt pool 8 ≡ true → pstats_of (pool_word pool ∷ []) ≡ Ok (lines.PoolFigures pool)
unfolding pstats_of one next none
pstats_reads pool a = let p = pool_reads pool a in rw p refl

-- ---- events

few_reads : (most : ℕ) (words : List Word) → nat_le (length words) most ≡ true → few most words ≡ Ok tt
unfolding few
few_reads most words h = rw h refl

registered_reads : (filters : List (ℕ × ℕ)) → are_distinct_ids filters ≡ true → registered filters ≡ Ok (lines.Register filters)
unfolding registered
registered_reads filters h = rw h refl

pub evreg_reads : (filters : List (ℕ × ℕ)) → are_filters filters ≡ true → list_all is_filter filters ≡ true → evreg_of (map filter_text filters) ≡ Ok (lines.Register filters)
unfolding evreg_of
evreg_reads filters a b =
    let p = few_reads 8 (map filter_text filters) (ap (λ n. nat_le n 8) (map_length filter_text filters) ∙ and_first (nat_le (length filters) 8) (are_distinct_ids filters) a) in
    let q = each-same is_filter pair_word filter_text filter_reads filters b in
    let r = ap (each filter_of) (sym (map-self filters)) ∙ each-same is_filter filter_of (λ pair. pair) filter_kept filters b in
    let s = registered_reads filters (and_second (nat_le (length filters) 8) (are_distinct_ids filters) a) in
    rw p (rw q (rw r s))

same_bytes : (xs ys : List ℕ) → is_same xs ys ≡ true → xs ≡ ys
same_bytes [] [] h = refl
same_bytes [] (y ∷ ys) h = absurd cc
same_bytes (x ∷ xs) [] h = absurd cc
same_bytes (x ∷ xs) (y ∷ ys) h =
    let first = eqb-true x y (and_first (eqb x y) (is_same xs ys) h) in
    let others = same_bytes xs ys (and_second (eqb x y) (is_same xs ys) h) in
    cc

text_behind : (text : List ℕ) → is_event_text text ≡ true → trimmed (behind (text_words text)) ≡ text
text_behind [] h = refl
text_behind (byte ∷ bytes) h =
    ap (λ l. trimmed (32 ∷ byte ∷ l)) (append-nil bytes) ∙ ap without_blanks_behind (from_space (byte ∷ bytes)) ∙ same_bytes (trimmed (byte ∷ bytes)) (byte ∷ bytes) (and_second _ _ h)

two_and_text_reads : (rest more last text : List ℕ) (a b : Word) (others third : List Word) → words_of rest ≡ a ∷ others → behind_word rest ≡ more → words_of more ≡ b ∷ third → behind_word more ≡ last → trimmed last ≡ text
    → two_and_text rest ≡ Ok (a, b, text)
unfolding two_and_text next
two_and_text_reads rest more last text a b others third words back words_more back_more trim =
    let words_back : words_of (behind_word rest) ≡ b ∷ third = ap words_of back ∙ words_more in
    let ends : trimmed (behind_word (behind_word rest)) ≡ text = ap (λ l. trimmed (behind_word l)) back ∙ ap trimmed back_more ∙ trim in
    ap (λ w. next w >>= λ first. next (words_of (behind_word rest)) >>= λ second. Ok (first.0, second.0, trimmed (behind_word (behind_word rest)))) words
    ∙ ap (λ w. next w >>= λ second. Ok (a, second.0, trimmed (behind_word (behind_word rest)))) words_back
    ∙ ap (λ l. Ok (a, b, l)) ends

evented_reads : (id : ℕ) (kind : EventKind) (text : List ℕ) → nat_le id 65535 ≡ true → nat_le (length text) 200 ≡ true → evented id (kind_number kind) text ≡ Ok (lines.SendEvent id kind text)
unfolding evented text_of
evented_reads id kind text a b =
    let p = within_most 65535 id a in
    let q = kind_reads kind in
    rw p (rw q (rw b refl))

pub event_reads : (id : ℕ) (kind : EventKind) (text : List ℕ) → nat_le id 65535 ≡ true → is_event_text text ≡ true → is_word (decimal id) ≡ true → is_word (decimal (kind_number kind)) ≡ true
    → event_of (behind (decimal id ∷ decimal (kind_number kind) ∷ text_words text)) ≡ Ok (lines.SendEvent id kind text)
unfolding event_of
event_reads id kind text a b c d =
    let p = two_and_text_reads (behind (decimal id ∷ decimal (kind_number kind) ∷ text_words text)) (behind (decimal (kind_number kind) ∷ text_words text)) (behind (text_words text)) text (decimal id) (decimal (kind_number kind))
    (words_of (behind (decimal (kind_number kind) ∷ text_words text))) (words_of (behind (text_words text)))
    (words-next (decimal id) (decimal (kind_number kind) ∷ text_words text) c) (behind-next (decimal id) (decimal (kind_number kind) ∷ text_words text) c)
    (words-next (decimal (kind_number kind)) (text_words text) d) (behind-next (decimal (kind_number kind)) (text_words text) d) (text_behind text b) in
    let q = number_reads 65535 id a refl in
    let r = number_reads 4 (kind_number kind) (kind_small kind) refl in
    let s = evented_reads id kind text a (and_first (nat_le (length text) 200) _ (and_first _ _ b)) in
    rw p (rw q (rw r s))

pub evreset_reads : (id : ℕ) → nat_le id 65535 ≡ true → evreset_of (decimal id ∷ []) ≡ Ok (lines.ResetFilter id)
unfolding evreset_of one next none
evreset_reads id a =
    let p = number_reads 65535 id a refl in
    let q = within_most 65535 id a in
    rw p (rw q refl)

pub logmode_reads : (mode : ℕ) → nat_le mode 1 ≡ true → logmode_of (decimal mode ∷ []) ≡ Ok (lines.LogMode mode)
unfolding logmode_of one next none
logmode_reads mode a =
    let p = number_reads 1 mode a refl in
    let q = within_most 1 mode a in
    rw p (rw q refl)

-- ---- tables

pub table_alone_reads : (handle : ℕ) → nat_lt handle 64 ≡ true → table_alone (table_word handle ∷ []) ≡ Ok handle
unfolding table_alone one next none
table_alone_reads handle a = table_reads handle a

pub tshare_reads : (handle : ℕ) (name : List ℕ) → nat_lt handle 64 ≡ true → is_name name ≡ true → tshare_of (table_word handle ∷ name_text name ∷ []) ≡ Ok (lines.TableShare handle name)
unfolding tshare_of two one next none
tshare_reads handle name a b =
    let p = table_reads handle a in
    let q = name_reads name b in
    rw (p, q) refl

described_reads : (handle : ℕ) (name : List ℕ) (size option : ℕ) (rules : List Rule) → is_name name ≡ true → nat_le size 1000000 ≡ true → nat_le option 7 ≡ true → list_all is_rule rules ≡ true
    → described handle (name_text name) (size, option) (map (λ rule. (rule.offset, rule.low, rule.high)) rules) ≡ Ok (lines.TableRegister handle name size option rules)
unfolding described
described_reads handle name size option rules a b c d =
    let p = name_reads name a in
    let q = within_most 1000000 size b in
    let r = within_most 7 option c in
    let s = each-same is_rule rule_of (λ rule. (rule.offset, rule.low, rule.high)) rule_kept rules d in
    rw p (rw q (rw r (rw s refl)))

pub treg_reads : (handle : ℕ) (name : List ℕ) (size option : ℕ) (rules : List Rule) → nat_lt handle 64 ≡ true → is_name name ≡ true → nat_le size 1000000 ≡ true → nat_le option 7 ≡ true → nat_le (length rules) 8 ≡ true → list_all is_rule rules ≡ true
    → treg_of (table_word handle ∷ name_text name ∷ decimal size ∷ decimal option ∷ map rule_text rules) ≡ Ok (lines.TableRegister handle name size option rules)
unfolding treg_of table_words next_two next
treg_reads handle name size option rules a b c d e f =
    let count = few_reads 8 (map rule_text rules) (ap (λ n. nat_le n 8) (map_length rule_text rules) ∙ e) in
    let p = table_reads handle a in
    let q = number_reads 1000000 size c refl in
    let r = number_reads 7 option d refl in
    let s = each-map is_rule triple_word rule_text (λ rule. (rule.offset, rule.low, rule.high)) rule_reads rules f in
    rw count (rw p (rw q (rw r (rw s (described_reads handle name size option rules b c d f)))))

placed_reads : (handle offset : ℕ) (content : Content) (filling : Option (ℕ × ℕ)) → nat_le offset 65536 ≡ true → ReadsContent content filling → placed handle offset (content_text content) filling ≡ Ok (handle, offset, content)
unfolding placed
placed_reads handle offset content filling a reads =
    let p = within_most 65536 offset a in
    let q = reads.kept in
    rw p (rw q refl)

pub load_reads : (handle offset : ℕ) (content : Content) (filling : Option (ℕ × ℕ)) → nat_lt handle 64 ≡ true → nat_le offset 65536 ≡ true → ReadsContent content filling → load_of (table_word handle ∷ decimal offset ∷ content_text content ∷ []) ≡ Ok (handle, offset, content)
unfolding load_of three two one next none
load_reads handle offset content filling a b reads =
    let p = table_reads handle a in
    let q = number_reads 65536 offset b refl in
    let r = reads.filled in
    rw p (rw q (rw r (placed_reads handle offset content filling b reads)))

pub show_pipe_reads : (pipe : ℕ) → nat_lt pipe 64 ≡ true → show_of (pipe_word pipe ∷ []) ≡ Ok (lines.ShowPipe pipe)
unfolding show_of shown one next none
show_pipe_reads pipe a = let p = pipe_reads pipe a in rw p refl

pub show_table_reads : (handle : ℕ) → nat_lt handle 64 ≡ true → show_of (table_word handle ∷ []) ≡ Ok (lines.ShowTable handle)
unfolding show_of shown one next none
show_table_reads handle a = let p = table_reads handle a in rw p refl
