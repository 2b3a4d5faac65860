-- The receipts that an application tells, line by line, are those of both services by the places of their lines.
use Rattle.std.proofs.Common.{◌≡◌, ℕ, ◌+◌, ◌≤◌, ◌⊎◌, inl, inr, nat_lt, Bool, true, false, cond, true≢false, List, [], ◌∷◌, ◌++◌, length, Option, Some, None, refl, ap, sym, ◌∙◌, subst, arith, append-nil}
use Rattle.std.proofs.lemmas.Bool.Decides.{nat_tests}
use Rattle.std.specs.Option.{option_map_or}
use Rattle.bus_words.specs.declared.calls.BusAnswer.{BusAnswer}
use Rattle.bus_words.specs.declared.history.Call.{Call}
use Rattle.bus_words.specs.declared.history.Entry.{Entry}
use Rattle.bus_words.specs.declared.receipts.Receipt.{Receipt}
use Rattle.bus_words.specs.Bus.{State, opening}
use Rattle.tbl_words.specs.declared.calls.TblAnswer.{TblAnswer}
use Rattle.tbl_words.specs.declared.history.Call.{Call as TableCall}
use Rattle.tbl_words.specs.declared.history.Entry.{Entry as TableEntry}
use Rattle.tbl_words.specs.Tables.{State as Tables, opening as no_tables}
use Rattle.script_lines.specs.declared.line.Line.{Line}
use Rattle.script_lines.specs.declared.line.Line.TheVariants as lines
use Rattle.script_runs.specs.LineCalls.{LineCall, AtBus, AtTables, NoCall, bus_call, line_call_of, table_call}
use Rattle.script_runs.specs.TableTrace.{TableLineEntries, TableTrace, first_handles, handles_after, table_call_of}
use Rattle.script_runs.specs.Told.{Seen, TableSeen, Telling, line_told, other_told, receipts_of, seen_from, settled_from, settled_told, shown, table_receipts_of, table_seen_from, told}
use Rattle.script_runs.specs.Trace.{LineEntries, Registers, Trace, call_of, first_registers, registers_after}
use Rattle.script_runs.specs.Written.{Written, first_written, written_after, written_by}
use Rattle.run_check.specs.Merged.{ReceiptsAreMerged, merged, merged_with, receipts_in}
use Rattle.run_check.specs.Places.{Made, Place, first_place, lines_of, made_at, passed, place_after, shown_at_bus}
use Rattle.run_check.specs.TablePlaces.{TablePlace, first_table_place, passed_at_tables, shown_at_tables, table_place_after}
use Rattle.run_check.proofs.BusGoesOn.{line_makes}
use Rattle.run_check.proofs.BusReceipts.{AreAlone, Settles, after_settled, bus_made, by_call, entries_in, lines_make, pend_alone, place_over, seen_alone, seen_entries, settles}
use Rattle.run_check.proofs.TableReceipts.{by_table_call, table_made, entries_in as table_entries_in, lines_make as table_lines_make, place_over as table_place_over, seen_entries as table_seen_entries}

-- Merging. --

-- these receipts are of lines from this place on
abbrev pub AreFrom : ℕ → List Made → Type 0
AreFrom n [] = Unit {0}
AreFrom n (m ∷ ms) = (n ≤ m.place) × AreFrom n ms

from_later : (n : ℕ) (ms : List Made) → AreFrom (n + 1) ms → AreFrom n ms
from_later n [] all = tt
from_later n (m ∷ ms) all = (omega (arith, all.0), from_later n ms all.1)

from_both : (n : ℕ) (xs ys : List Made) → AreFrom n xs → AreFrom n ys → AreFrom n (xs ++ ys)
from_both n [] ys one other = other
from_both n (x ∷ xs) ys one other = (one.0, from_both n xs ys one.1 other)

from_here : (n : ℕ) (receipts : List Receipt) → AreFrom n (made_at n receipts)
from_here n [] = tt
from_here n (r ∷ receipts) = (omega arith, from_here n receipts)

is_before : (a b : ℕ) → a + 1 ≤ b → nat_lt a b ≡ true
is_before a b h = grind (arith, nat_tests)

not_before : (a b : ℕ) → b + 1 ≤ a → nat_lt a b ≡ false
not_before a b h = grind (arith, nat_tests)

merged_nothing : (ms : List Made) → merged ms [] ≡ receipts_in ms
merged_nothing [] = refl
merged_nothing (m ∷ ms) = refl

-- those of a line at the bus come before those of later lines
bus_first : (receipts : List Receipt) (n : ℕ) (ms ts : List Made) → AreFrom (n + 1) ts → merged (made_at n receipts ++ ms) ts ≡ receipts ++ merged ms ts
bus_first [] n ms ts later = refl
bus_first (r ∷ receipts) n ms [] later = ap (λ l. r ∷ l) (sym (merged_nothing (made_at n receipts ++ ms)) ∙ bus_first receipts n ms [] later)
bus_first (r ∷ receipts) n ms (t ∷ ts) later =
    ap (λ (b : Bool). cond {A = List Receipt} b (r ∷ merged (made_at n receipts ++ ms) (t ∷ ts)) (t.receipt ∷ merged_with (record { place = n; receipt = r }) (made_at n receipts ++ ms) (merged (made_at n receipts ++ ms)) ts))
    (is_before n t.place later.0)
    ∙ ap (λ l. r ∷ l) (bus_first receipts n ms (t ∷ ts) later)

receipts_made : (receipts : List Receipt) (n : ℕ) (ts : List Made) → receipts_in (made_at n receipts ++ ts) ≡ receipts ++ receipts_in ts
receipts_made [] n ts = refl
receipts_made (r ∷ receipts) n ts = ap (λ l. r ∷ l) (receipts_made receipts n ts)

-- and those at the tables too
tables_first : (receipts : List Receipt) (n : ℕ) (ms ts : List Made) → AreFrom (n + 1) ms → merged ms (made_at n receipts ++ ts) ≡ receipts ++ merged ms ts
tables_first receipts n [] ts later = receipts_made receipts n ts
tables_first [] n (m ∷ ms) ts later = refl
tables_first (r ∷ receipts) n (m ∷ ms) ts later =
    ap (λ (b : Bool). cond {A = List Receipt} b (m.receipt ∷ merged ms (record { place = n; receipt = r } ∷ (made_at n receipts ++ ts))) (r ∷ merged (m ∷ ms) (made_at n receipts ++ ts)))
    (not_before m.place n later.0)
    ∙ ap (λ l. r ∷ l) (tables_first receipts n (m ∷ ms) ts later)

-- What lines make is of their places. --

settled_from_here : (app n : ℕ) (rest : State → List Seen → List Made) (seen : List Seen) → ((s : State) (others : List Seen) → AreFrom n (rest s others)) → AreFrom n (after_settled app n rest seen)
settled_from_here app n rest [] all = tt
settled_from_here app n rest (last ∷ others) all = from_both n (made_at n (receipts_of app last)) (rest last.after others) (from_here n (receipts_of app last)) (all last.after others)

called_from : (app n : ℕ) (made : Option Call) (next : Call → BusAnswer → State → List Seen → List Made) (same : List Made) (seen : List Seen) →
    ((call : Call) (answer : BusAnswer) (s : State) (others : List Seen) → AreFrom n (next call answer s others)) → AreFrom n same → AreFrom n (by_call app n made next same seen)
called_from app n None next same seen all silent = silent
called_from app n (Some call) next same [] all silent = tt
called_from app n (Some call) next same (own ∷ others) all silent = settled_from_here app n (next call own.entry.answer) (settled_from own.entry.answer own others) (all call own.entry.answer)

bus_from : (app n : ℕ) (registers : Registers) (written : Written) (s : State) (lines : List Line) (seen : List Seen) → AreFrom n (bus_made app n registers written s lines seen)
bus_from app n registers written s [] seen = tt
bus_from app n registers written s (line ∷ lines) seen =
    called_from app n (call_of registers written line)
    (λ call answer t others. bus_made app (n + 1) (registers_after registers line answer) (written_after written call answer) t lines others)
    (made_at n (shown_at_bus app s registers line) ++ bus_made app (n + 1) registers (written_by written registers.buffers line) s lines seen) seen
    (λ call answer t others. from_later n _ (bus_from app (n + 1) (registers_after registers line answer) (written_after written call answer) t lines others))
    (from_both n (made_at n (shown_at_bus app s registers line)) (bus_made app (n + 1) registers (written_by written registers.buffers line) s lines seen)
    (from_here n (shown_at_bus app s registers line)) (from_later n _ (bus_from app (n + 1) registers (written_by written registers.buffers line) s lines seen)))

table_called_from : (app n : ℕ) (made : Option TableCall) (next : TblAnswer → Tables → List TableSeen → List Made) (same : List Made) (seen : List TableSeen) →
    ((answer : TblAnswer) (t : Tables) (others : List TableSeen) → AreFrom n (next answer t others)) → AreFrom n same → AreFrom n (by_table_call app n made next same seen)
table_called_from app n None next same seen all unseen = unseen
table_called_from app n (Some call) next same [] all unseen = tt
table_called_from app n (Some call) next same (own ∷ others) all unseen =
    from_both n (made_at n (table_receipts_of app own)) (next own.entry.answer own.after others) (from_here n (table_receipts_of app own)) (all own.entry.answer own.after others)

tables_from : (app n : ℕ) (handles : List ℕ) (t : Tables) (lines : List Line) (seen : List TableSeen) → AreFrom n (table_made app n handles t lines seen)
tables_from app n handles t [] seen = tt
tables_from app n handles t (line ∷ lines) seen =
    table_called_from app n (table_call_of handles line) (λ answer after others. table_made app (n + 1) (handles_after handles line answer) after lines others)
    (made_at n (shown_at_tables app t handles line) ++ table_made app (n + 1) handles t lines seen) seen
    (λ answer after others. from_later n _ (tables_from app (n + 1) (handles_after handles line answer) after lines others))
    (from_both n (made_at n (shown_at_tables app t handles line)) (table_made app (n + 1) handles t lines seen) (from_here n (shown_at_tables app t handles line))
    (from_later n _ (tables_from app (n + 1) handles t lines seen)))

-- What a line is. --

abbrev is_at_bus : LineCall → Bool
is_at_bus (AtBus made) = true
is_at_bus call = false

abbrev is_at_tables : LineCall → Bool
is_at_tables (AtTables made) = true
is_at_tables call = false

-- a line with a call of the bus shows nothing of the tables
no_table_shown : (app : ℕ) (t : Tables) (handles : List ℕ) (line : Line) → is_at_bus (line_call_of line) ≡ true → shown_at_tables app t handles line ≡ []
unfolding shown_at_tables line_call_of
no_table_shown app t handles (lines.ShowTable handle) is = absurd (true≢false (sym is))
no_table_shown app t handles line is = refl

-- one with a call of the tables shows nothing of the bus, and writes nothing
no_pipe_shown : (app : ℕ) (s : State) (registers : Registers) (line : Line) → is_at_tables (line_call_of line) ≡ true → shown_at_bus app s registers line ≡ []
unfolding shown_at_bus line_call_of
no_pipe_shown app s registers (lines.ShowPipe pipe) is = absurd (true≢false (sym is))
no_pipe_shown app s registers line is = refl

nothing_written : (written : Written) (buffers : List ℕ) (line : Line) → is_at_tables (line_call_of line) ≡ true → written_by written buffers line ≡ written
unfolding written_by line_call_of
nothing_written written buffers (lines.Form buf id fill) is = absurd (true≢false (sym is))
nothing_written written buffers (lines.Put buf offset bytes) is = absurd (true≢false (sym is))
nothing_written written buffers line is = refl

-- and no line shows something of both
shown_by : (app : ℕ) (s : State) (t : Tables) (registers : Registers) (handles : List ℕ) (line : Line) →
    shown app s t registers handles line ≡ shown_at_bus app s registers line ++ shown_at_tables app t handles line
unfolding shown shown_at_bus shown_at_tables
shown_by app s t registers handles (lines.ShowPipe pipe) = refl
shown_by app s t registers handles (lines.ShowTable handle) = refl
shown_by app s t registers handles line = refl

shows_one : (app : ℕ) (s : State) (t : Tables) (registers : Registers) (handles : List ℕ) (line : Line) →
    (shown_at_bus app s registers line ≡ []) ⊎ (shown_at_tables app t handles line ≡ [])
unfolding shown_at_bus shown_at_tables
shows_one app s t registers handles (lines.ShowTable handle) = inl refl
shows_one app s t registers handles line = inr refl

-- its call, by which service it is of
bus_is : (registers : Registers) (written : Written) (line : Line) (k : LineCall) → line_call_of line ≡ k → call_of registers written line ≡ bus_call registers written k
unfolding call_of
bus_is registers written line k is = ap (bus_call registers written) is

table_is : (handles : List ℕ) (line : Line) (k : LineCall) → line_call_of line ≡ k → table_call_of handles line ≡ table_call handles k
unfolding table_call_of
table_is handles line k is = ap (table_call handles) is

-- Line by line. --

-- what a line shows, and what lines behind it make
both_first : (bus tables : List Receipt) (n : ℕ) (ms ts : List Made) → (bus ≡ []) ⊎ (tables ≡ []) → AreFrom (n + 1) ms → AreFrom (n + 1) ts →
    merged (made_at n bus ++ ms) (made_at n tables ++ ts) ≡ (bus ++ tables) ++ merged ms ts
both_first bus tables n ms ts (inl none) behind_bus behind_tables =
    subst (λ (l : List Receipt). merged (made_at n l ++ ms) (made_at n tables ++ ts) ≡ (l ++ tables) ++ merged ms ts) (sym none) (tables_first tables n ms ts behind_bus)
both_first bus tables n ms ts (inr none) behind_bus behind_tables =
    subst (λ (l : List Receipt). merged (made_at n bus ++ ms) (made_at n l ++ ts) ≡ (bus ++ l) ++ merged ms ts) (sym none)
    (bus_first bus n ms ts behind_tables ∙ ap (λ l. l ++ merged ms ts) (sym (append-nil bus)))

module _ (app : ℕ) where
  abbrev telling : Registers → List ℕ → Written → State → Tables → List Seen → List TableSeen → Telling
  telling registers handles written s t seen table_seen =
      record { registers = registers; handles = handles; written = written; state = s; tables = t; seen = seen; table_seen = table_seen }

  -- these lines, and what they told
  abbrev Tells : List Line → Type 0
  Tells lines =
      (n : ℕ) (registers : Registers) (handles : List ℕ) (written : Written) (s : State) (t : Tables) (seen : List Seen) (table_seen : List TableSeen) →
      Trace registers written lines (entries_in seen) → TableTrace handles lines (table_entries_in table_seen) → AreAlone seen →
      told app lines (telling registers handles written s t seen table_seen) ≡ merged (bus_made app n registers written s lines seen) (table_made app n handles t lines table_seen)

  -- what a line tells, and the lines behind it
  abbrev and_behind : List Line → List Receipt × Option Telling → List Receipt
  and_behind lines first = first.0 ++ option_map_or (λ now. told app lines now) first.1 []

  module _ (line : Line) (lines : List Line) (goes : Tells lines) (n : ℕ) (registers : Registers) (handles : List ℕ) (written : Written) (s : State) (t : Tables) where
    -- the receipts of the bus from this line on, by its call, and those of the tables
    abbrev bus_by : List Seen → Option Call → List Made
    bus_by seen made =
        by_call app n made
        (λ call answer after others. bus_made app (n + 1) (registers_after registers line answer) (written_after written call answer) after lines others)
        (made_at n (shown_at_bus app s registers line) ++ bus_made app (n + 1) registers (written_by written registers.buffers line) s lines seen) seen

    abbrev tables_by : List TableSeen → Option TableCall → List Made
    tables_by seen made =
        by_table_call app n made (λ answer after others. table_made app (n + 1) (handles_after handles line answer) after lines others)
        (made_at n (shown_at_tables app t handles line) ++ table_made app (n + 1) handles t lines seen) seen

    abbrev Owed : Option Call → List Entry → Type 0
    Owed made es =
        LineEntries made (λ call answer rest. Trace (registers_after registers line answer) (written_after written call answer) lines rest)
        (λ rest. Trace registers (written_by written registers.buffers line) lines rest) es

    abbrev OwedAtTables : Option TableCall → List TableEntry → Type 0
    OwedAtTables made es = TableLineEntries made (λ answer rest. TableTrace (handles_after handles line answer) lines rest) (λ rest. TableTrace handles lines rest) es

    -- a line with this call of the bus
    of_bus : (call : Call) (seen : List Seen) (table_seen : List TableSeen) → call_of registers written line ≡ Some call → shown_at_tables app t handles line ≡ [] →
        Owed (Some call) (entries_in seen) → OwedAtTables None (table_entries_in table_seen) → AreAlone seen →
        and_behind lines (line_told app line (Some call) (telling registers handles written s t seen table_seen)) ≡ merged (bus_by seen (Some call)) (tables_by table_seen None)
    of_bus call [] table_seen is none owed table_owed alone = absurd owed
    of_bus call (own ∷ others) table_seen is none owed table_owed alone =
        let answer = own.entry.answer in
        let R = registers_after registers line answer in
        let V = written_after written call answer in
        let z : Settles answer own others (Trace R V lines) =
        settles call answer own others (Trace R V lines) (line_makes registers written line call is) (subst (λ (c : Call). pend_alone c answer ≡ true) owed.0 alone.0) alone.1 owed.1 in
        let B = bus_made app (n + 1) R V z.last.after lines z.left in
        let T = table_made app (n + 1) handles t lines table_seen in
        ap (λ (l : List Seen). and_behind lines (settled_told app l (telling R handles V s t (own ∷ others) table_seen))) z.same
        ∙ ap (λ x. receipts_of app z.last ++ x) (goes (n + 1) R handles V z.last.after t z.left table_seen z.rest table_owed z.alone)
        ∙ sym (bus_first (receipts_of app z.last) n B T (tables_from app (n + 1) handles t lines table_seen))
        ∙ sym
        (ap
        (λ (l : List Seen). merged (after_settled app n (λ after more. bus_made app (n + 1) R V after lines more) l) (made_at n (shown_at_tables app t handles line) ++ T)) z.same
        ∙ ap (λ (g : List Receipt). merged (made_at n (receipts_of app z.last) ++ B) (made_at n g ++ T)) none)

    -- one with this call of the tables
    of_tables : (call : TableCall) (seen : List Seen) (table_seen : List TableSeen) → shown_at_bus app s registers line ≡ [] → written_by written registers.buffers line ≡ written →
        Owed None (entries_in seen) → OwedAtTables (Some call) (table_entries_in table_seen) → AreAlone seen → table_call_of handles line ≡ Some call →
        and_behind lines (line_told app line None (telling registers handles written s t seen table_seen)) ≡ merged (bus_by seen None) (tables_by table_seen (Some call))
    of_tables call seen [] none same owed table_owed alone is = absurd table_owed
    of_tables call seen (own ∷ others) none same owed table_owed alone is =
        let H = handles_after handles line own.entry.answer in
        let B = bus_made app (n + 1) registers written s lines seen in
        let T = table_made app (n + 1) H own.after lines others in
        let trace : Trace registers written lines (entries_in seen) = subst (λ (w : Written). Trace registers w lines (entries_in seen)) same owed in
        ap (λ (k : Option TableCall). and_behind lines (other_told app line k (telling registers handles written s t seen (own ∷ others)))) is
        ∙ ap (λ x. table_receipts_of app own ++ x) (goes (n + 1) registers H written s own.after seen others trace table_owed.1 alone)
        ∙ sym (tables_first (table_receipts_of app own) n B T (bus_from app (n + 1) registers written s lines seen))
        ∙ sym
        (ap (λ (g : List Receipt). merged (made_at n g ++ bus_made app (n + 1) registers (written_by written registers.buffers line) s lines seen) (made_at n (table_receipts_of app own) ++ T)) none
        ∙ ap (λ (w : Written). merged (bus_made app (n + 1) registers w s lines seen) (made_at n (table_receipts_of app own) ++ T)) same)

    -- and one with no call
    of_none : (seen : List Seen) (table_seen : List TableSeen) → Owed None (entries_in seen) → OwedAtTables None (table_entries_in table_seen) → AreAlone seen → table_call_of handles line ≡ None →
        and_behind lines (line_told app line None (telling registers handles written s t seen table_seen)) ≡ merged (bus_by seen None) (tables_by table_seen None)
    of_none seen table_seen owed table_owed alone is =
        let V = written_by written registers.buffers line in
        let B = bus_made app (n + 1) registers V s lines seen in
        let T = table_made app (n + 1) handles t lines table_seen in
        let one = shown_at_bus app s registers line in
        let other = shown_at_tables app t handles line in
        ap (λ (k : Option TableCall). and_behind lines (other_told app line k (telling registers handles written s t seen table_seen))) is
        ∙ ap (λ x. shown app s t registers handles line ++ x) (goes (n + 1) registers handles V s t seen table_seen owed table_owed alone)
        ∙ ap (λ x. x ++ merged B T) (shown_by app s t registers handles line)
        ∙ sym
        (both_first one other n B T (shows_one app s t registers handles line) (bus_from app (n + 1) registers V s lines seen) (tables_from app (n + 1) handles t lines table_seen))

  a_line : (line : Line) (lines : List Line) → Tells lines → Tells (line ∷ lines)
  a_line line lines goes n registers handles written s t seen table_seen trace table_trace alone = by (line_call_of line) refl
    where
      at : Telling
      at = telling registers handles written s t seen table_seen

      Due : Option Call → Option TableCall → Type 0
      Due made table_made_call =
          and_behind lines (line_told app line made at)
          ≡ merged (bus_by line lines goes n registers handles written s t seen made) (tables_by line lines goes n registers handles written s t table_seen table_made_call)

      turned : (made : Option Call) (table_call_made : Option TableCall) → call_of registers written line ≡ made → table_call_of handles line ≡ table_call_made → Due made table_call_made →
          Due (call_of registers written line) (table_call_of handles line)
      turned made table_call_made is table_is due =
          subst (λ (m : Option Call). Due m (table_call_of handles line)) (sym is) (subst (λ (k : Option TableCall). Due made k) (sym table_is) due)

      owed : (made : Option Call) → call_of registers written line ≡ made → Owed line lines goes n registers handles written s t made (entries_in seen)
      owed made is = subst (λ (m : Option Call). Owed line lines goes n registers handles written s t m (entries_in seen)) is trace

      table_owed : (made : Option TableCall) → table_call_of handles line ≡ made → OwedAtTables line lines goes n registers handles written s t made (table_entries_in table_seen)
      table_owed made is = subst (λ (m : Option TableCall). OwedAtTables line lines goes n registers handles written s t m (table_entries_in table_seen)) is table_trace

      by : (k : LineCall) → line_call_of line ≡ k → Due (call_of registers written line) (table_call_of handles line)
      by (AtBus made) is =
          let one = bus_is registers written line (AtBus made) is in
          let other = table_is handles line (AtBus made) is in
          turned (Some (made registers written)) None one other
          (of_bus line lines goes n registers handles written s t (made registers written) seen table_seen one (no_table_shown app t handles line (ap is_at_bus is))
          (owed (Some (made registers written)) one) (table_owed None other) alone)
      by (AtTables made) is =
          let one = bus_is registers written line (AtTables made) is in
          let other = table_is handles line (AtTables made) is in
          turned None (Some (made handles)) one other
          (of_tables line lines goes n registers handles written s t (made handles) seen table_seen (no_pipe_shown app s registers line (ap is_at_tables is))
          (nothing_written written registers.buffers line (ap is_at_tables is)) (owed None one) (table_owed (Some (made handles)) other) alone other)
      by NoCall is =
          let one = bus_is registers written line NoCall is in
          let other = table_is handles line NoCall is in
          turned None None one other (of_none line lines goes n registers handles written s t seen table_seen (owed None one) (table_owed None other) alone other)

  pub lines_tell : (lines : List Line) → Tells lines
  lines_tell [] n registers handles written s t seen table_seen trace table_trace alone = refl
  lines_tell (line ∷ lines) n registers handles written s t seen table_seen trace table_trace alone =
      a_line line lines (lines_tell lines) n registers handles written s t seen table_seen trace table_trace alone

pub receipts_are_merged : ReceiptsAreMerged
receipts_are_merged script histories app run one few =
    ap (λ (ms : List Made). merged ms (table_place_after script app histories.tables).receipts) bus_side
    ∙ ap (λ (ts : List Made). merged (bus_made app 0 first_registers first_written s all seen) ts) tables_side
    ∙ sym (lines_tell app all 0 first_registers first_handles first_written s t seen table_seen trace table_trace alone)
  where
    all : List Line
    all = lines_of script app

    apps : ℕ
    apps = length script.apps

    s : State
    s = opening script.limits apps

    t : Tables
    t = no_tables script.limits apps

    seen : List Seen
    seen = seen_from script.limits [] s app histories.bus

    table_seen : List TableSeen
    table_seen = table_seen_from script.limits t app histories.tables

    trace : Trace first_registers first_written all (entries_in seen)
    trace = subst (λ (es : List Entry). Trace first_registers first_written all es) (sym (seen_entries script.limits [] s app histories.bus)) (run.merges.each app one few)

    table_trace : TableTrace first_handles all (table_entries_in table_seen)
    table_trace =
        subst (λ (es : List TableEntry). TableTrace first_handles all es) (sym (table_seen_entries script.limits t app histories.tables)) (run.merges.each_at_tables app one few)

    alone : AreAlone seen
    alone = seen_alone script.limits [] s app histories.bus run.legal

    bus_side : (place_after script app histories.bus).receipts ≡ bus_made app 0 first_registers first_written s all seen
    bus_side =
        ap (λ (p : Place). p.receipts) (place_over script.limits apps app all [] histories.bus (passed app s all first_place) run.legal)
        ∙ lines_make app all all first_place s seen refl trace alone

    tables_side : (table_place_after script app histories.tables).receipts ≡ table_made app 0 first_handles t all table_seen
    tables_side =
        ap (λ (p : TablePlace). p.receipts) (table_place_over script.limits t app all (passed_at_tables app t all first_table_place) histories.tables)
        ∙ table_lines_make app all all first_table_place t table_seen refl table_trace
