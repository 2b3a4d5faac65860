-- The entries of the tables that an application's lines make: after the first ones there is one next call, and none after them all.
use Rattle.std.proofs.Common.{◌≡◌, ℕ, List, [], ◌∷◌, ◌++◌, Option, Some, None, sym, ◌∙◌}
use Rattle.tbl_words.specs.declared.calls.TblAnswer.{TblAnswer}
use Rattle.tbl_words.specs.declared.history.Call.{Call}
use Rattle.tbl_words.specs.declared.history.Entry.{Entry}
use Rattle.script_lines.specs.declared.line.Line.{Line}
use Rattle.script_runs.specs.TableTrace.{table_call_of, handles_after, TableLineEntries, IsTableEnd, TableTrace}

-- One next call. --

end_next : (p : List Entry) (e f : Entry) (r s : List Entry) → IsTableEnd (p ++ e ∷ r) → IsTableEnd (p ++ f ∷ s) → e.call ≡ f.call
end_next [] e f [] [] one other = one ∙ sym other
end_next [] e f [] (x ∷ s) one other = absurd other
end_next [] e f (x ∷ r) s one other = absurd one
end_next (x ∷ []) e f r s one other = absurd one
end_next (x ∷ y ∷ p) e f r s one other = absurd one

line_next : (made : Option Call) (Next : TblAnswer → List Entry → Type 0) (Same : List Entry → Type 0) (p : List Entry) (e f : Entry) (r s : List Entry) →
    ((answer : TblAnswer) (q : List Entry) → Next answer (q ++ e ∷ r) → Next answer (q ++ f ∷ s) → e.call ≡ f.call) →
    (Same (p ++ e ∷ r) → Same (p ++ f ∷ s) → e.call ≡ f.call) →
    TableLineEntries made Next Same (p ++ e ∷ r) → TableLineEntries made Next Same (p ++ f ∷ s) → e.call ≡ f.call
line_next None Next Same p e f r s next same one other = same one other
line_next (Some call) Next Same [] e f r s next same one other = one.0 ∙ sym other.0
line_next (Some call) Next Same (x ∷ p) e f r s next same one other = next x.answer p one.1 other.1

pub table_trace_next : (handles : List ℕ) (lines : List Line) (p : List Entry) (e f : Entry) (r s : List Entry) →
    TableTrace handles lines (p ++ e ∷ r) → TableTrace handles lines (p ++ f ∷ s) → e.call ≡ f.call
table_trace_next handles [] p e f r s one other = end_next p e f r s one other
table_trace_next handles (line ∷ lines) p e f r s one other =
    line_next (table_call_of handles line) (λ answer rest. TableTrace (handles_after handles line answer) lines rest)
    (λ rest. TableTrace handles lines rest) p e f r s
    (λ answer q. table_trace_next (handles_after handles line answer) lines q e f r s)
    (λ first second. table_trace_next handles lines p e f r s first second) one other

-- None behind them all. --

end_last : (p : List Entry) (e : Entry) (r : List Entry) → IsTableEnd p → IsTableEnd (p ++ e ∷ r) → ⊥
end_last [] e r all more = all
end_last (x ∷ []) e r all more = more
end_last (x ∷ y ∷ p) e r all more = all

line_last : (made : Option Call) (Next : TblAnswer → List Entry → Type 0) (Same : List Entry → Type 0) (p : List Entry) (e : Entry) (r : List Entry) →
    ((answer : TblAnswer) (q : List Entry) → Next answer q → Next answer (q ++ e ∷ r) → ⊥) →
    (Same p → Same (p ++ e ∷ r) → ⊥) → TableLineEntries made Next Same p → TableLineEntries made Next Same (p ++ e ∷ r) → ⊥
line_last None Next Same p e r last same all more = same all more
line_last (Some call) Next Same [] e r last same all more = all
line_last (Some call) Next Same (x ∷ p) e r last same all more = last x.answer p all.1 more.1

pub table_trace_last : (handles : List ℕ) (lines : List Line) (p : List Entry) (e : Entry) (r : List Entry) →
    TableTrace handles lines p → TableTrace handles lines (p ++ e ∷ r) → ⊥
table_trace_last handles [] p e r all more = end_last p e r all more
table_trace_last handles (line ∷ lines) p e r all more =
    line_last (table_call_of handles line) (λ answer rest. TableTrace (handles_after handles line answer) lines rest)
    (λ rest. TableTrace handles lines rest) p e r
    (λ answer q. table_trace_last (handles_after handles line answer) lines q e r)
    (λ first second. table_trace_last handles lines p e r first second) all more
