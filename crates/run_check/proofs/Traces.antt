-- The entries that an application's lines make: after the first ones there is one next call, and none after them all.
use Rattle.std.proofs.Common.{◌≡◌, List, [], ◌∷◌, ◌++◌, Option, Some, None, sym, ◌∙◌}
use Rattle.bus_words.specs.declared.calls.BusAnswer.{BusAnswer}
use Rattle.bus_words.specs.declared.calls.BusAnswer.TheVariants.{Pending}
use Rattle.bus_words.specs.declared.history.Call.{Call}
use Rattle.bus_words.specs.declared.history.Call.TheVariants as calls
use Rattle.bus_words.specs.declared.history.Entry.{Entry}
use Rattle.script_lines.specs.declared.line.Line.{Line}
use Rattle.script_runs.specs.Trace.{Registers, call_of, registers_after, AfterAnswer, LineEntries, IsEnd, Trace}
use Rattle.script_runs.specs.Written.{Written, written_after, written_by}

-- One next call. --

end_next : (p : List Entry) (e f : Entry) (r s : List Entry) → IsEnd (p ++ e ∷ r) → IsEnd (p ++ f ∷ s) → e.call ≡ f.call
end_next [] e f [] [] one other = one ∙ sym other
end_next [] e f [] (x ∷ s) one other = absurd other
end_next [] e f (x ∷ r) s one other = absurd one
end_next (x ∷ []) e f r s one other = absurd one
end_next (x ∷ y ∷ p) e f r s one other = absurd one

answer_next : (call : Call) (answer : BusAnswer) (Rest : List Entry → Type 0) (p : List Entry) (e f : Entry) (r s : List Entry) →
    ((q : List Entry) → Rest (q ++ e ∷ r) → Rest (q ++ f ∷ s) → e.call ≡ f.call) →
    AfterAnswer call answer Rest (p ++ e ∷ r) → AfterAnswer call answer Rest (p ++ f ∷ s) → e.call ≡ f.call
answer_next (calls.Pend pipe) Pending Rest [] e f r s next one other = one.0 ∙ sym other.0
answer_next (calls.Pend pipe) Pending Rest (x ∷ p) e f r s next one other = next p one.1 other.1
answer_next (calls.Pend pipe) answer Rest p e f r s next one other = next p one other
answer_next call answer Rest p e f r s next one other = next p one other

line_next : (made : Option Call) (Next : Call → BusAnswer → List Entry → Type 0) (Same : List Entry → Type 0) (p : List Entry) (e f : Entry) (r s : List Entry) →
    ((call : Call) (answer : BusAnswer) (q : List Entry) → Next call answer (q ++ e ∷ r) → Next call answer (q ++ f ∷ s) → e.call ≡ f.call) →
    (Same (p ++ e ∷ r) → Same (p ++ f ∷ s) → e.call ≡ f.call) →
    LineEntries made Next Same (p ++ e ∷ r) → LineEntries made Next Same (p ++ f ∷ s) → e.call ≡ f.call
line_next None Next Same p e f r s next same one other = same one other
line_next (Some call) Next Same [] e f r s next same one other = one.0 ∙ sym other.0
line_next (Some call) Next Same (x ∷ p) e f r s next same one other =
    answer_next call x.answer (Next call x.answer) p e f r s (next call x.answer) one.1 other.1

pub trace_next : (registers : Registers) (written : Written) (lines : List Line) (p : List Entry) (e f : Entry) (r s : List Entry) →
    Trace registers written lines (p ++ e ∷ r) → Trace registers written lines (p ++ f ∷ s) → e.call ≡ f.call
trace_next registers written [] p e f r s one other = end_next p e f r s one other
trace_next registers written (line ∷ lines) p e f r s one other =
    line_next (call_of registers written line)
    (λ call answer rest. Trace (registers_after registers line answer) (written_after written call answer) lines rest)
    (λ rest. Trace registers (written_by written registers.buffers line) lines rest) p e f r s
    (λ call answer q. trace_next (registers_after registers line answer) (written_after written call answer) lines q e f r s)
    (λ first second. trace_next registers (written_by written registers.buffers line) lines p e f r s first second) one other

-- None behind them all. --

end_last : (p : List Entry) (e : Entry) (r : List Entry) → IsEnd p → IsEnd (p ++ e ∷ r) → ⊥
end_last [] e r all more = all
end_last (x ∷ []) e r all more = more
end_last (x ∷ y ∷ p) e r all more = all

answer_last : (call : Call) (answer : BusAnswer) (Rest : List Entry → Type 0) (p : List Entry) (e : Entry) (r : List Entry) →
    ((q : List Entry) → Rest q → Rest (q ++ e ∷ r) → ⊥) → AfterAnswer call answer Rest p → AfterAnswer call answer Rest (p ++ e ∷ r) → ⊥
answer_last (calls.Pend pipe) Pending Rest [] e r last all more = all
answer_last (calls.Pend pipe) Pending Rest (x ∷ p) e r last all more = last p all.1 more.1
answer_last (calls.Pend pipe) answer Rest p e r last all more = last p all more
answer_last call answer Rest p e r last all more = last p all more

line_last : (made : Option Call) (Next : Call → BusAnswer → List Entry → Type 0) (Same : List Entry → Type 0) (p : List Entry) (e : Entry) (r : List Entry) →
    ((call : Call) (answer : BusAnswer) (q : List Entry) → Next call answer q → Next call answer (q ++ e ∷ r) → ⊥) →
    (Same p → Same (p ++ e ∷ r) → ⊥) → LineEntries made Next Same p → LineEntries made Next Same (p ++ e ∷ r) → ⊥
line_last None Next Same p e r last same all more = same all more
line_last (Some call) Next Same [] e r last same all more = all
line_last (Some call) Next Same (x ∷ p) e r last same all more =
    answer_last call x.answer (Next call x.answer) p e r (last call x.answer) all.1 more.1

pub trace_last : (registers : Registers) (written : Written) (lines : List Line) (p : List Entry) (e : Entry) (r : List Entry) →
    Trace registers written lines p → Trace registers written lines (p ++ e ∷ r) → ⊥
trace_last registers written [] p e r all more = end_last p e r all more
trace_last registers written (line ∷ lines) p e r all more =
    line_last (call_of registers written line)
    (λ call answer rest. Trace (registers_after registers line answer) (written_after written call answer) lines rest)
    (λ rest. Trace registers (written_by written registers.buffers line) lines rest) p e r
    (λ call answer q. trace_last (registers_after registers line answer) (written_after written call answer) lines q e r)
    (λ first second. trace_last registers (written_by written registers.buffers line) lines p e r first second) all more
