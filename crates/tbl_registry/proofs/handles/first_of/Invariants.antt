use Rattle.std.proofs.Common.{◌≡◌, eqb, find, drop}
use Rattle.tbl_registry.proofs.handles.first_of.Given as goal

-- what is left gives what the whole does
abbrev pub invariant-loop-handle : goal.invariant-loop-handle
invariant-loop-handle l = find (λ h. eqb h.app l.app) (drop l.handle-index l.handles) ≡ find (λ h. eqb h.app l.app) l.handles
