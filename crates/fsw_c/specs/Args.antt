-- What arguments of C stand for.
use Rattle.std.specs.Prelude.{ℕ, List, map}
use Rattle.std.specs.Option.{unwrap_or}
use Rattle.fsw_base.specs.declared.config.Scope.{Scope}
use Rattle.fsw_base.specs.declared.config.Scope.TheVariants.{Global}
use Rattle.fsw_base.specs.declared.events.EventKind.{EventKind}
use Rattle.fsw_base.specs.declared.events.EventKind.TheVariants.{Debug}
use Rattle.checked_bus.specs.Asked.{scope_of, kind_of}
use Rattle.fsw_c.specs.declared.events.FswFilter.{FswFilter}

-- the scope of a number; if the number is no scope, the call is refused
abbrev pub scope_or_global : ℕ → Scope
scope_or_global number = unwrap_or (scope_of number) Global

-- the kind of event of a number; if the number is no kind, the call is refused
abbrev pub kind_or_debug : ℕ → EventKind
kind_or_debug number = unwrap_or (kind_of number) Debug

-- filters, each an event id and a mask
abbrev pub pairs_in : List FswFilter → List (ℕ × ℕ)
pairs_in filters = map (λ filter. (filter.id, filter.mask)) filters
