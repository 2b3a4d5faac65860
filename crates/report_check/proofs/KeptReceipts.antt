-- The receipts that are read off both services are those of an application.
use Rattle.std.proofs.Common.{◌≡◌, ℕ, zero, suc, ◌-◌, ◌<◌, ◌≤◌, List, [], ◌∷◌, length, IfSome, ap, ◌∙◌, arith}
use Rattle.std.specs.Prelude.{slice_get}
use Rattle.std.specs.Option.{option_map_or}
use Rattle.run_check.specs.Merged.{merged}
use Rattle.run_check.specs.Places.{Made}
use Rattle.run_check.specs.TablePlaces.{TablePlace}
use Rattle.bus_replay.specs.Places.{Kept}
use Rattle.report_check.specs.Tails.{made_of_bus, receipts_kept}

-- what is read at a place that is there
made_here : {A : Type 0} (receipts : A → List Made) (places : List A) (i : ℕ) (made : List Made) → i < length places →
    IfSome (slice_get places i) (λ p. made ≡ receipts p) → made ≡ option_map_or receipts (slice_get places i) []
made_here receipts [] i made inside there = absurd (omega (arith, inside))
made_here receipts (p ∷ ps) zero made inside there = there
made_here receipts (p ∷ ps) (suc i) made inside there = made_here receipts ps i made (omega (arith, inside)) there

pub kept_are_merged : (places : List Kept) (table_places : List TablePlace) (app number : ℕ) (bus tables : List Made) → app ≡ number → 1 ≤ number →
    number ≤ length places → number ≤ length table_places →
    IfSome (slice_get places (app - 1)) (λ (p : Kept). bus ≡ p.receipts) → IfSome (slice_get table_places (app - 1)) (λ (p : TablePlace). tables ≡ p.receipts) →
    merged bus tables ≡ receipts_kept places table_places number
kept_are_merged places table_places app number bus tables same first few few_tables of_bus of_tables =
    ap (λ m. merged m tables) (made_here (λ (p : Kept). p.receipts) places (app - 1) bus (omega (arith, same, first, few)) of_bus)
    ∙ ap (λ m. merged (made_of_bus places app) m) (made_here (λ (p : TablePlace). p.receipts) table_places (app - 1) tables (omega (arith, same, first, few_tables)) of_tables)
    ∙ ap (receipts_kept places table_places) same
