-- The routes of message ids, as a finite map.
use Rattle.std.specs.Prelude.{ℕ, refl}
use Rattle.std.specs.Ordering.{nat_cmp}
use Rattle.std.specs.FinMap as map
use Rattle.std.specs.Coded.{Coded, code_by, coded×, coded_ℕ}

-- the route of each id that has one, how many ids have one, and how many ids more there is room for
pub record IdRoutes : Type 0 where
  pub routes : map.FinMap nat_cmp ℕ
  pub count : ℕ
  pub room : ℕ

-- stored as its fields
abbrev pub routes_code : Coded IdRoutes
routes_code =
    code_by (map.FinMap nat_cmp ℕ × (ℕ × ℕ))
    (coded× (map.code coded_ℕ coded_ℕ) (coded× coded_ℕ coded_ℕ))
    (λ r. (r.routes, (r.count, r.room)))
    (λ p. record { routes = p.0; count = p.1.0; room = p.1.1 }) (λ _. refl)
