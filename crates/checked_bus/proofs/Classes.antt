-- The figures of a pool's block size are read off its grants.
use Rattle.std.proofs.Common.{◌≡◌, ℕ, ◌-◌, ◌<◌, ◌≤◌, true, false, ltb, cond, length, get_or, Option, Some, None, ap, sym, ◌∙◌, arith}
use Rattle.std.proofs.lemmas.Bool.Decides.{nat_tests}
use Rattle.es_pool.specs.declared.blocks.ClassStats.{ClassStats}
use Rattle.es_pool.specs.Pool.{PoolState, made_in, out_in, free_in}
use Rattle.es_pool.specs.Account.{IsAccountOf}
use Rattle.es_pool.proofs.Totals.{made-split}
use Rattle.fsw_base.specs.Grants.{PoolGrants, out_of, pool_account}
use Rattle.fsw_base.proofs.GrantAccounts.{counts_at}
use Rattle.checked_bus.specs.Classes.{class_figures}

abbrev of_class : ℕ → ℕ → ℕ → ClassStats
of_class size made free = record { size = size; made = made; free = free }

module _ (pool : PoolState) (grants : PoolGrants) (place : ℕ) (is : IsAccountOf pool (pool_account grants)) where
  sizes_same : length grants.sizes ≡ length pool.sizes
  sizes_same = ap length is.sizes

  below : place < length pool.sizes → ltb place (length grants.sizes) ≡ true
  below within = grind (arith, nat_tests)

  above : length pool.sizes ≤ place → ltb place (length grants.sizes) ≡ false
  above past = grind (arith, nat_tests)

  figures : place < length pool.sizes → of_class (get_or pool.sizes place 0) (made_in pool.blocks place) (free_in pool.blocks place)
      ≡ of_class (get_or grants.sizes place 0) (get_or grants.made place 0) (get_or grants.made place 0 - out_of place grants.out)
  figures within =
      let size : get_or pool.sizes place 0 ≡ get_or grants.sizes place 0 = ap (λ s. get_or s place 0) (sym is.sizes) in
      let made : made_in pool.blocks place ≡ get_or grants.made place 0 = sym (is.made place within) in
      let out : out_of place grants.out ≡ out_in pool.blocks place = sym (counts_at grants.sizes grants.out place (omega (arith, within, sizes_same))) ∙ is.out place within in
      let free : free_in pool.blocks place ≡ get_or grants.made place 0 - out_of place grants.out = omega (arith, made, out, made-split pool.blocks place) in
      cc (size, made, free)

  pub class_there : place < length pool.sizes →
      Some (of_class (get_or pool.sizes place 0) (made_in pool.blocks place) (free_in pool.blocks place)) ≡ class_figures grants place
  class_there within =
      ap (λ (it : ClassStats). Some it) (figures within)
      ∙ sym (ap (λ b. cond {A = Option ClassStats} b (Some (of_class (get_or grants.sizes place 0) (get_or grants.made place 0) (get_or grants.made place 0 - out_of place grants.out))) None) (below within))

  pub class_past : length pool.sizes ≤ place → None ≡ class_figures grants place
  class_past past = sym (ap (λ b. cond {A = Option ClassStats} b (Some (of_class (get_or grants.sizes place 0) (get_or grants.made place 0) (get_or grants.made place 0 - out_of place grants.out))) None) (above past))
