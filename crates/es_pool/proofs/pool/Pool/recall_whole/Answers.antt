use Rattle.std.proofs.Common.{◌+◌, length, get_or, arith, subst}
use Rattle.std.proofs.lemmas.Nat.{le-div}
use Rattle.fsw_base.specs.PoolAccounts.{overhead}
use Rattle.es_pool.specs.Pool.{IsWhole}
use Rattle.es_pool.proofs.Totals.{used-ge}
use Rattle.es_pool.proofs.pool.Pool.recall_whole.Goals as goal

pub returns : goal.returns
returns c =
    let s = c.self.inside in
    let k = c.self.invariant.kept in
    let fill = used-ge s.sizes s.blocks.items k.sizes_fit k.classes in
    subst IsWhole c.self.view_is
    (record {
      sizes_fit = k.sizes_fit;
      within = k.within;
      paid = omega (arith, k.adds_up);
      classes = k.classes;
      few = le-div (length s.blocks.items) s.most (get_or s.sizes 0 0 + overhead) (omega arith) (omega (arith, fill, k.adds_up, k.within));
    })
