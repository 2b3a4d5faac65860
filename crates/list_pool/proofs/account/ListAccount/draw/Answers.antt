use Rattle.std.proofs.Common.{◌<◌, ◌∙◌, length, ap, arith}
use Rattle.std.proofs.lemmas.List.{get_or_read}
use Rattle.fsw_base.specs.PoolAccounts.{has_room_for}
use Rattle.list_pool.specs.Inside.{account_of}
use Rattle.list_pool.proofs.Costs.{few_drawn}
use Rattle.list_pool.proofs.account.ListAccount.draw.Goals as goal

pub overflow_add-out : goal.overflow_add-out
overflow_add-out c =
    let s = c.self.inside in
    let k = c.args.class in
    let h : k < length s.sizes = omega (arith, c.requires.class, ap (λ v. length v.sizes) c.self.view_is) in
    let room = ap (λ v. has_room_for v k c.args.count) c.self.view_is ∙ c.requires.room in
    omega (arith, few_drawn (account_of s) k c.args.count c.self.invariant.made h room, get_or_read s.out.items k c.index.result.now (omega (arith, h, c.self.invariant.out)) c.index.ensures 0)
