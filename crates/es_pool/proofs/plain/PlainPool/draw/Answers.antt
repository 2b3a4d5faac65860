use Rattle.std.proofs.Common.{◌≡◌, ◌+◌, ◌<◌, ◌∙◌, ℕ, max, length, get_or, set, ap, sym, subst, arith}
use Rattle.std.proofs.lemmas.List.{get_or_read, get_or-set_same, length-set}
use Rattle.fsw_base.specs.PoolAccounts.{Account, has_room_for, IsBalanced}
use Rattle.es_pool.specs.Inside.{account_of}
use Rattle.es_pool.proofs.Accounts.{drawn}
use Rattle.es_pool.proofs.plain.PlainPool.draw.Goals as goal

pub overflow_add-index_mut : goal.overflow_add-index_mut
overflow_add-index_mut c =
    let s = c.self.inside in
    let k = c.args.class in
    let h : k < length s.sizes = omega (arith, c.requires.class, ap (λ v. length v.sizes) c.self.view_is) in
    let done = drawn (account_of s) k 0 c.self.invariant h (ap (λ v. has_room_for v k 1) c.self.view_is ∙ c.requires.room) in
    omega (arith, done.few, get_or_read s.out.items k c.index_mut.result.now (omega (arith, h, c.self.invariant.out_all)) c.index_mut.ensures.value 0)

pub invariant_of-self : goal.invariant_of-self
invariant_of-self c =
    let s = c.self.inside in
    let k = c.args.class in
    let h : k < length s.sizes = omega (arith, c.requires.class, ap (λ v. length v.sizes) c.self.view_is) in
    let in_out : k < length s.out.items = omega (arith, h, c.self.invariant.out_all) in
    let in_made : k < length s.made.items = omega (arith, h, c.self.invariant.made_all) in
    let done = drawn (account_of s) k c.saturating_add-self-inside.result c.self.invariant h (ap (λ v. has_room_for v k 1) c.self.view_is ∙ c.requires.room) in
    let was_out : c.index_mut.result.now ≡ get_or s.out.items k 0 = get_or_read s.out.items k c.index_mut.result.now in_out c.index_mut.ensures.value 0 in
    let was_made : c.index.result.now ≡ get_or s.made.items k 0 = get_or_read s.made.items k c.index.result.now in_made c.index.ensures 0 in
    let now_out : c.index-2.result.now ≡ get_or s.out.items k 0 + 1 =
    get_or_read (set s.out.items k (c.index_mut.result.now + 1)) k c.index-2.result.now (omega (arith, in_out, length-set s.out.items k (c.index_mut.result.now + 1))) c.index-2.ensures 0
    ∙ (get_or-set_same s.out.items k (c.index_mut.result.now + 1) 0 in_out ∙ ap (λ n. n + 1) was_out) in
    let top : c.max.result ≡ max (get_or s.made.items k 0) (get_or s.out.items k 0 + 1) = c.max.ensures ∙ (ap (λ n. max n c.index-2.result.now) was_made ∙ ap (λ n. max (get_or s.made.items k 0) n) now_out) in
    let to : ℕ → ℕ → Account = λ made out. record (account_of s) { made = set s.made.items k made; out = set s.out.items k (out + 1); requests = c.saturating_add-self-inside.result } in
    subst (λ made. IsBalanced (to made c.index_mut.result.now)) (sym top)
    (subst (λ out. IsBalanced (to (max (get_or s.made.items k 0) (get_or s.out.items k 0 + 1)) out)) (sym was_out) done.balanced)
