use Rattle.std.proofs.Common.{ap, sym, subst, ◌∙◌, ◌<◌, ◌≤◌, arith, refl, length, set, take, Some, IfOk}
use Rattle.std.specs.Vec.{vec_capacity}
use Rattle.es_pool.specs.Pool.{PoolState, fits}
use Rattle.table_blocks.specs.Contents.{is_open, lent, older_in}
use Rattle.table_blocks.specs.Memory.{Takes}
use Rattle.table_blocks.specs.Blocks.{Stored}
use Rattle.table_blocks.specs.Inside.{IsStore}
use Rattle.table_blocks.proofs.Store.{held_taken}
use Rattle.table_blocks.proofs.TableOpenings.{double_of, held_double, store_opened, fits_other, opens}
use Rattle.table_blocks.proofs.blocks.TableBlocks.open_double.Goals as goal

pub unwrap-second-requires : goal.unwrap-second-requires
unwrap-second-requires g c =
    let s = c.self.inside in
    let size = c.args.size in
    let between = c.draw.new.self in
    let first = c.unwrap-first.result in
    let one = subst (λ r. IfOk r (λ b. Takes s.memory between c.args.key size b.0 (length b.1))) c.unwrap-first.ensures c.draw.ensures.taken in
    let two = ap (λ (p : PoolState). fits p size 2) (sym c.pool.ensures) ∙ (sym c.fits.ensures ∙ c.if-not-fits.false) in
    c.draw-2.ensures.given.1 (fits_other s.memory between c.args.key size first.0 (length first.1) one two)

pub invariant_of-self : goal.invariant_of-self
invariant_of-self g c =
    let s = c.self.inside in
    let key = c.args.key in
    let size = c.args.size in
    let old = s.tables.items in
    let between = c.draw.new.self in
    let new = c.draw-2.new.self in
    let first = c.unwrap-first.result in
    let second = c.unwrap-second.result in
    let one = subst (λ r. IfOk r (λ b. Takes s.memory between key size b.0 (length b.1))) c.unwrap-first.ensures c.draw.ensures.taken in
    let other = subst (λ r. IfOk r (λ b. Takes between new key size b.0 (length b.1))) c.unwrap-second.ensures c.draw-2.ensures.taken in
    let loan = c.double-table.result.present.loan in
    let older = lent (older_in c.double-table.result.next).loan (take size second.1) (length second.1) in
    let h : key < length old = omega (arith, c.requires.key, ap (λ (x : Stored). length x.tables) c.self.view_is) in
    let small : size ≤ s.most = omega (arith, c.requires.small, ap (λ (x : Stored). x.most) c.self.view_is) in
    let none = ap (λ (x : Stored). is_open x.tables key) c.self.view_is ∙ c.requires.new in
    subst (λ l. IsStore new s.most l s.work.items (vec_capacity s.work)) (sym (c.put_table.ensures.after ∙ ap (λ x. set old key (Some x)) c.double-table.ensures))
    (store_opened s.memory new s.most key old s.work.items (vec_capacity s.work) (double_of size first.0 second.0 loan (length first.1) older) c.self.invariant h none refl
    (λ i d k. held_taken between new s.most i key size second.0 (length second.1) d other (held_taken s.memory between s.most i key size first.0 (length first.1) d one k))
    (held_double s.memory between new s.most key size first.0 second.0 (length first.1) (length second.1) loan older one other small))

pub returns-clause-opened : goal.returns-clause-opened
returns-clause-opened g c =
    let s = c.self.inside in
    let key = c.args.key in
    let size = c.args.size in
    let old = s.tables.items in
    let between = c.draw.new.self in
    let new = c.draw-2.new.self in
    let first = c.unwrap-first.result in
    let second = c.unwrap-second.result in
    let one = subst (λ r. IfOk r (λ b. Takes s.memory between key size b.0 (length b.1))) c.unwrap-first.ensures c.draw.ensures.taken in
    let other = subst (λ r. IfOk r (λ b. Takes between new key size b.0 (length b.1))) c.unwrap-second.ensures c.draw-2.ensures.taken in
    let loan = c.double-table.result.present.loan in
    let older = lent (older_in c.double-table.result.next).loan (take size second.1) (length second.1) in
    let h : key < length old = omega (arith, c.requires.key, ap (λ (x : Stored). length x.tables) c.self.view_is) in
    opens c.args.self.now s.memory.pool new.pool s.most key size 1 (length s.work.items) old c.put_table.new.tables.items (double_of size first.0 second.0 loan (length first.1) older) c.self.view_is h
    (c.put_table.ensures.after ∙ ap (λ x. set old key (Some x)) c.double-table.ensures)
    (between.pool, (one.drawn, (new.pool, (other.drawn, refl)))) refl refl refl refl refl refl refl
