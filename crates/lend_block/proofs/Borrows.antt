-- A block that is borrowed for r, lent once more for the time of a loan, may be read for as long as both last. Assumes `Logic`.
use Rattle.std.proofs.Common.{◌≡◌, ℕ, zero, suc, ◌+◌, List, [], ◌∷◌, ◌++◌, refl, sym, ap, length, take, w8}
use lib.ListN.{length-map}
use seplogic.Ra.Ura.{Ura}
use base.Fml.{Lft, Fml, Incl, ftrue, fsep, fobs, fbor}
use base.Fraction.{full_share}
use base.Logic.{ent, sep, emp, id⊢, mono_r}
use contract.BorrowLft.{meet_⊑_left, meet_⊑_right, ⊑_meet}
use contract.Conj.{top}
use denote.Builtin.{u8}
use denote.Copied.{uint_Copied}
use denote.Memory.{mem, shares, part_at, shared_of}
use denote.Plain.{uint_row_laws}
use denote.RawPtr.{Ptr, block_ptr, block_of, count_of}
use denote.Ref.{MutBor}
use denote.Shares.{Shares, bor-Cut, peels, shares_each}
use denote.Sharing.{ShrLaws}
use denote.SharingLaws.{within_shr_laws}
use denote.Slice.{elements_shared, elements_shr_laws, mut_slice_at, mut_slice_vals, heres}
use denote.Struct.Lending.{Lends}
use ghost.Rules.{span}
use types.Hole.{Holey, here, heres_in, heres_out}
use types.Kit.{‵, raw, ◌⊛◌, later, ◌$◌, ◌∵◌, !, qed, move, drop, use0, use1, use2, split, fsplit, fjoin, feq_i, rewrite, await, updating, now, done}
use types.Logic.{Logic, sem, lfts}
use types.SemTy.{Body, Arr, cells}
use types.Share.{parts}
use Rattle.lend_block.specs.Inside.{readable, borrow_owns}

pub readable_laws : (r : Lft) (place : Ptr) (bytes : List ℕ) → ShrLaws (readable r place bytes)
readable_laws r place bytes =
    let b = block_of place in let o = count_of place in
    within_shr_laws r (elements_shared u8 bytes b o) (elements_shr_laws u8 (uint_row_laws w8) bytes b o)

module _ {M : Type 1} {𝓤 : Ura M} (𝓛 : Logic 𝓤) where
  open 𝓛 use {H}

  byte_shares : (r : Lft) → Shares 𝓛 u8 r
  byte_shares r x κ ts b o within_both alive = (uint_Copied 𝓛 w8).shares full_share r x κ ts b o within_both alive

  -- bytes with their full share are the cells of an array
  whole_cells : (bytes : List ℕ) (b o : ℕ) → parts (mem u8) (shares u8) full_share bytes b o ≡ cells (mem u8) bytes b o
  whole_cells [] b o = refl
  whole_cells (x ∷ xs) b o = ap (fsep (part_at u8 full_share x b o)) (whole_cells xs b (o + (mem u8).size))

  module _ (r : Lft) (block : MutBor (List ℕ)) where
    abbrev count : ℕ
    count = length block.now

    abbrev b : ℕ
    b = block.ref_ptr.0

    abbrev o : ℕ
    o = block.ref_ptr.1

    -- how the borrow is spelled, the two things that it owns, what its inner borrow lends, and the bytes in that
    abbrev spelled : Fml
    spelled = mut_slice_at u8 block (mut_slice_vals block)

    abbrev held : Fml
    held = fsep (fobs block.ghost_name ((Arr (Holey (mem u8)) count).coded.code (heres u8 block.now))) (fbor r (Body (Arr (Holey (mem u8)) count) b o block.ghost_name))

    abbrev lent : Fml
    lent = (Arr (Holey (mem u8)) count).own_at (heres u8 block.now) b o

    abbrev bytes_there : Fml
    bytes_there = parts (mem u8) (shares u8) full_share block.now b o

    joins_borrow : ent 𝓤 (sep 𝓤 (sem 𝓛 spelled) (sep 𝓤 (sem 𝓛 held) (emp 𝓤))) (sem 𝓛 (borrow_owns r block))
    joins_borrow = qed 𝓛 (‵ spelled ∷ ‵ held ∷ raw (emp 𝓤) ∷ []) ∵ move ! (2 ∷ []) $ drop ! $ fjoin ! $ done !

    parts_borrow : ent 𝓤 (sem 𝓛 (borrow_owns r block)) (sep 𝓤 (sem 𝓛 spelled) (sep 𝓤 (sem 𝓛 held) (emp 𝓤)))
    parts_borrow = qed 𝓛 (‵ (borrow_owns r block) ∷ []) ∵ fsplit ! $ use0 𝓛 (raw (emp 𝓤)) (id⊢ 𝓤 (emp 𝓤)) $ move ! (1 ∷ 2 ∷ 0 ∷ []) $ done !

    bytes_in : ent 𝓤 (sep 𝓤 (sem 𝓛 bytes_there) (sep 𝓤 (sem 𝓛 ftrue) (emp 𝓤))) (sem 𝓛 lent)
    bytes_in = qed 𝓛 (‵ bytes_there ∷ ‵ ftrue ∷ raw (emp 𝓤) ∷ []) ∵ move ! (1 ∷ 2 ∷ []) $ drop ! $ drop ! $
        rewrite ! 0 (λ (F : Fml). ‵ F) (whole_cells block.now b o) refl $
        use1 𝓛 (‵ (cells (Holey (mem u8)) (heres u8 block.now) b o)) (heres_in 𝓛 (mem u8) block.now b o) $
        feq_i ! ℕ (length (heres u8 block.now)) count (length-map block.now (here (mem u8))) $ fjoin ! $ done !

    bytes_out : ent 𝓤 (sem 𝓛 lent) (sep 𝓤 (sem 𝓛 bytes_there) (sep 𝓤 (emp 𝓤) (emp 𝓤)))
    bytes_out = qed 𝓛 (‵ lent ∷ []) ∵ fsplit ! $ drop ! $ use1 𝓛 (‵ (cells (mem u8) block.now b o)) (heres_out 𝓛 (mem u8) block.now b o) $
        rewrite ! 0 (λ (F : Fml). ‵ F) (sym (whole_cells block.now b o)) refl $
        use0 𝓛 (raw (emp 𝓤)) (id⊢ 𝓤 (emp 𝓤)) $ use0 𝓛 (raw (emp 𝓤)) (id⊢ 𝓤 (emp 𝓤)) $ move ! (2 ∷ 0 ∷ 1 ∷ []) $ done !

    -- the borrow lent for κ, opened down to its bytes, which are then shared for κ and r
    pub Lends-borrow : Lends 𝓛 (borrow_owns r block) (readable r (block_ptr b o) block.now) r
    Lends-borrow κ ts within_r alive =
        let both : Lft = κ ++ r in
        let within_both : Incl (span ts) both = ⊑_meet (span ts) κ r alive within_r in
        qed 𝓛 (‵ (fbor κ (borrow_owns r block)) ∷ raw (lfts 𝓛 ts) ∷ []) {P = H.⇛ (sep 𝓤 (sem 𝓛 (readable r (block_ptr b o) block.now κ)) (lfts 𝓛 ts))} (
        updating !
        $ use2 𝓛 (later (‵ (fbor κ spelled) ⊛ (‵ (fbor κ held) ⊛ raw (lfts 𝓛 ts)))) (bor-Cut 𝓛 κ ts alive (borrow_owns r block) spelled held (emp 𝓤) joins_borrow parts_borrow)
        $ await ! tt $ split ! $ drop ! $ split !
        $ use1 𝓛 (‵ (fbor both held)) (𝓛.bors.bor_shorten κ both held (meet_⊑_left κ r))
        $ use2 𝓛 (later (‵ (fbor both lent) ⊛ raw (lfts 𝓛 ts)))
        (peels 𝓛 (Arr (Holey (mem u8)) count) both r ts within_both block.ghost_name (heres u8 block.now) b o (meet_⊑_right κ r))
        $ await ! tt
        $ use1 𝓛 (later (‵ (fbor both bytes_there) ⊛ (‵ (fbor both ftrue) ⊛ raw (lfts 𝓛 ts)))) (bor-Cut 𝓛 both ts within_both lent bytes_there ftrue (emp 𝓤) bytes_in bytes_out)
        $ await ! tt $ split ! $ move ! (1 ∷ []) $ split ! $ drop ! $ move ! (1 ∷ 0 ∷ [])
        $ use2 𝓛 (later (‵ (elements_shared u8 block.now b o both) ⊛ raw (lfts 𝓛 ts))) (shares_each 𝓛 u8 (shared_of u8) r (byte_shares r) block.now both ts b o within_r within_both)
        $ await ! tt $ split ! $ now ! $ done !)

-- a front of bytes that may be read may be read
module _ {M : Type 1} {𝓤 : Ura M} (𝓛 : Logic 𝓤) (b : ℕ) (κ : Lft) where
  pub front_shared : (len : ℕ) (bytes : List ℕ) (o : ℕ) → ent 𝓤 (sem 𝓛 (elements_shared u8 bytes b o κ)) (sem 𝓛 (elements_shared u8 (take len bytes) b o κ))
  front_shared zero bytes o = top 𝓤 _
  front_shared (suc len) [] o = top 𝓤 _
  front_shared (suc len) (x ∷ xs) o = mono_r 𝓤 (sem 𝓛 (shared_of u8 x b o κ)) (front_shared len xs (o + 1))
