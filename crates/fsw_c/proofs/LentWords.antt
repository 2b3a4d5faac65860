-- The fields of what C has, as the machine keeps them.
use Rattle.std.proofs.Common.{◌≡◌, ℕ, ◌<◌, ◌^◌, List, [], ◌∷◌, ◌++◌, refl, sym, ap, ◌∙◌, true, true≢false, length, w64}
use Rattle.std.specs.Prelude.{Option, Some, None, is_some}
use seplogic.Ra.Ura.{Ura}
use mir.Val.{Val, vstruct, vcons, vnil, of_list, vint}
use base.Logic.{ent, emp, id⊢}
use types.Logic.{Logic, sem}
use types.Kit.{Item, Goal, Seq, ‵, ◌$◌, fsplit, feq_l, flt_l, use1, move}
use denote.Laws.{Is}
use denote.RattleType.{RattleType}
use denote.RawPtr.{Ptr, block_ptr, ptr_val, lies_at, in_a_block}
use denote.RawPtr.Bytes.{bytes, bytes_apart}
use denote.Array.{Array}
use denote.Builtin.{u8}
use base.Fraction.{full_share}
use base.Fml.{fsep, feq}
use denote.Shadow.{makes_shadow}
use denote.Struct.Owning.{shape}
use denote.Struct.Struct.{Struct}
use Rattle.fsw_c.specs.Lent.{maybe_lies}
use Rattle.fsw_c.specs.contracts.lent.LentBlock as lent

-- a place and a length
abbrev pub words_at : Ptr → ℕ → Val
words_at place n = vstruct (vcons (ptr_val place) (vcons (vint w64 n) vnil))

abbrev pub Words : RattleType
Words = Struct (shape lent.the_type)

pub lent_told : (place : Ptr) (n : ℕ) (vs : List Val) → Is Words (place, (n, tt)) vs → vs ≡ words_at place n ∷ []
lent_told place n vs is =
    is.1.0
    ∙ ap (λ (ws : List Val). vstruct (of_list (ws ++ (is.0.1.0 ++ []))) ∷ []) is.1.1.0
    ∙ ap (λ (ws : List Val). vstruct (of_list (ptr_val place ∷ (ws ++ []))) ∷ []) is.1.1.1.0.0

pub lent_made : {M : Type 1} {𝓤 : Ura M} (𝓛 : Logic 𝓤) (place : Ptr) (n : ℕ) → n < 2 ^ 64 → ent 𝓤 (emp 𝓤) (sem 𝓛 (Words.own_val (place, (n, tt)) (words_at place n ∷ [])))
lent_made 𝓛 place n fits = makes_shadow 𝓛 (Words.own_val (place, (n, tt)) (words_at place n ∷ []))
    (λ _. (tt, (tt, ((tt, tt), tt)))) ((ptr_val place ∷ [], (vint w64 n ∷ [], tt)), (refl, (refl, ((refl, fits), tt))))

module _ {M : Type 1} {𝓤 : Ura M} {𝓛 : Logic 𝓤} {K : Type 0} {Γ : List (Item 𝓤)} {G : Goal 𝓤 𝓛.H} where
  -- one with a block owns its memory
  pub lent_out : K → (p : Ptr) (n : ℕ) (o : Option (List ℕ)) → is_some o ≡ true
      → ((b k : ℕ) (bytes' : List ℕ) → o ≡ Some bytes' → p ≡ block_ptr b k → n ≡ length bytes' → n < 2 ^ 63 → Seq K 𝓛 (‵ (bytes full_share bytes' b k) ∷ Γ) G)
      → Seq K 𝓛 (‵ (maybe_lies p n o) ∷ Γ) G
  lent_out t p n None is k = absurd (true≢false (sym is))
  lent_out t p n (Some xs) is k =
      fsplit t $ in_a_block t p (λ at. lies_at (Array u8 n) full_share at xs) (id⊢ 𝓤 _) (λ b o e.
      use1 𝓛 (‵ (fsep (feq ℕ (length xs) n) (bytes full_share xs b o))) (bytes_apart 𝓛 full_share n xs b o) $ fsplit t $ feq_l t (λ same. move t (1 ∷ []) $ flt_l t (λ low. k b o xs refl e (sym same) low)))
