-- The data fields of a part and of a deed, as the machine keeps them: a pointer, and a marker of no bytes. Assumes `Logic`.
use Rattle.std.proofs.Common.{◌≡◌, List, [], ◌∷◌, ◌++◌, refl, ap, ◌∙◌}
use seplogic.Ra.Ura.{Ura}
use mir.Val.{Val, vstruct, vcons, vnil, of_list}
use base.Logic.{ent, emp}
use types.Logic.{Logic, sem}
use denote.Builtin.{u8}
use denote.Copied.{Struct-Copied}
use denote.Laws.{Is}
use denote.Opens.{Opens}
use denote.RattleType.{RattleType}
use denote.RawPtr.{Ptr, ptr_val}
use denote.Ref.{NamedLft, ShrRef}
use denote.Shadow.{makes_shadow}
use denote.Struct.Laws.{RawPtr-copy, field_copy}
use denote.Struct.Owning.{shape}
use denote.Struct.Struct.{Struct}
use Rattle.std.specs.contracts.marker.PhantomData as marker
use Rattle.lend_block.specs.contracts.name.LoanName as name
use Rattle.lend_block.specs.contracts.part.Deed as deed
use Rattle.lend_block.specs.contracts.part.Part as part

-- a struct with no data
abbrev pub no_words : Val
no_words = vstruct vnil

-- a part or a deed at this place
abbrev pub words_at : Ptr → Val
words_at place = vstruct (vcons (ptr_val place) (vcons no_words vnil))

module _ (r : NamedLft) where
  abbrev pub PartWords : RattleType
  PartWords = Struct (shape (part.the_type r))

  pub part_told : (place : Ptr) (vs : List Val) → Is PartWords (place, (tt, tt)) vs → vs ≡ words_at place ∷ []
  part_told place vs is =
      is.1.0
      ∙ ap (λ (ws : List Val). vstruct (of_list (ws ++ (is.0.1.0 ++ []))) ∷ []) is.1.1.0
      ∙ ap (λ (ws : List Val). vstruct (of_list (ptr_val place ∷ (ws ++ []))) ∷ []) is.1.1.1.0.1.0

  pub part_made : {M : Type 1} {𝓤 : Ura M} (𝓛 : Logic 𝓤) (place : Ptr) → ent 𝓤 (emp 𝓤) (sem 𝓛 (PartWords.own_val (place, (tt, tt)) (words_at place ∷ [])))
  part_made 𝓛 place = makes_shadow 𝓛 (PartWords.own_val (place, (tt, tt)) (words_at place ∷ []))
      (λ _. (tt, (tt, ((λ _. (tt, tt)), tt)))) ((ptr_val place ∷ [], (no_words ∷ [], tt)), (refl, (refl, ((tt, (refl, tt)), tt))))

  pub part_opened : {M : Type 1} {𝓤 : Ura M} (𝓛 : Logic 𝓤) → Opens 𝓛 PartWords
  part_opened {M} {𝓤 = 𝓤} 𝓛 = (Struct-Copied 𝓛 (shape (part.the_type r)) (refl, (refl, tt))
      (RawPtr-copy.copied M 𝓤 𝓛, ((field_copy (marker.the_type (ShrRef r.mir r.lft u8)) tt).copied M 𝓤 𝓛, tt))).opens

module _ (r : NamedLft) where
  abbrev pub DeedWords : RattleType
  DeedWords = Struct (shape (deed.the_type r))

  pub deed_told : (place : Ptr) (vs : List Val) → Is DeedWords (place, (tt, tt)) vs → vs ≡ words_at place ∷ []
  deed_told place vs is =
      is.1.0
      ∙ ap (λ (ws : List Val). vstruct (of_list (ws ++ (is.0.1.0 ++ []))) ∷ []) is.1.1.0
      ∙ ap (λ (ws : List Val). vstruct (of_list (ptr_val place ∷ (ws ++ []))) ∷ []) is.1.1.1.0.1.0

  pub deed_made : {M : Type 1} {𝓤 : Ura M} (𝓛 : Logic 𝓤) (place : Ptr) → ent 𝓤 (emp 𝓤) (sem 𝓛 (DeedWords.own_val (place, (tt, tt)) (words_at place ∷ [])))
  deed_made 𝓛 place = makes_shadow 𝓛 (DeedWords.own_val (place, (tt, tt)) (words_at place ∷ []))
      (λ _. (tt, (tt, ((λ _. (tt, tt)), tt)))) ((ptr_val place ∷ [], (no_words ∷ [], tt)), (refl, (refl, ((tt, (refl, tt)), tt))))

abbrev pub NameWords : RattleType
NameWords = Struct (shape name.the_type)

pub name_made : {M : Type 1} {𝓤 : Ura M} (𝓛 : Logic 𝓤) → ent 𝓤 (emp 𝓤) (sem 𝓛 (NameWords.own_val tt (no_words ∷ [])))
name_made 𝓛 = makes_shadow 𝓛 (NameWords.own_val tt (no_words ∷ [])) (λ _. (tt, tt)) (tt, (refl, tt))
