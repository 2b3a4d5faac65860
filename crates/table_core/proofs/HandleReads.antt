-- What is read of a handle's table.
use Rattle.std.proofs.Common.{◌≡◌, ℕ, Bool, true, List, Option, Some, ap, sym, ◌∙◌, subst}
use Rattle.std.specs.Prelude.{IsSomeAnd}
use Rattle.std.specs.Option.{option_map}
use Rattle.tbl_words.specs.Tables as state
use Rattle.tbl_registry.specs.declared.rows.Handle.{Handle}
use Rattle.tbl_registry.specs.Listing.{Table, IsTied, handle_at, is_registered}
use Rattle.table_blocks.specs.Contents.{Content, is_staged, staged_in, content_at}
use Rattle.table_core.specs.declared.plain.PlainTables.TheInside.{Inside}
use Rattle.table_core.specs.Core.{Plain}
use Rattle.table_core.specs.Inside.{plain_of, table_with}
use Rattle.table_core.proofs.TableQuestions.{table_by}
use Rattle.table_core.proofs.Figures.{HasContent}
use Rattle.table_core.proofs.Fields.{table_here}
use Rattle.table_core.proofs.Validations.{staged_there}

-- what holds of what is kept for a handle's table holds of the table
pub read_of : (a : Inside) (now : Plain) → plain_of a ≡ now → IsTied a.registry → (n : ℕ) (h : Handle) → handle_at a.registry.handles n ≡ Some h → (has : HasContent a h) →
    (P : state.Table → Type 0) → P (table_by a h has.t) → IsSomeAnd (state.table_of now.state n) P
read_of a now is tied n h found has P here =
    let At : Plain → Type 0 = λ o. IsSomeAnd (state.table_of o.state n) P in
    let Of : Option state.Table → Type 0 = λ o. IsSomeAnd o P in
    let By : ℕ → Type 0 = λ key. P (table_with (is_registered a.registry.handles has.t) has.t (content_at a.blocks.tables key)) in
    subst At is (subst Of (sym (table_here a tied n h found has.t has.there)) (subst By (sym has.known) here))

-- the staged value
pub staged_read : (registered : Bool) (t : Table) (c : Content) (bytes : List ℕ) → is_staged c.next ≡ true → bytes ≡ (staged_in c.next).bytes →
    option_map (λ (staged : state.Staged). staged.value) (table_with registered t c).staged ≡ Some bytes
staged_read registered t c bytes there is = ap (option_map (λ (staged : state.Staged). staged.value)) (staged_there c.next there) ∙ ap (λ (value : List ℕ). Some value) (sym is)
