-- Two pipes whose last messages are of one send.
use Rattle.std.proofs.Common.{◌≡◌, ℕ, List, Option, Some, None, ap, sym, ◌∙◌, subst}
use Rattle.std.specs.Option.{IfSome, option_map, option_map_or}
use Rattle.buf_desc.specs.Slots.{slot_at, sealed_at, HaveOwnNumbers}
use Rattle.buf_desc.specs.declared.slot.Slot.{Slot}
use Rattle.bus_words.specs.Bus.{Item}
use Rattle.bus_routes.specs.declared.tables.ItemRow.{ItemRow}
use Rattle.bus_words.specs.Pipes.{last_on}
use Rattle.bus_messages.specs.Store.{Store}
use Rattle.bus_messages.specs.Words.{loan_of}
use Rattle.bus_messages.specs.Inside.{store_of, Keeps, item_in, loan_at, IsNamed}
use Rattle.bus_messages.specs.declared.store.BusStore.TheInside.{Inside}
use Rattle.bus_messages.proofs.Bags.{loan-rows}
use Rattle.bus_messages.proofs.Items.{last_found}
use Rattle.bus_words.proofs.PipeItems.{last_on-map}
use Rattle.bus_messages.proofs.Ties.{sealed_live, sealed_number}

module _ (slots : List Slot) (numbers : HaveOwnNumbers slots) where
  -- they lie in one block
  pub one_block : (x y : ItemRow) → IsNamed slots x → IsNamed slots y → x.number ≡ y.number → x.desc ≡ y.desc
  one_block x y is also same =
      numbers x.desc y.desc (sealed_live (slot_at slots x.desc) is.sealed) (sealed_live (slot_at slots y.desc) also.sealed)
      (sealed_number (slot_at slots x.desc) is.sealed ∙ is.number ∙ same ∙ sym (sealed_number (slot_at slots y.desc) also.sealed ∙ also.number))

  one_loan : (x y : Option ItemRow) (item its : Item) → IfSome x (IsNamed slots) → IfSome y (IsNamed slots) →
      option_map (item_in slots) x ≡ Some item → option_map (item_in slots) y ≡ Some its → item.number ≡ its.number → loan_at slots x ≡ loan_at slots y
  one_loan None y item its is also e f same = absurd (cc (e))
  one_loan (Some x) None item its is also e f same = absurd (cc (f))
  one_loan (Some x) (Some y) item its is also e f same =
      ap (λ d. (sealed_at slots d).loan) (one_block x y is also (number_of (item_in slots x) item e ∙ same ∙ sym (number_of (item_in slots y) its f)))
    where
      number_of : (a b : Item) → Some a ≡ Some b → a.number ≡ b.number
      number_of a b g = ap (λ o. option_map_or {U = ℕ} (λ (i : Item). i.number) o 0) g

module _ (a : Inside) (keeps : Keeps a) where
  abbrev named : (number : ℕ) → IfSome (last_on a.tables.pipes number) (IsNamed a.desk.slots)
  named number = last_found (IsNamed a.desk.slots) a.tables.pipes number keeps.backed.tied.items

  last_is : (number : ℕ) (item : Item) → last_on (store_of a).pipes number ≡ Some item → option_map (item_in a.desk.slots) (last_on a.tables.pipes number) ≡ Some item
  last_is number item e = sym (last_on-map (item_in a.desk.slots) a.tables.pipes number) ∙ e

  loans_agree : (pipe other : ℕ) (item its : Item) → last_on (store_of a).pipes pipe ≡ Some item → last_on (store_of a).pipes other ≡ Some its → item.number ≡ its.number → loan_of (store_of a).loans pipe ≡ loan_of (store_of a).loans other
  loans_agree pipe other item its e f same =
      loan-rows a.desk.slots a.tables.pipes pipe
      ∙ one_loan a.desk.slots keeps.backed.tied.numbers (last_on a.tables.pipes pipe) (last_on a.tables.pipes other) item its (named pipe) (named other)
      (last_is pipe item e) (last_is other its f) same
      ∙ sym (loan-rows a.desk.slots a.tables.pipes other)

  pub loans_told : (o : Store) → store_of a ≡ o → (pipe other : ℕ) (item its : Item) → last_on o.pipes pipe ≡ Some item → last_on o.pipes other ≡ Some its → item.number ≡ its.number → loan_of o.loans pipe ≡ loan_of o.loans other
  loans_told o viewed =
      subst (λ (x : Store). (pipe other : ℕ) (item its : Item) → last_on x.pipes pipe ≡ Some item → last_on x.pipes other ≡ Some its → item.number ≡ its.number → loan_of x.loans pipe ≡ loan_of x.loans other) viewed loans_agree
