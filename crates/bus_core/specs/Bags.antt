-- What applications have in their bags of the messages that they received and of the buffers that
-- they haven't sent, by which loans and in which blocks.
use Rattle.std.specs.Prelude.{◌≡◌, ◌≢◌, ℕ, ◌==◌, false, List, find, None}
use Rattle.lend_block.specs.Loan.{LentBytes}
use Rattle.buf_desc.specs.Block.{Unsent}
use Rattle.buf_desc.specs.Held.{Holding, buffer_at}
use Rattle.bus_words.specs.Bus.{owns, has_unsent}
use Rattle.bus_messages.specs.Bag.{HoldsViews, HoldsBuffers, HoldsBuffer, with_lent}
use Rattle.bus_messages.specs.Words.{loan_of, desc_of}
use Rattle.bus_core.specs.Core.{Plain}

-- Bags. --

-- the bag has a view of the last message of each of the application's pipes, and no other view; and
-- the blocks of its unsent buffers, and no others
pub record HasBag (core : Plain) (app : ℕ) (bag : Holding LentBytes) : Type 0 where
  pub views : HoldsViews core.whole.bus.pipes core.loans core.limits.pipes app bag
  pub buffers : HoldsBuffers core.whole.bus.unsent core.descs core.limits.sizes app bag

-- the bag of every application stays one
abbrev pub KeepsBags : Plain → Plain → Type 0
KeepsBags old new = (app : ℕ) (bag : Holding LentBytes) → HasBag old app bag → HasBag new app bag

-- the bag of every other application stays one
abbrev pub KeepsOtherBags : Plain → Plain → ℕ → Type 0
KeepsOtherBags old new app =
    (other : ℕ) (bag : Holding LentBytes) → other ≢ app → HasBag old other bag →
    HasBag new other bag

-- every buffer of a bag but that of this number is what it was
abbrev pub KeepsBuffers : Holding LentBytes → Holding LentBytes → ℕ → Type 0
KeepsBuffers old new number =
    (other : ℕ) → number ≢ other → buffer_at new other ≡ buffer_at old other

-- Bags with blocks lent out. --

-- the bag has the application's views, and no others
abbrev pub HasOwnViews : Plain → ℕ → Holding LentBytes → Type 0
HasOwnViews core app bag =
    HoldsViews core.whole.bus.pipes core.loans core.limits.pipes app bag

-- the bag has the block that is due for this number
abbrev pub HasBuffer : Plain → ℕ → Holding LentBytes → ℕ → Type 0
HasBuffer core app bag number =
    HoldsBuffer core.whole.bus.unsent core.descs core.limits.sizes app bag number

-- the bag is the application's once what is lent out of it is put back
pub record HasBagInPart (core : Plain) (app : ℕ) (bag : Holding LentBytes) : Type 0 where
  pub lent : List Unsent
  pub has : HasBag core app (with_lent bag lent)

-- the bag stays so, whatever is lent out of it
abbrev pub KeepsBag : Plain → Plain → ℕ → Holding LentBytes → Holding LentBytes → Type 0
KeepsBag old new app bag now =
    (lent : List Unsent) → HasBag old app (with_lent bag lent) → HasBag new app (with_lent now lent)

-- the same, if nothing of this number is lent out
abbrev pub KeepsBagBut : Plain → Plain → ℕ → Holding LentBytes → Holding LentBytes → ℕ → Type 0
KeepsBagBut old new app bag now number =
    (lent : List Unsent) → find (λ block. block.number == number) lent ≡ None →
    HasBag old app (with_lent bag lent) → HasBag new app (with_lent now lent)

-- Loans. --

-- the loan of each pipe's last message stays
abbrev pub KeepsAllLoans : Plain → Plain → Type 0
KeepsAllLoans old new = (pipe : ℕ) → loan_of new.loans pipe ≡ loan_of old.loans pipe

-- the loan of every other pipe's last message stays
abbrev pub KeepsLoans : Plain → Plain → ℕ → Type 0
KeepsLoans old new pipe =
    (other : ℕ) → pipe ≢ other → loan_of new.loans other ≡ loan_of old.loans other

-- the loan of the last message of every pipe that isn't the application's stays
abbrev pub KeepsOtherLoans : Plain → Plain → ℕ → Type 0
KeepsOtherLoans old new app =
    (pipe : ℕ) → owns old.whole.bus.pipes app pipe ≡ false →
    loan_of new.loans pipe ≡ loan_of old.loans pipe

-- Descriptors. --

-- the descriptor of each unsent buffer stays
abbrev pub KeepsAllDescs : Plain → Plain → Type 0
KeepsAllDescs old new = (number : ℕ) → desc_of new.descs number ≡ desc_of old.descs number

-- the descriptor of every other unsent buffer stays
abbrev pub KeepsDescs : Plain → Plain → ℕ → Type 0
KeepsDescs old new number =
    (other : ℕ) → number ≢ other → desc_of new.descs other ≡ desc_of old.descs other

-- the descriptor of every unsent buffer that isn't the application's stays
abbrev pub KeepsOtherDescs : Plain → Plain → ℕ → Type 0
KeepsOtherDescs old new app =
    (number : ℕ) → has_unsent old.whole.bus.unsent app number ≡ false →
    desc_of new.descs number ≡ desc_of old.descs number
