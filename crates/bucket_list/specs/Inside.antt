-- What the fields of the lists stand for.
use Rattle.std.specs.Prelude.{◌≡◌, ℕ, ◌<◌, ◌≤◌, ◌^◌, List, [], ◌∷◌, length}
use Rattle.bucket_list.specs.Lists.{times}
use Rattle.bucket_list.specs.Chains.{chain}

-- the chain at each head, as long as its list is
abbrev pub chains : List ℕ → List ℕ → List ℕ → List (List ℕ)
chains links [] counts = []
chains links (first ∷ heads) [] = []
chains links (first ∷ heads) (count ∷ counts) = chain links first count ∷ chains links heads counts

-- each list has a head, each node a link and a number of 32 bits, no node is in two lists or twice
-- in one, and every listed node exists
pub record AreLinked (links heads counts : List ℕ) (nodes : ℕ) : Type 0 where
  pub heads_all : length heads ≡ length counts
  pub links_all : nodes ≡ length links
  pub links_few : length links < 2 ^ 32
  pub once : (node : ℕ) → times (chains links heads counts) node ≤ 1
  pub exist : (node : ℕ) → nodes ≤ node → times (chains links heads counts) node ≡ 0
