-- Lists of numbered nodes, as their user sees them.
use Rattle.std.specs.Prelude.{◌≡◌, ◌==◌, ◌≤◌, ℕ, List, [], slice_index_or, sum_by, count_by}

-- how many nodes there is room for, how many there are, and the node numbers of each list, front
-- first
pub record Listed : Type 0 where
  pub room : ℕ
  pub nodes : ℕ
  pub lists : List (List ℕ)

-- a row of links that gets its places one after another: how many there is room for, and the
-- numbers at its places
pub record NodeRow : Type 0 where
  pub room : ℕ
  pub links : List ℕ

-- the nodes of one list
abbrev pub listed_at : Listed → ℕ → List ℕ
listed_at s list = slice_index_or s.lists list []

-- how often a node stands in one list
abbrev pub times_in : List ℕ → ℕ → ℕ
times_in nodes node = count_by (λ n. n == node) nodes

-- how often a node stands in the lists together
abbrev pub times : List (List ℕ) → ℕ → ℕ
times lists node = sum_by (λ nodes. times_in nodes node) lists

-- a node is in no list
abbrev pub IsLoose : Listed → ℕ → Type 0
IsLoose s node = times s.lists node ≡ 0

-- No node is in two lists or twice in one, and each that is in a list exists.
pub record AreApart (s : Listed) : Type 0 where
  pub once : (node : ℕ) → times s.lists node ≤ 1
  pub exist : (node : ℕ) → s.nodes ≤ node → IsLoose s node
