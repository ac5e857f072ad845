-- The rules by their pairs of types: a step between the code and what the rules forbid.
use Rattle.std.specs.Prelude.{ℕ, ◌+◌, ◌*◌, ◌%◌, ◌<◌, ◌≤◌, min, max, List, ◌≡◌, length, get_or, set}
use Rattle.rules.specs.Words.{rule_at}
use Rattle.edges.specs.declared.cells.Chains.{Chains}

-- the cell of a pair of types, whichever comes first
unfoldable pub cell : ℕ → ℕ → ℕ
cell a b = (16 * min a b + max a b) % 256

-- the cell of rule i
abbrev pub cell_at : List ℕ → ℕ → ℕ
cell_at ws i = cell (rule_at ws i).type1 (rule_at ws i).type2

-- r is the first of cell k among the rules from `from` up to n, or n or more where there is none
pub record NextOf (ws : List ℕ) (n k from r : ℕ) : Type 0 where
  pub low : from ≤ r
  pub own : r < n → cell_at ws r ≡ k
  pub none : (j : ℕ) → from ≤ j → j < r → j < n → cell_at ws j ≡ k → ⊥

-- the rules from i up to n by cells: the first of each, and after each rule the next of its own
pub record Chained (ws : List ℕ) (n i : ℕ) (c : Chains) : Type 0 where
  pub cells : length c.first ≡ 256
  pub places : length c.next ≡ 512
  pub first : (k : ℕ) → k < 256 → NextOf ws n k i (get_or c.first k 0)
  pub next : (j : ℕ) → i ≤ j → j < n → NextOf ws n (cell_at ws j) (j + 1) (get_or c.next j 0)

-- rule i stands before the others of its cell
pub record Linked (ws : List ℕ) (i : ℕ) (c d : Chains) : Type 0 where
  pub first : d.first ≡ set c.first (cell_at ws i) i
  pub next : d.next ≡ set c.next i (get_or c.first (cell_at ws i) 0)
