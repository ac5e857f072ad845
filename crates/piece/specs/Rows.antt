-- The marks of the squares near a block as rows of bits.
use Rattle.std.specs.Prelude.{ℕ, ◌+◌, ◌-◌, ◌*◌, ◌%◌, ◌^◌, ◌<◌, ◌≤◌, List, ◌≡◌, length, get_or}
use Rattle.plane.specs.Picture.{Picture, bit_of}
use Rattle.rules.specs.declared.rule.Rule.{Rule}
use Rattle.piece.specs.Remark.{full_mark, low_end, high_end}

-- the n bits of r are the parities of m from index `at` on
pub record BitRow (m : List ℕ) (at n r : ℕ) : Type 0 where
  pub small : r < 2 ^ n
  pub bits : (j : ℕ) → j < n → bit_of r j ≡ get_or m (at + j) 0 % 2

-- nx by ny squares of a local picture from (x0,y0) on
pub record BitRows (m : List ℕ) (x0 y0 nx ny : ℕ) (rows : List ℕ) : Type 0 where
  pub long : length rows ≡ 48
  pub row : (i : ℕ) → i < ny → BitRow m ((y0 + i) * 82 + x0) nx (get_or rows i 0)
  pub rest : (i : ℕ) → ny ≤ i → get_or rows i 0 ≡ 0

-- the rows of a piece: bit x - x1 of row y - y1 is the full check's mark of (x,y), for the squares of the area near the block; no other bit is set
pub record PieceRows (w h : ℕ) (p : Picture) (rs : List Rule) (k bx by : ℕ) (rows : List ℕ) : Type 0 where
  pub long : length rows ≡ 48
  pub mark : (x y : ℕ) → low_end k bx ≤ x → x < high_end w k bx → low_end k by ≤ y → y < high_end h k by
      → bit_of (get_or rows (y - low_end k by) 0) (x - low_end k bx) ≡ full_mark w h p rs x y
  pub narrow : (i : ℕ) → i < high_end h k by - low_end k by → get_or rows i 0 < 2 ^ (high_end w k bx - low_end k bx)
  pub rest : (i : ℕ) → high_end h k by - low_end k by ≤ i → get_or rows i 0 ≡ 0
