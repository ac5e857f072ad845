-- The local picture of a block: 82 by 82 squares in one list, row by row, cut out of a window.
use Rattle.std.specs.Prelude.{ℕ, ◌+◌, ◌-◌, ◌*◌, ◌<◌, ◌≤◌, cond, List, ◌≡◌, length, get_or}
use Rattle.plane.specs.declared.tile.Area.{Area}
use Rattle.plane.specs.Picture.{Picture, area, in_area}
use Rattle.rules.specs.Forbid.{kind_at, outside}

-- the picture p of a window, from column and row lo up to hi of the local picture that begins at (ox,oy) of the plane; elsewhere what is outside the window
pub record CutOut (lo hi w h : ℕ) (p : Picture) (ox oy : ℕ) (ks : List ℕ) : Type 0 where
  pub long : length ks ≡ 6724
  pub kind : (u v : ℕ) → u < 82 → v < 82 → get_or ks (v * 82 + u) 0 ≡ cond (in_area (area lo lo hi hi) u v) (kind_at w h p (ox + u) (oy + v)) outside

-- ---- steps
-- m' is m with the types of f in an area of its squares
pub record Drawn (f : Picture) (a : Area) (m m' : List ℕ) : Type 0 where
  pub long : length m' ≡ length m
  pub square : (x y : ℕ) → x < 82 → y < 82 → get_or m' (y * 82 + x) 0 ≡ cond (in_area a x y) (f x y) (get_or m (y * 82 + x) 0)

-- row v of m, in every row
abbrev pub row_of : List ℕ → ℕ → Picture
row_of m v x y = get_or m (v * 82 + x) 0

-- where column (or row) x of the window stands in the local picture of block b
abbrev pub placed : ℕ → ℕ → ℕ
placed b x = x + 33 - 16 * b

-- an area of the window in the local picture of the block at column bx, row by
abbrev pub placed_area : ℕ → ℕ → Area → Area
placed_area bx by a = area (placed bx a.x1) (placed by a.y1) (placed bx a.x2) (placed by a.y2)

-- the window's picture p, by columns and rows of the local picture
abbrev pub around : ℕ → ℕ → Picture → Picture
around bx by p u v = p (16 * bx + u - 33) (16 * by + v - 33)

-- the area is in a window w by h, and in the local picture
pub record Cuttable (w h bx by : ℕ) (a : Area) : Type 0 where
  pub left_of : 16 * bx ≤ a.x1 + 33
  pub wide : a.x1 < a.x2
  pub right_of : a.x2 ≤ 16 * bx + 49
  pub inside : a.x2 ≤ w
  pub low : 16 * by ≤ a.y1 + 33
  pub tall : a.y1 < a.y2
  pub high : a.y2 ≤ 16 * by + 49
  pub under : a.y2 ≤ h

-- m' is m with the area's lowest row drawn; up to `top` the rows of the area are all the same
pub record RowCut (p : Picture) (bx by : ℕ) (a : Area) (top : ℕ) (m m' : List ℕ) : Type 0 where
  pub drawn : Drawn (around bx by p) (area (placed bx a.x1) (placed by a.y1) (placed bx a.x2) (placed by a.y1 + 1)) m m'
  pub some : a.y1 < top
  pub most : top ≤ a.y2
  pub same : (x y : ℕ) → a.x1 ≤ x → x < a.x2 → a.y1 ≤ y → y < top → p x y ≡ p x a.y1
