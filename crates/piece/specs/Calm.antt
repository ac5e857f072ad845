-- A piece that is calm: everything within two halos of its block is of one type, so that no rule has an edge there.
use Rattle.std.specs.Prelude.{ℕ, ◌+◌, ◌*◌, ◌<◌, ◌≤◌, ◌≡◌}
use Rattle.plane.specs.declared.tile.Tile.{Tile}
use Rattle.plane.specs.declared.tile.Area.{Area}
use Rattle.plane.specs.Picture.{Picture}
use Rattle.rules.specs.Forbid.{kind_at}

-- the squares of the plane within 2 k of the block are of one type; the window's square (0,0) stands at (33,33)
pub record Calm (w h : ℕ) (p : Picture) (k bx by : ℕ) : Type 0 where
  pub kind : ℕ
  pub plain : (x y : ℕ) → 33 + 16 * bx ≤ x + 2 * k → x < 33 + (16 * bx + 16 + 2 * k) → 33 + 16 * by ≤ y + 2 * k → y < 33 + (16 * by + 16 + 2 * k) → kind_at w h p x y ≡ kind

-- ---- steps
-- the tile holds every square of the area
pub record Covers (t : Tile) (a : Area) : Type 0 where
  pub left_of : t.left ≤ a.x1
  pub right_of : a.x2 ≤ t.right
  pub low : t.bottom ≤ a.y1
  pub high : a.y2 ≤ t.top

-- every square within n of the block is in the window
pub record Interior (w h n bx by : ℕ) : Type 0 where
  pub left_of : n ≤ 16 * bx
  pub right_of : 16 * bx + 16 + n ≤ w
  pub low : n ≤ 16 * by
  pub high : 16 * by + 16 + n ≤ h
