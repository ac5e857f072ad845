-- What a check of one piece does: the squares near its block, their marks, and the errors afterwards.
use Rattle.std.specs.Prelude.{ℕ, ◌+◌, ◌-◌, ◌*◌, ◌<◌, ◌≤◌, min, Bool, cond, List, ◌≡◌, length}
use Rattle.plane.specs.declared.tile.Area.{Area}
use Rattle.plane.specs.Picture.{Picture, area, in_area}
use Rattle.plane.specs.Words.{width, height, kinds}
use Rattle.plane.specs.Plane.{Plane}
use Rattle.rules.specs.declared.rule.Rule.{Rule}
use Rattle.rules.specs.Words.{halo_of}
use Rattle.rules.specs.Forbid.{forbidden}
use Rattle.rules.specs.Vetting.{ListLength, AllSound}

-- is (x,y) within k of the block at column bx, row by; k is added to both sides of each test
unfoldable pub near_block : ℕ → ℕ → ℕ → ℕ → ℕ → Bool
near_block k bx by x y = in_area (area (16 * bx) (16 * by) (16 * bx + 16 + k + k) (16 * by + 16 + k + k)) (x + k) (y + k)

-- the full check's mark
abbrev pub full_mark : ℕ → ℕ → Picture → List Rule → Picture
full_mark w h p rs x y = cond (forbidden w h p rs x y) 1 0

-- the errors e after a check of the piece, for the material p and the rules rs with halo k: each square within k of the block gets the full check's mark
unfoldable pub remarked : ℕ → ℕ → Picture → List Rule → ℕ → ℕ → ℕ → Picture → Picture
remarked w h p rs k bx by e x y = cond (near_block k bx by x y) (full_mark w h p rs x y) (e x y)

-- ---- the window's part
-- the first square within k of block b in one direction, and the one after the last in a window w wide
abbrev pub low_end : ℕ → ℕ → ℕ
low_end k b = 16 * b - k

abbrev pub high_end : ℕ → ℕ → ℕ → ℕ
high_end w k b = min w (16 * b + 16 + k)

-- the window's squares within k of the block; with k = 0 those of the block
abbrev pub near_area : ℕ → ℕ → ℕ → ℕ → ℕ → Area
near_area w h k bx by = area (low_end k bx) (low_end k by) (high_end w k bx) (high_end h k by)

-- the block has a square of the window, whose sizes are in range
pub record BlockIn (w h bx by : ℕ) : Type 0 where
  pub column : 16 * bx < w
  pub row : 16 * by < h
  pub wide : w ≤ 4096
  pub tall : h ≤ 4096

-- a piece to check: the words of a table and of a sound rule list, the list's halo, and a block of the window
pub record Checkable (ws rules : List ℕ) (used k bx by : ℕ) : Type 0 where
  pub plane : Plane ws
  pub listed : ListLength (length rules) used
  pub sound : AllSound rules used (kinds ws)
  pub halo : k ≡ halo_of rules used
  pub column : 16 * bx < width ws
  pub row : 16 * by < height ws
