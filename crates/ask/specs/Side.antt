-- The neighbours of a tile on a side: 0 left, 1 bottom, 2 right, 3 top.
use Rattle.std.specs.Prelude.{ℕ, zero, suc, ◌+◌, ◌-◌, ◌<◌, not, cond, ◌&&◌, List, [], ◌∷◌, length, eqb}
use Rattle.ask.specs.declared.side.Square.{Square}
use Rattle.plane.specs.declared.tile.Tile.{Tile}
use Rattle.plane.specs.Picture.{starts, joined, before}
use Rattle.plane.specs.Words.{count, tile_of, number_at, TableLength}
use Rattle.plane.specs.Point.{TableOf}
use Rattle.plane.specs.Listing.{Fits, unlisted, listing}
use Rattle.plane.specs.Refusal.{◌unless◌, Outcome}

-- how many squares lie along a side
abbrev pub side_length : Tile → ℕ → ℕ
side_length t zero = t.top - t.bottom
side_length t (suc zero) = t.right - t.left
side_length t (suc (suc zero)) = t.top - t.bottom
side_length t (suc (suc (suc s))) = t.right - t.left

-- square j just outside a side, counted from below or from the left; 65535, which no window has, stands for what lies before 0
abbrev pub square_beside : Tile → ℕ → ℕ → Square
square_beside t zero j = record { x = before t.left (λ x. x); y = t.bottom + j }
square_beside t (suc zero) j = record { x = t.left + j; y = before t.bottom (λ y. y) }
square_beside t (suc (suc zero)) j = record { x = t.right; y = t.bottom + j }
square_beside t (suc (suc (suc s))) j = record { x = t.left + j; y = t.top }

-- the tile there; 65535 where that square is outside
abbrev pub along_side : List ℕ → Tile → ℕ → ℕ → ℕ
along_side ws t side j = number_at ws (square_beside t side j).x (square_beside t side j).y

-- the number at place j, where it is a tile's and another than at the place before
unfoldable pub new_at : (ℕ → ℕ) → ℕ → List ℕ
unfolding starts
new_at f j = cond (starts f j && not (eqb (f j) 65535)) (f j ∷ []) []

-- all tiles that share part of a side, each once, rising in y or in x
unfoldable pub neighbours_of : List ℕ → Tile → ℕ → List ℕ
unfolding joined new_at before
neighbours_of ws t side = joined (side_length t side) (new_at (along_side ws t side))

-- the tile and the side exist
pub record SideOf (ws : List ℕ) (i side : ℕ) : Type 0 where
  pub tile : i < count ws
  pub four : side < 4

-- when neighbours says no
abbrev pub neighbour_refusals : List ℕ → ℕ → ℕ → ℕ → ℕ → List ℕ → List (ℕ × Type 0)
neighbour_refusals ws w h i side out =
    1 unless TableLength (length ws)
    ∷ 3 unless TableOf w h ws
    ∷ 6 unless SideOf ws i side
    ∷ 7 unless Fits (neighbours_of ws (tile_of ws i) side) out
    ∷ []

-- neighbours on the words of a table, w by h: its number, how many it lists, and the slice
pub record Neighboured (ws : List ℕ) (w h i side : ℕ) (out : List ℕ) (answer entries : ℕ) (after : List ℕ) : Type 0 where
  pub outcome : Outcome (neighbour_refusals ws w h i side out) (unlisted out) (listing (neighbours_of ws (tile_of ws i) side) out) answer (record { entries = entries; slice = after })

-- how far along a side of t the tile u reaches
abbrev pub reach_along : Tile → ℕ → Tile → ℕ
reach_along t zero u = u.top - t.bottom
reach_along t (suc zero) u = u.right - t.left
reach_along t (suc (suc zero)) u = u.top - t.bottom
reach_along t (suc (suc (suc s))) u = u.right - t.left
