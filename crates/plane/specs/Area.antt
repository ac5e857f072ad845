-- Squares and tiles of a type in an area.
use Rattle.std.specs.Prelude.{ℕ, ◌+◌, ◌-◌, ◌*◌, ◌≤◌, ◌<◌, min, max, Bool, cond, ◌&&◌, List, [], ◌∷◌, length, eqb, ltb}
use Rattle.plane.specs.declared.tile.Tile.{Tile}
use Rattle.plane.specs.declared.tile.Area.{Area}
use Rattle.plane.specs.Picture.{Picture, joined, sum_to}
use Rattle.plane.specs.Words.{count, width, height, tile_of, picture_of, TableLength, PictureTable}
use Rattle.plane.specs.Listing.{Fits, unlisted, listing}
use Rattle.plane.specs.Refusal.{◌unless◌, Outcome}

-- the area is not empty and lies in a window w by h
pub record AreaIn (w h : ℕ) (a : Area) : Type 0 where
  pub some_x : a.x1 < a.x2
  pub some_y : a.y1 < a.y2
  pub in_x : a.x2 ≤ w
  pub in_y : a.y2 ≤ h

-- the squares of a type in an area
unfoldable pub squares_in : Picture → ℕ → Area → ℕ
unfolding sum_to
squares_in p k a = sum_to (a.y2 - a.y1) λ j. sum_to (a.x2 - a.x1) λ i. cond (eqb (p (a.x1 + i) (a.y1 + j)) k) 1 0

-- is the tile of that type, and does it share a square with the area
unfoldable pub meets : Tile → ℕ → Area → Bool
meets t k a = eqb t.kind k && (ltb t.left a.x2 && (ltb a.x1 t.right && (ltb t.bottom a.y2 && ltb a.y1 t.top)))

-- the tiles of a type that share a square with an area, in order
unfoldable pub tiles_in : List ℕ → ℕ → Area → List ℕ
unfolding joined meets
tiles_in ws k a = joined (count ws) λ i. cond (meets (tile_of ws i) k a) (i ∷ []) []

-- when a question about an area says no
abbrev pub area_refusals : List ℕ → Area → List (ℕ × Type 0)
area_refusals ws a =
    1 unless TableLength (length ws)
    ∷ 3 unless PictureTable ws
    ∷ 6 unless AreaIn (width ws) (height ws) a
    ∷ []

-- squares on a table: its number, and how many squares of the type the area has
pub record SquaresCounted (ws : List ℕ) (k : ℕ) (a : Area) (answer squares : ℕ) : Type 0 where
  pub outcome : Outcome (area_refusals ws a) 0 (squares_in (picture_of ws) k a) answer squares

-- when a listing of tiles in an area says no
abbrev pub tiles_refusals : List ℕ → ℕ → Area → List ℕ → List (ℕ × Type 0)
tiles_refusals ws k a out =
    1 unless TableLength (length ws)
    ∷ 3 unless PictureTable ws
    ∷ 6 unless AreaIn (width ws) (height ws) a
    ∷ 7 unless Fits (tiles_in ws k a) out
    ∷ []

-- tiles on a table: its number, how many tiles it lists, and the slice
pub record TilesListed (ws : List ℕ) (k : ℕ) (a : Area) (out : List ℕ) (answer entries : ℕ) (after : List ℕ) : Type 0 where
  pub outcome : Outcome (tiles_refusals ws k a out) (unlisted out) (listing (tiles_in ws k a) out) answer (record { entries = entries; slice = after })

-- the squares that a tile shares with an area, if it is of that type: a step of the count
abbrev pub shared : Tile → ℕ → Area → ℕ
shared t k a = cond (eqb t.kind k) ((min t.right a.x2 - max t.left a.x1) * (min t.top a.y2 - max t.bottom a.y1)) 0
