-- The rebuild: the tiles that are kept, and how the working slice comes to cover the window.
use Rattle.std.specs.Prelude.{Option, Some, None, ℕ, ◌+◌, ◌-◌, ◌*◌, ◌≤◌, ◌<◌, ◌≡◌, ◌⊎◌, List, length}
use Rattle.plane.specs.declared.tile.Area.{Area}
use Rattle.plane.specs.declared.tile.Tile.{Tile}
use Rattle.plane.specs.Picture.{Picture, tiles}
use Rattle.plane.specs.Strips.{Strip, Holds}
use Rattle.plane.specs.Words.{count, width, height, tile_of, up_to}
use Rattle.brush.specs.declared.brush.Brush.{Brush}
use Rattle.strips.specs.declared.cover.Spot.{Spot}
use Rattle.slots.specs.Slots.{InOrderTo, Has}
use Rattle.brush.specs.Brush.{goal}

-- ---- the tiles that are kept

-- the tile does not touch the area, by a side or a corner
pub data Untouched (t : Tile) (a : Area) : Type 0 where
  left_of : t.right < a.x1 → Untouched t a
  right_of : a.x2 < t.left → Untouched t a
  below_it : t.top < a.y1 → Untouched t a
  above_it : a.y2 < t.bottom → Untouched t a

-- the first j tiles of the table begin in the row above the area or lower, the others higher
pub record LowTo (ws : List ℕ) (a : Area) (j : ℕ) : Type 0 where
  pub most : j ≤ count ws
  pub low : (i : ℕ) → i < j → (tile_of ws i).bottom ≤ a.y2
  pub high : (i : ℕ) → j ≤ i → i < count ws → a.y2 < (tile_of ws i).bottom

-- the two begin at one square
pub record SameStart (s t : Tile) : Type 0 where
  pub left : s.left ≡ t.left
  pub bottom : s.bottom ≡ t.bottom

-- one of the first n tiles holds (x,y)
abbrev pub CoveredBy : List ℕ → ℕ → ℕ → ℕ → Type 0
CoveredBy ws n x y = (i : ℕ) × (i < n) × Holds (tile_of ws i) x y

-- the first n tiles of the working slice are strips, in order
pub record Part (w h : ℕ) (q : Picture) (ws : List ℕ) (n : ℕ) : Type 0 where
  pub each : (i : ℕ) → i < n → Strip w h q (tile_of ws i)
  pub order : InOrderTo ws n

-- of the first i tiles of the table ws, those that stay and those that begin below the area are the m tiles of us
pub record Kept (ws : List ℕ) (b : Brush) (us : List ℕ) (i m : ℕ) : Type 0 where
  pub few : m ≤ i
  pub part : Part (width ws) (height ws) (goal ws b) us m
  pub from : (j : ℕ) → j < m → (k : ℕ) × (k < i) × SameStart (tile_of us j) (tile_of ws k)
  pub apart : (k : ℕ) → k < i → Untouched (tile_of ws k) b.area → Has us m (tile_of ws k)
  pub low : (k : ℕ) → k < i → (tile_of ws k).bottom < b.area.y1 → CoveredBy us m (tile_of ws k).left (tile_of ws k).bottom

-- ---- the squares that are covered

-- the first m tiles of vs are strips: those of ws, and others that begin below row f
pub record Grown (w h : ℕ) (q : Picture) (f : ℕ) (ws : List ℕ) (n : ℕ) (vs : List ℕ) (m : ℕ) : Type 0 where
  pub more : n ≤ m
  pub part : Part w h q vs m
  pub keeps : (i : ℕ) → i < n → Has vs m (tile_of ws i)
  pub only : (i : ℕ) → i < m → ((tile_of vs i).bottom < f) ⊎ Has ws n (tile_of vs i)

-- a working slice of this room with n strips
pub record Working (w h : ℕ) (q : Picture) (ws : List ℕ) (n room : ℕ) : Type 0 where
  pub few : n ≤ room
  pub long : 4 + 9 * room ≤ length ws
  pub part : Part w h q ws n

-- the squares x .. e-1 of row y-1 are covered
abbrev pub RowUnder : List ℕ → ℕ → ℕ → ℕ → ℕ → Type 0
RowUnder ws n x e y = (i : ℕ) → x ≤ i → i < e → 0 < y → CoveredBy ws n i (y - 1)

-- all squares of the rows below y are covered
abbrev pub AllUnder : List ℕ → ℕ → ℕ → ℕ → Type 0
AllUnder ws n w y = (i z : ℕ) → i < w → z < y → CoveredBy ws n i z

-- the picture has more tiles than the room
abbrev pub TooMany : ℕ → ℕ → Picture → ℕ → Type 0
TooMany w h q room = room < length (tiles w h q)

-- the spot is a number of tiles, and the right end and the top of a tile
pub record SpotOf (n : ℕ) (s : Tile) (r : Spot) : Type 0 where
  pub count : r.count ≡ n
  pub right : r.right ≡ s.right
  pub top : r.top ≡ s.top

-- the tile that holds (x,y), by its right end and its top
abbrev pub HeldTo : List ℕ → ℕ → ℕ → ℕ → ℕ → ℕ → Type 0
HeldTo ws n x y right top = (j : ℕ) × (j < n) × Holds (tile_of ws j) x y × (right ≡ (tile_of ws j).right) × (top ≡ (tile_of ws j).top)

-- (x,y) is covered by the tile of the spot
pub record Covered (w h : ℕ) (q : Picture) (room : ℕ) (ws : List ℕ) (n x y : ℕ) (vs : List ℕ) (r : Spot) : Type 0 where
  pub few : r.count ≤ room
  pub grown : Grown w h q (y + 1) ws n vs r.count
  pub here : HeldTo vs r.count x y r.right r.top

-- (x,y) is covered, or there are too many strips
abbrev pub Covers : ℕ → ℕ → Picture → ℕ → List ℕ → ℕ → ℕ → ℕ → List ℕ → Option Spot → Type 0
Covers w h q room ws n x y vs (Some r) = Covered w h q room ws n x y vs r
Covers w h q room ws n x y vs None = TooMany w h q room

-- the squares x .. e-1 of the rows y .. top-1 are covered
pub record RowCovered (w h : ℕ) (q : Picture) (room : ℕ) (ws : List ℕ) (n x e y : ℕ) (vs : List ℕ) (r : Spot) : Type 0 where
  pub few : r.count ≤ room
  pub grown : Grown w h q (y + 1) ws n vs r.count
  pub up : y < r.top
  pub top : r.top ≤ h
  pub row : (i z : ℕ) → x ≤ i → i < e → y ≤ z → z < r.top → CoveredBy vs r.count i z

-- or there are too many strips
abbrev pub CoversRow : ℕ → ℕ → Picture → ℕ → List ℕ → ℕ → ℕ → ℕ → ℕ → List ℕ → Option Spot → Type 0
CoversRow w h q room ws n x e y vs (Some r) = RowCovered w h q room ws n x e y vs r
CoversRow w h q room ws n x e y vs None = TooMany w h q room

-- the squares x .. e-1 of the rows below f are covered by m tiles
pub record ZoneCovered (w h : ℕ) (q : Picture) (room : ℕ) (ws : List ℕ) (n x e f : ℕ) (vs : List ℕ) (m : ℕ) : Type 0 where
  pub few : m ≤ room
  pub grown : Grown w h q f ws n vs m
  pub zone : (i z : ℕ) → x ≤ i → i < e → z < f → CoveredBy vs m i z

-- or there are too many strips
abbrev pub CoversZone : ℕ → ℕ → Picture → ℕ → List ℕ → ℕ → ℕ → ℕ → ℕ → List ℕ → Option ℕ → Type 0
CoversZone w h q room ws n x e f vs (Some m) = ZoneCovered w h q room ws n x e f vs m
CoversZone w h q room ws n x e f vs None = TooMany w h q room

-- the m tiles are all the strips, and there is room for them
pub record AllBuilt (w h : ℕ) (q : Picture) (room : ℕ) (vs : List ℕ) (m : ℕ) : Type 0 where
  pub few : m ≤ room
  pub built : up_to m (tile_of vs) ≡ tiles w h q

-- the tiles are all the strips, or they are more than the room
abbrev pub Built : ℕ → ℕ → Picture → ℕ → List ℕ → Option ℕ → Type 0
Built w h q room vs (Some m) = AllBuilt w h q room vs m
Built w h q room vs None = TooMany w h q room
