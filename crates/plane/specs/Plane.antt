-- The same as `IsTable`, said tile by tile: what a check of the words looks at, and what an algorithm may use.
use Rattle.std.specs.Prelude.{ℕ, suc, ◌+◌, ◌-◌, ◌*◌, ◌≤◌, ◌<◌, ◌≡◌, List, length, get_or}
use Rattle.plane.specs.declared.tile.Tile.{Tile}
use Rattle.plane.specs.Strips.{Box, Holds, Precedes}
use Rattle.plane.specs.Words.{Header, count, width, height, kinds, word, tile_of}

-- a tile's own numbers
pub record Boxed (w h k : ℕ) (a : Tile) : Type 0 where
  pub box : Box w h a
  pub type : a.kind < k

-- the slice has the words of all its tiles
pub record Sized (ws : List ℕ) : Type 0 where
  pub whole : 4 + 9 * count ws ≤ length ws

-- s is the number of a tile that holds (x,y)
pub record Names (ws : List ℕ) (s x y : ℕ) : Type 0 where
  pub counted : s < count ws
  pub held : Holds (tile_of ws s) x y

-- a stitch s to the square (x,y), which is inside the window if m < n: the tile that holds it; 65535 if it is outside
abbrev pub Link : List ℕ → ℕ → ℕ → ℕ → ℕ → ℕ → Type 0
Link ws m n s x y = (m < n → Names ws s x y) × (n ≤ m → s ≡ 65535)

-- the four stitches of tile i
pub record Stitched (ws : List ℕ) (i : ℕ) : Type 0 where
  pub lb : Link ws 0 (word ws i 1) (word ws i 5) (word ws i 0) (word ws i 1 - 1)
  pub bl : Link ws 0 (word ws i 0) (word ws i 6) (word ws i 0 - 1) (word ws i 1)
  pub tr : Link ws (word ws i 2) (width ws) (word ws i 7) (word ws i 2) (word ws i 3 - 1)
  pub rt : Link ws (word ws i 3) (height ws) (word ws i 8) (word ws i 2 - 1) (word ws i 3)

-- each tile has true stitches
abbrev pub Stitches : List ℕ → Type 0
Stitches ws = (i : ℕ) → i < count ws → Stitched ws i

-- each tile is a rectangle in the window, of a type below T
pub record Boxes (ws : List ℕ) : Type 0 where
  pub box : (i : ℕ) → i < count ws → Box (width ws) (height ws) (tile_of ws i)
  pub type : (i : ℕ) → i < count ws → word ws i 4 < kinds ws

-- each tile comes before the next, by bottom and then left
abbrev pub InOrder : List ℕ → Type 0
InOrder ws = (i : ℕ) → suc i < count ws → Precedes (tile_of ws i) (tile_of ws (suc i))

-- row y is in both tiles, and the second begins where the first ends
pub record Beside (s t : Tile) (y : ℕ) : Type 0 where
  pub joins : t.left ≡ s.right
  pub low_s : s.bottom ≤ y
  pub high_s : y < s.top
  pub low_t : t.bottom ≤ y
  pub high_t : y < t.top

-- the second stands on the first, with the same span and type
pub record Stacked (s t : Tile) : Type 0 where
  pub joins : t.bottom ≡ s.top
  pub left : t.left ≡ s.left
  pub right : t.right ≡ s.right
  pub kind : t.kind ≡ s.kind

-- tiles beside one another have different types
abbrev pub Sides : List ℕ → Type 0
Sides ws = (i j : ℕ) → i < count ws → j < count ws → (y : ℕ) → Beside (tile_of ws i) (tile_of ws j) y → word ws i 4 ≡ word ws j 4 → ⊥

-- no tile continues another upward
abbrev pub Apart : List ℕ → Type 0
Apart ws = (i j : ℕ) → i < count ws → j < count ws → Stacked (tile_of ws i) (tile_of ws j) → ⊥

-- each square of the window is in a tile
abbrev pub Covered : List ℕ → Type 0
Covered ws = (x y : ℕ) → x < width ws → y < height ws → (i : ℕ) × (i < count ws) × Holds (tile_of ws i) x y

-- no square is in two tiles
abbrev pub Disjoint : List ℕ → Type 0
Disjoint ws = (i j x y : ℕ) → i < count ws → j < count ws → Holds (tile_of ws i) x y → Holds (tile_of ws j) x y → i ≡ j

-- the words after the last tile are zero
abbrev pub ZeroAfter : List ℕ → Type 0
ZeroAfter ws = (m : ℕ) → 4 + 9 * count ws ≤ m → get_or ws m 0 ≡ 0

-- the words of a table, whatever its room
pub record Plane (ws : List ℕ) : Type 0 where
  pub sized : Sized ws
  pub header : Header ws
  pub boxes : Boxes ws
  pub order : InOrder ws
  pub cover : Covered ws
  pub one : Disjoint ws
  pub sides : Sides ws
  pub apart : Apart ws
  pub stitches : Stitches ws
  pub rest : ZeroAfter ws
