-- The picture after a brush: its pieces, runs and strips, as they are read off the table before.
use Rattle.std.specs.Prelude.{ℕ, ◌+◌, ◌-◌, ◌*◌, ◌^◌, ◌≤◌, ◌<◌, ◌≡◌, cond, ◌⊎◌, List, length, get_or}
use Rattle.plane.specs.declared.tile.Tile.{Tile}
use Rattle.plane.specs.declared.tile.Area.{Area}
use Rattle.plane.specs.Picture.{Picture, in_area, bit_of}
use Rattle.plane.specs.Strips.{Run, Box, Strip, Holds, Precedes}
use Rattle.plane.specs.Words.{count, width, height, tile_of, picture_of}
use Rattle.plane.specs.Plane.{Plane}
use Rattle.plane.specs.Area.{AreaIn}
use Rattle.brush.specs.declared.brush.Brush.{Brush}
use Rattle.brush.specs.declared.brush.Ink.{Ink}
use Rattle.brush.specs.declared.brush.Ink.TheVariants.{Flat as OneType, Bits}

-- ---- the brush, and the picture after it

-- an area of at most 48 columns and 48 rows
pub record Small (a : Area) : Type 0 where
  pub columns : a.x2 ≤ a.x1 + 48
  pub rows : a.y2 ≤ a.y1 + 48

-- all of an area, as a tile of one type
abbrev pub brush_tile : Area → ℕ → Tile
brush_tile a k = record { left = a.x1; bottom = a.y1; right = a.x2; top = a.y2; kind = k }

-- (x,y) is a square of the area
abbrev pub InArea : Area → ℕ → ℕ → Type 0
InArea a x y = Holds (brush_tile a 0) x y

-- an ink of bits sets a small area
abbrev pub SmallInk : Ink → Area → Type 0
SmallInk (OneType k) a = Unit {0}
SmallInk (Bits rows) a = Small a

-- the brush's area is small if it sets bits
abbrev pub SmallBits : Brush → Type 0
SmallBits b = SmallInk b.ink b.area

-- its area lies in a window w by h, and is small if it sets bits
pub record BrushIn (w h : ℕ) (b : Brush) : Type 0 where
  pub area : AreaIn w h b.area
  pub small : SmallBits b

-- the types that an ink sets are below k: bits are 0 and 1, and every table has two types
abbrev pub KindsBelow : Ink → ℕ → Type 0
KindsBelow (OneType kind) k = kind < k
KindsBelow (Bits rows) k = Unit {0}

-- the type that an ink gives a square of an area: its one type, or the square's bit
unfoldable pub ink_at : Ink → Area → ℕ → ℕ → ℕ
ink_at (OneType k) a x y = k
ink_at (Bits rows) a x y = bit_of (get_or rows (y - a.y1) 0) (x - a.x1)

-- the type that a brush gives a square of its area
abbrev pub inked : Brush → ℕ → ℕ → ℕ
inked b x y = ink_at b.ink b.area x y

-- the picture after
unfoldable pub after : Picture → Brush → Picture
unfolding in_area ink_at
after p b x y = cond (in_area b.area x y) (inked b x y) (p x y)

-- the picture of a table after
abbrev pub goal : List ℕ → Brush → Picture
goal ws b = after (picture_of ws) b

-- ---- what each step is handed

-- the tiles of a table are the strips of the picture that it shows
pub record Shown (ws : List ℕ) : Type 0 where
  pub room : 4 + 9 * count ws ≤ length ws
  pub wide : width ws ≤ 4096
  pub tall : height ws ≤ 4096
  pub each : (i : ℕ) → i < count ws → Strip (width ws) (height ws) (picture_of ws) (tile_of ws i)
  pub order : (i j : ℕ) → i < j → j < count ws → Precedes (tile_of ws i) (tile_of ws j)
  pub cover : (x y : ℕ) → x < width ws → y < height ws → (i : ℕ) × (i < count ws) × Holds (tile_of ws i) x y

-- a table, with what its stitches say and what its tiles are, and a brush for its window
pub record Given (ws : List ℕ) (b : Brush) : Type 0 where
  pub plane : Plane ws
  pub shown : Shown ws
  pub brush : BrushIn (width ws) (height ws) b

-- a painting, as contracts see it: the words of its table, and its brush
pub record Canvas : Type 0 where
  pub words : List ℕ
  pub brush : Brush

-- the window's width
abbrev pub wide : Canvas → ℕ
wide c = width c.words

-- its height
abbrev pub tall : Canvas → ℕ
tall c = height c.words

-- the picture after
abbrev pub goal_of : Canvas → Picture
goal_of c = goal c.words c.brush

-- tile k is one of the table's, to look from, and (x,y) is a square of its window
pub record Near (ws : List ℕ) (k x y : ℕ) : Type 0 where
  pub counted : k < count ws
  pub in_x : x < width ws
  pub in_y : y < height ws

-- ---- pieces

-- a rectangle of one type that holds (x,y)
pub record Flat (w h : ℕ) (q : Picture) (x y : ℕ) (t : Tile) : Type 0 where
  pub box : Box w h t
  pub here : Holds t x y
  pub all : (i z : ℕ) → Holds t i z → q i z ≡ t.kind

-- the bits of a word from place l up to place r are all `bit`
pub record SameBits (word bit l r : ℕ) : Type 0 where
  pub order : l ≤ r
  pub each : (j : ℕ) → l ≤ j → j < r → bit_of word j ≡ bit

-- where `other` has a zero, the word has the bit of its place i
abbrev pub OtherBits : ℕ → ℕ → ℕ → Type 0
OtherBits word i other = (other < 2 ^ 64) × ((j : ℕ) → j < 64 → bit_of other j ≡ 0 → bit_of word j ≡ bit_of word i)

-- a rectangle of one type in the brush's area
pub record InkTile (b : Brush) (x y : ℕ) (t : Tile) : Type 0 where
  pub here : Holds t x y
  pub inside : (i z : ℕ) → Holds t i z → InArea b.area i z
  pub each : (i z : ℕ) → Holds t i z → t.kind ≡ inked b i z

-- (i,z) is in the brush's area and t has its type; or it is outside, in s, and t has the type of s
abbrev pub Cut : Tile → Brush → Tile → ℕ → ℕ → Type 0
Cut s b t i z = (InArea b.area i z × (t.kind ≡ inked b i z)) ⊎ ((InArea b.area i z → ⊥) × Holds s i z × (t.kind ≡ s.kind))

-- t holds (x,y), and is in the area, or in s and outside the area
pub record Clipped (s : Tile) (b : Brush) (x y : ℕ) (t : Tile) : Type 0 where
  pub here : Holds t x y
  pub each : (i z : ℕ) → Holds t i z → Cut s b t i z

-- ---- runs and strips

-- a part of the run through (x,y) up to its right end, and up to which row it stays so
pub record Rightward (w h : ℕ) (q : Picture) (x y : ℕ) (t : Tile) : Type 0 where
  pub flat : Flat w h q x y t
  pub base : t.bottom ≡ y
  pub stop : t.right < w → (z : ℕ) → y ≤ z → z < t.top → q t.right z ≡ t.kind → ⊥

-- the run through (x,y), and up to which row it stays so
pub record Steady (w h : ℕ) (q : Picture) (x y : ℕ) (t : Tile) : Type 0 where
  pub box : Box w h t
  pub here : Holds t x y
  pub base : t.bottom ≡ y
  pub runs : (z : ℕ) → y ≤ z → z < t.top → Run w q t.left t.right t.kind z

-- the part of a strip from row y up
pub record Upward (w h : ℕ) (q : Picture) (x y : ℕ) (t : Tile) : Type 0 where
  pub steady : Steady w h q x y t
  pub above : t.top < h → Run w q t.left t.right t.kind t.top → ⊥

-- the two have one span and type
pub record SameSpan (s t : Tile) : Type 0 where
  pub left : s.left ≡ t.left
  pub right : s.right ≡ t.right
  pub kind : s.kind ≡ t.kind

-- p is of another type than r, or reaches past its left or right end
pub data Unlike (p r : Tile) : Type 0 where
  other_kind : (p.kind ≡ r.kind → ⊥) → Unlike p r
  more_left : p.left < r.left → Unlike p r
  more_right : r.right < p.right → Unlike p r
