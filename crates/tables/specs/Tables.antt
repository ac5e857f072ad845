-- Whole tables: the header, the words after the tiles, and the table of the picture after.
use Rattle.std.specs.Prelude.{Option, Some, None, ℕ, ◌≤◌, ◌<◌, ◌≡◌, List, length, get_or}
use Rattle.plane.specs.declared.tile.Area.{Area}
use Rattle.plane.specs.Picture.{Picture, tiles, table}
use Rattle.plane.specs.Words.{count, width, height, kinds, IsTable}
use Rattle.plane.specs.Area.{AreaIn}
use Rattle.brush.specs.declared.brush.Brush.{Brush}
use Rattle.brush.specs.Brush.{BrushIn, KindsBelow}

-- the header is set, and all else stays
pub record Headed (ws vs : List ℕ) (n w h k : ℕ) : Type 0 where
  pub long : length vs ≡ length ws
  pub number : count vs ≡ n
  pub wide : width vs ≡ w
  pub tall : height vs ≡ h
  pub types : kinds vs ≡ k
  pub old : (m : ℕ) → 4 ≤ m → get_or vs m 0 ≡ get_or ws m 0

-- the words from e up to i are zero, and all others stay
pub record Zeroed (ws vs : List ℕ) (e i : ℕ) : Type 0 where
  pub long : length vs ≡ length ws
  pub zero : (m : ℕ) → e ≤ m → m < i → get_or vs m 0 ≡ 0
  pub old : (m : ℕ) → m < e → get_or vs m 0 ≡ get_or ws m 0
  pub rest : (m : ℕ) → i ≤ m → get_or vs m 0 ≡ get_or ws m 0

-- the words from e on are zero, and those before stay
pub record Cleared (ws vs : List ℕ) (e : ℕ) : Type 0 where
  pub long : length vs ≡ length ws
  pub zero : (m : ℕ) → e ≤ m → get_or vs m 0 ≡ 0
  pub old : (m : ℕ) → m < e → get_or vs m 0 ≡ get_or ws m 0

-- a table of room c, and a brush for its window and types
pub record MayPaint (c : ℕ) (ws : List ℕ) (b : Brush) : Type 0 where
  pub table : IsTable c ws
  pub small : c ≤ 3600
  pub brush : BrushIn (width ws) (height ws) b
  pub type : KindsBelow b.ink (kinds ws)

-- a table of room c, and an area of its window
pub record Paintable (c : ℕ) (ws : List ℕ) (a : Area) : Type 0 where
  pub table : IsTable c ws
  pub small : c ≤ 3600
  pub area : AreaIn (width ws) (height ws) a

-- r is the number of tiles of the picture q, of the size of ws, and there is room for them
pub record TilesFit (c : ℕ) (ws : List ℕ) (q : Picture) (r : ℕ) : Type 0 where
  pub room : r ≤ c
  pub number : r ≡ length (tiles (width ws) (height ws) q)

-- the number of tiles of the picture q; none where that is above the room
abbrev pub TilesAfter : ℕ → List ℕ → Picture → Option ℕ → Type 0
TilesAfter c ws q (Some r) = TilesFit c ws q r
TilesAfter c ws q None = c < length (tiles (width ws) (height ws) q)

-- the table ws became vs, that of the picture q, and r is its number of tiles
pub record Repainted (c : ℕ) (ws : List ℕ) (q : Picture) (vs : List ℕ) (r : ℕ) : Type 0 where
  pub room : r ≤ c
  pub number : r ≡ length (tiles (width ws) (height ws) q)
  pub done : vs ≡ table c (width ws) (height ws) (kinds ws) q
  pub sound : IsTable c vs

-- the picture q has more tiles than the room, and ws stays
pub record Unpainted (c : ℕ) (ws : List ℕ) (q : Picture) (vs : List ℕ) : Type 0 where
  pub full : c < length (tiles (width ws) (height ws) q)
  pub stays : vs ≡ ws
  pub sound : IsTable c vs

-- a table painted over: the number of its tiles, or none where there is no room for them
abbrev pub PaintedOver : ℕ → List ℕ → Picture → List ℕ → Option ℕ → Type 0
PaintedOver c ws q vs (Some r) = Repainted c ws q vs r
PaintedOver c ws q vs None = Unpainted c ws q vs
