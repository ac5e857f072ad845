-- How the waiting pieces are found from the tiles: steps of the code, which no reader of its promise needs.
use Rattle.std.specs.Prelude.{ℕ, ◌+◌, ◌*◌, ◌/◌, ◌<◌, ◌≤◌, Bool, true, false, List, ◌≡◌, length, get_or, Option, Some, None}
use Rattle.plane.specs.declared.tile.Tile.{Tile}
use Rattle.plane.specs.Picture.{Picture}
use Rattle.plane.specs.Words.{count, word, tile_of}
use Rattle.waits.specs.Pieces.{piece_waits}

-- the tile waits and shares a square with the piece
pub record Crosses (t : Tile) (bx by : ℕ) : Type 0 where
  pub waits : t.kind ≡ 0 → ⊥
  pub from_left : t.left < 16 * bx + 16
  pub to_right : 16 * bx < t.right
  pub from_bottom : t.bottom < 16 * by + 16
  pub to_top : 16 * by < t.top

-- the number of the piece at the tile's lower left square: 256 a row, and its column
abbrev pub key_of : Tile → ℕ
key_of t = 256 * (t.bottom / 16) + t.left / 16

-- r is the least such number of the waiting tiles among the first n
pub record Least (ws : List ℕ) (n r : ℕ) : Type 0 where
  pub small : r < 65536
  pub each : (j : ℕ) → j < n → (word ws j 4 ≡ 0 → ⊥) → r ≤ key_of (tile_of ws j)
  pub found : (j : ℕ) × (j < n) × (word ws j 4 ≡ 0 → ⊥) × (r ≡ key_of (tile_of ws j))

-- the same, or none where none of them waits
abbrev pub LeastOf : List ℕ → ℕ → Option ℕ → Type 0
LeastOf ws n (Some r) = Least ws n r
LeastOf ws n None = (j : ℕ) → j < n → word ws j 4 ≡ 0

-- the least of all tiles, none where none waits
abbrev pub LeastKey : List ℕ → Option ℕ → Type 0
LeastKey ws r = LeastOf ws (count ws) r

-- the columns of a row of pieces, with a mark at each that the tile crosses
pub record MarksTile (t : Tile) (by : ℕ) (m m' : List Bool) : Type 0 where
  pub long : length m' ≡ length m
  pub yes : (bx : ℕ) → bx < 256 → Crosses t bx by → get_or m' bx false ≡ true
  pub no : (bx : ℕ) → bx < 256 → (Crosses t bx by → ⊥) → get_or m' bx false ≡ get_or m bx false

-- after the first n tiles
pub record Columns (ws : List ℕ) (by n : ℕ) (cs : List Bool) : Type 0 where
  pub long : length cs ≡ 256
  pub yes : (bx : ℕ) → bx < 256 → (j : ℕ) → j < n → Crosses (tile_of ws j) bx by → get_or cs bx false ≡ true
  pub no : (bx : ℕ) → bx < 256 → ((j : ℕ) → j < n → Crosses (tile_of ws j) bx by → ⊥) → get_or cs bx false ≡ false

-- ---- a row of pieces
-- row by of the pieces: which columns wait
pub record WaitingRow (w h : ℕ) (p : Picture) (by : ℕ) (cs : List Bool) : Type 0 where
  pub long : length cs ≡ 256
  pub each : (bx : ℕ) → bx < 256 → get_or cs bx false ≡ piece_waits w h p bx by
