-- The working slice by its first n tiles: what its stores, moves and look-ups promise. No picture is named here.
use Rattle.std.specs.Prelude.{Option, Some, None, ℕ, ◌+◌, ◌-◌, ◌≤◌, ◌<◌, ◌≡◌, ◌⊎◌, List, length}
use Rattle.plane.specs.declared.tile.Tile.{Tile}
use Rattle.plane.specs.Strips.{Holds, Precedes}
use Rattle.plane.specs.Words.{tile_of}

-- the first n tiles are in order
abbrev pub InOrderTo : List ℕ → ℕ → Type 0
InOrderTo ws n = (i j : ℕ) → i < j → j < n → Precedes (tile_of ws i) (tile_of ws j)

-- t is one of the first n tiles
abbrev pub Has : List ℕ → ℕ → Tile → Type 0
Has ws n t = (i : ℕ) × (i < n) × (tile_of ws i ≡ t)

-- tile i is set to t, and the others stay
pub record PutTile (ws vs : List ℕ) (i : ℕ) (t : Tile) : Type 0 where
  pub long : length vs ≡ length ws
  pub new : tile_of vs i ≡ t
  pub old : (j : ℕ) → (j ≡ i → ⊥) → tile_of vs j ≡ tile_of ws j

-- how many of the first n tiles come before t, up to the first that does not
pub record PlaceOf (ws : List ℕ) (n : ℕ) (t : Tile) (r : ℕ) : Type 0 where
  pub most : r ≤ n
  pub lower : (j : ℕ) → j < r → Precedes (tile_of ws j) t
  pub after : r < n → Precedes (tile_of ws r) t → ⊥

-- tiles e to f - 1 are moved up by one place, and those before, tile e too, stay
pub record ShiftedUp (ws vs : List ℕ) (e f : ℕ) : Type 0 where
  pub long : length vs ≡ length ws
  pub moved : (j : ℕ) → e ≤ j → j < f → tile_of vs (j + 1) ≡ tile_of ws j
  pub kept : (j : ℕ) → j ≤ e → tile_of vs j ≡ tile_of ws j

-- the tiles of ws from j to n - 1 stand behind the first m, and those stay
pub record Appended (ws : List ℕ) (j n : ℕ) (us : List ℕ) (m : ℕ) (vs : List ℕ) : Type 0 where
  pub long : length vs ≡ length us
  pub new : (i : ℕ) → j + i < n → tile_of vs (m + i) ≡ tile_of ws (j + i)
  pub old : (i : ℕ) → i < m → tile_of vs i ≡ tile_of us i

-- t is none of the first n tiles, by its lower left corner
abbrev pub Fresh : List ℕ → ℕ → Tile → Type 0
Fresh ws n t = (i : ℕ) → i < n → Precedes (tile_of ws i) t ⊎ Precedes t (tile_of ws i)

-- t is put among the first n tiles, at its place
pub record WithTile (ws vs : List ℕ) (n : ℕ) (t : Tile) : Type 0 where
  pub long : length vs ≡ length ws
  pub order : InOrderTo vs (n + 1)
  pub new : Has vs (n + 1) t
  pub old : (i : ℕ) → i < n → Has vs (n + 1) (tile_of ws i)
  pub only : (j : ℕ) → j < n + 1 → (tile_of vs j ≡ t) ⊎ Has ws n (tile_of vs j)

-- a look-up among the tiles from i up to n: the number of one that holds (x,y), or none does
abbrev pub Sought : List ℕ → ℕ → ℕ → ℕ → ℕ → Option ℕ → Type 0
Sought ws i n x y (Some r) = (r < n) × Holds (tile_of ws r) x y
Sought ws i n x y None = (j : ℕ) → i ≤ j → j < n → Holds (tile_of ws j) x y → ⊥

-- tile k is one of the first n, and holds (x,y)
pub record Holder (ws : List ℕ) (n k x y : ℕ) : Type 0 where
  pub counted : k < n
  pub held : Holds (tile_of ws k) x y

-- tile k is one of the first n, and holds the square under (x,y)
pub record Under (ws : List ℕ) (n k x y : ℕ) : Type 0 where
  pub some : 0 < y
  pub holder : Holder ws n k x (y - 1)

-- t begins right of x, on row y: it comes after every tile that begins at (x,y) or before it
pub record Past (x y : ℕ) (t : Tile) : Type 0 where
  pub left : t.left ≡ x + 1
  pub bottom : t.bottom ≡ y

-- the first n tiles are in order, each holds its corner, and no two share a square
pub record Sorted (ws : List ℕ) (n : ℕ) : Type 0 where
  pub order : InOrderTo ws n
  pub some : (i : ℕ) → i < n → Holds (tile_of ws i) (tile_of ws i).left (tile_of ws i).bottom
  pub one : (i j x y : ℕ) → i < n → j < n → Holds (tile_of ws i) x y → Holds (tile_of ws j) x y → i ≡ j
