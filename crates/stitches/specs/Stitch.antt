-- The stitches of the first n tiles of a slice.
use Rattle.std.specs.Prelude.{Option, Some, None, ℕ, ◌-◌, ◌+◌, ◌*◌, ◌≤◌, ◌<◌, ◌≡◌, ◌⊎◌, List, length, get_or}
use Rattle.plane.specs.declared.tile.Tile.{Tile}
use Rattle.plane.specs.Picture.{number_from, tile_words}
use Rattle.plane.specs.Strips.{Box, Holds}
use Rattle.plane.specs.Words.{word, tile_of, up_to}
use Rattle.shared.specs.declared.shared.Links.{Links}

-- the first n tiles
abbrev pub tiles_to : List ℕ → ℕ → List Tile
tiles_to ws n = up_to n (tile_of ws)

-- the number of the first of them that holds (x,y), 65535 where none does
abbrev pub number_in : List ℕ → ℕ → ℕ → ℕ → ℕ
number_in ws n x y = number_from 0 (tiles_to ws n) x y

-- the first n tiles lie in the window, and no two share a square
pub record Tight (ws : List ℕ) (n w h : ℕ) : Type 0 where
  pub box : (i : ℕ) → i < n → Box w h (tile_of ws i)
  pub one : (i j x y : ℕ) → i < n → j < n → Holds (tile_of ws i) x y → Holds (tile_of ws j) x y → i ≡ j

-- word k of tile t, in a table of the first n tiles
abbrev pub word_of : List ℕ → ℕ → Tile → ℕ → ℕ
word_of ws n t k = get_or (tile_words (tiles_to ws n) t) k 0

-- the square to which a stitch leads: (x,y), which is inside the window if m < n; none where it is outside
abbrev pub Leads : ℕ → ℕ → ℕ → ℕ → Option (ℕ × ℕ) → Type 0
Leads m n x y (Some s) = (m < n) × (s.0 ≡ x) × (s.1 ≡ y)
Leads m n x y None = n ≤ m

-- where the four stitches of a tile lead, in a window w by h
pub record Ends (w h : ℕ) (t : Tile) (e : Links (Option (ℕ × ℕ))) : Type 0 where
  pub lb : Leads 0 t.bottom t.left (t.bottom - 1) e.lb
  pub bl : Leads 0 t.left (t.left - 1) t.bottom e.bl
  pub tr : Leads t.right w t.right (t.top - 1) e.tr
  pub rt : Leads t.top h (t.right - 1) t.top e.rt

-- the word of a stitch to a square, of the first n tiles: the number of one that holds it, or 65535
abbrev pub StitchTo : List ℕ → ℕ → Option (ℕ × ℕ) → ℕ → Type 0
StitchTo ws n (Some s) r = ((r < n) × Holds (tile_of ws r) s.0 s.1) ⊎ ((r ≡ 65535) × ((j : ℕ) → j < n → Holds (tile_of ws j) s.0 s.1 → ⊥))
StitchTo ws n None r = r ≡ 65535

-- the four stitches of tile t
pub record LinksOf (ws : List ℕ) (n : ℕ) (t : Tile) (l : Links ℕ) : Type 0 where
  pub lb : l.lb ≡ word_of ws n t 5
  pub bl : l.bl ≡ word_of ws n t 6
  pub tr : l.tr ≡ word_of ws n t 7
  pub rt : l.rt ≡ word_of ws n t 8

-- the stitches of tile i are set, and all else stays
pub record PutLinks (ws vs : List ℕ) (i : ℕ) (l : Links ℕ) : Type 0 where
  pub long : length vs ≡ length ws
  pub lb : word vs i 5 ≡ l.lb
  pub bl : word vs i 6 ≡ l.bl
  pub tr : word vs i 7 ≡ l.tr
  pub rt : word vs i 8 ≡ l.rt
  pub old : (m : ℕ) → (m < 4 + 9 * i + 5) ⊎ (4 + 9 * i + 9 ≤ m) → get_or vs m 0 ≡ get_or ws m 0

-- every tile is the same, stitches aside
pub record SameTiles (ws vs : List ℕ) : Type 0 where
  pub long : length vs ≡ length ws
  pub tile : (j : ℕ) → tile_of vs j ≡ tile_of ws j

-- the first i of the n tiles have all their words
pub record StitchedTo (ws : List ℕ) (n : ℕ) (vs : List ℕ) (i : ℕ) : Type 0 where
  pub long : length vs ≡ length ws
  pub tile : (j : ℕ) → tile_of vs j ≡ tile_of ws j
  pub done : (j k : ℕ) → j < i → k < 9 → word vs j k ≡ word_of ws n (tile_of ws j) k
