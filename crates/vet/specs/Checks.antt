-- What each check of a table's words finds: steps of `vet`, which no reader of its promise needs.
use Rattle.std.specs.Prelude.{ℕ, ◌-◌, ◌*◌, ◌≤◌, ◌<◌, ◌≡◌, List, Bool, true, false, ltb}
use Rattle.plane.specs.Picture.{sum_to}
use Rattle.plane.specs.Plane.{Boxes, InOrder, Stitches, ZeroAfter}
use Rattle.plane.specs.declared.side.Side.{Side as TileSide}
use Rattle.plane.specs.declared.side.Side.TheVariants.{Left, Bottom, Right, Top}
use Rattle.plane.specs.Sides.{side_line, side_start, side_end}
use Rattle.plane.specs.Words.{count, width, height, word, tile_of}

-- tile s has that side at the line, and p is along it
pub record Touches (ws : List ℕ) (s : ℕ) (side : TileSide) (line p : ℕ) : Type 0 where
  pub counted : s < count ws
  pub meets : side_line (tile_of ws s) side ≡ line
  pub from : side_start (tile_of ws s) side ≤ p
  pub to : p < side_end (tile_of ws s) side

-- a stitch s to a tile that touches so, if there is one inside the window; 65535 if there is none
abbrev pub Joint : List ℕ → Bool → ℕ → TileSide → ℕ → ℕ → Type 0
Joint ws true s side line p = Touches ws s side line p
Joint ws false s side line p = s ≡ 65535

-- the four stitches of tile i: lb and bl name tiles that end where it begins, tr and rt tiles that begin where it ends
pub record Joints (ws : List ℕ) (i : ℕ) : Type 0 where
  pub lb : Joint ws (ltb 0 (word ws i 1)) (word ws i 5) Top (word ws i 1) (word ws i 0)
  pub bl : Joint ws (ltb 0 (word ws i 0)) (word ws i 6) Right (word ws i 0) (word ws i 1)
  pub tr : Joint ws (ltb (word ws i 2) (width ws)) (word ws i 7) Left (word ws i 2) (word ws i 3 - 1)
  pub rt : Joint ws (ltb (word ws i 3) (height ws)) (word ws i 8) Bottom (word ws i 3) (word ws i 2 - 1)

-- tile j begins at x on row y
pub record Starts (ws : List ℕ) (j x y : ℕ) : Type 0 where
  pub counted : j < count ws
  pub left : word ws j 0 ≡ x
  pub low : word ws j 1 ≤ y
  pub high : y < word ws j 3

-- on each row a tile begins at the left border
abbrev pub Column : List ℕ → Type 0
Column ws = (y : ℕ) → y < height ws → (j : ℕ) × Starts ws j 0 y

-- on each row of tile i a tile of another type begins where tile i ends
abbrev pub Side : List ℕ → ℕ → Type 0
Side ws i = word ws i 2 < width ws → (y : ℕ) → word ws i 1 ≤ y → y < word ws i 3 → (j : ℕ) × Starts ws j (word ws i 2) y × (word ws i 4 ≡ word ws j 4 → ⊥)

-- the tile that rt names has another span or type
abbrev pub Upper : List ℕ → ℕ → Type 0
Upper ws i = word ws i 3 < height ws → word ws (word ws i 8) 0 ≡ word ws i 0 → word ws (word ws i 8) 2 ≡ word ws i 2 → word ws (word ws i 8) 4 ≡ word ws i 4 → ⊥

-- the right side and the top of tile i
pub record Framed (ws : List ℕ) (i : ℕ) : Type 0 where
  pub side : Side ws i
  pub upper : Upper ws i

-- those of each tile
abbrev pub Frames : List ℕ → Type 0
Frames ws = (i : ℕ) → i < count ws → Framed ws i

-- how many squares tile i has
abbrev pub squares_of : List ℕ → ℕ → ℕ
squares_of ws i = (word ws i 2 - word ws i 0) * (word ws i 3 - word ws i 1)

-- how many squares the first n tiles have
abbrev pub areas : List ℕ → ℕ → ℕ
areas ws n = sum_to n (squares_of ws)

-- what is checked of the tiles one by one
pub record Sound (ws : List ℕ) : Type 0 where
  pub boxes : Boxes ws
  pub order : InOrder ws
  pub stitches : Stitches ws
  pub rest : ZeroAfter ws
