-- What it is to be the strips of a picture, said of any list of tiles.
use Rattle.std.specs.Prelude.{ℕ, ◌-◌, ◌≤◌, ◌<◌, ◌≡◌, ◌⊎◌}
use mathlib.Core.List.{List, [], ◌∷◌, Memᴰ}
use Rattle.plane.specs.Picture.{Picture}
use Rattle.plane.specs.declared.tile.Tile.{Tile}

-- the squares l .. r-1 of row y are a longest run of type k, in a window w wide
pub record Run (w : ℕ) (p : Picture) (l r k y : ℕ) : Type 0 where
  pub all : (x : ℕ) → l ≤ x → x < r → p x y ≡ k
  pub start : 0 < l → p (l - 1) y ≡ k → ⊥
  pub stop : r < w → p r y ≡ k → ⊥

pub record Box (w h : ℕ) (t : Tile) : Type 0 where
  pub wide : t.left < t.right
  pub tall : t.bottom < t.top
  pub inside : t.right ≤ w
  pub under : t.top ≤ h

abbrev pub RunOf : ℕ → Picture → Tile → ℕ → Type 0
RunOf w p t y = Run w p t.left t.right t.kind y

-- a tile is a longest stack of one run
pub record Strip (w h : ℕ) (p : Picture) (t : Tile) : Type 0 where
  pub box : Box w h t
  pub rows : (y : ℕ) → t.bottom ≤ y → y < t.top → RunOf w p t y
  pub below : 0 < t.bottom → RunOf w p t (t.bottom - 1) → ⊥
  pub above : t.top < h → RunOf w p t t.top → ⊥

pub record Holds (t : Tile) (x y : ℕ) : Type 0 where
  pub from_left : t.left ≤ x
  pub to_right : x < t.right
  pub from_bottom : t.bottom ≤ y
  pub to_top : y < t.top

-- by bottom, then left
abbrev pub Precedes : Tile → Tile → Type 0
Precedes s t = (s.bottom < t.bottom) ⊎ ((s.bottom ≡ t.bottom) × (s.left < t.left))

abbrev pub Ordered : List Tile → Type 0
Ordered [] = Unit {0}
Ordered (t ∷ ts) = ((u : Tile) → Memᴰ u ts → Precedes t u) × Ordered ts

pub record Strips (w h : ℕ) (p : Picture) (ts : List Tile) : Type 0 where
  pub ordered : Ordered ts
  pub each : (t : Tile) → Memᴰ t ts → Strip w h p t
  pub cover : (x y : ℕ) → x < w → y < h → (t : Tile) × Memᴰ t ts × Holds t x y
