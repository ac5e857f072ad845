-- A table that shows rows of bits in an area, as a stamp of these rows would leave it.
use Rattle.std.specs.Prelude.{ℕ, ◌+◌, ◌-◌, ◌^◌, ◌<◌, ◌≤◌, cond, List, ◌≡◌, eqb, get_or}
use Rattle.plane.specs.declared.tile.Area.{Area}
use Rattle.plane.specs.Area.{AreaIn}
use Rattle.plane.specs.Picture.{Picture, bit_of}
use Rattle.plane.specs.Plane.{Plane}
use Rattle.plane.specs.Words.{width, height, kinds}

-- each square (x,y) of the area is bit x - x1 of row y - y1
abbrev pub ShowsRows : Picture → Area → List ℕ → Type 0
ShowsRows p a rows = (x y : ℕ) → a.x1 ≤ x → x < a.x2 → a.y1 ≤ y → y < a.y2 → bit_of (get_or rows (y - a.y1) 0) (x - a.x1) ≡ p x y

-- the words of a table with two types, and an area of its window, at most 48 by 48
pub record Readable (ws : List ℕ) (a : Area) : Type 0 where
  pub plane : Plane ws
  pub two : kinds ws ≡ 2
  pub inside : AreaIn (width ws) (height ws) a
  pub columns : a.x2 ≤ a.x1 + 48
  pub rows : a.y2 ≤ a.y1 + 48

-- ---- steps
-- a word with its bits from `from` up to `to` set, if the type k is 1
abbrev pub with_run : ℕ → ℕ → ℕ → ℕ → ℕ
with_run k word from to = cond (eqb k 1) (word + (2 ^ to - 2 ^ from)) word

-- the word has the bits of each row of the area up to `top`, and no other
pub record RowShown (p : Picture) (a : Area) (word top : ℕ) : Type 0 where
  pub small : word < 2 ^ (a.x2 - a.x1)
  pub some : a.y1 < top
  pub most : top ≤ a.y2
  pub bits : (x y : ℕ) → a.x1 ≤ x → x < a.x2 → a.y1 ≤ y → y < top → bit_of word (x - a.x1) ≡ p x y

-- the rows from `from` up to `to` are all one word
abbrev pub SameWords : List ℕ → ℕ → ℕ → ℕ → Type 0
SameWords rows from to word = (i : ℕ) → from ≤ i → i < to → get_or rows i 0 ≡ word
