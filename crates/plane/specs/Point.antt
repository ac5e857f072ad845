-- What a point query answers.
use Rattle.std.specs.Prelude.{Option, Some, None, ℕ, ◌≤◌, ◌<◌, ◌≡◌, List, [], ◌∷◌, length}
use Rattle.plane.specs.Words.{count, width, height, word, number_at, TableLength, PictureTable}
use Rattle.plane.specs.Plane.{Names}
use Rattle.plane.specs.Refusal.{◌unless◌, Outcome}

-- the square lies in a window w by h
pub record SquareIn (w h x y : ℕ) : Type 0 where
  pub in_x : x < w
  pub in_y : y < h

-- the words are a picture's table, w by h
pub record TableOf (w h : ℕ) (ws : List ℕ) : Type 0 where
  pub table : PictureTable ws
  pub wide : width ws ≡ w
  pub tall : height ws ≡ h

-- when point says no
abbrev pub point_refusals : List ℕ → ℕ → ℕ → ℕ → ℕ → List (ℕ × Type 0)
point_refusals ws w h x y =
    1 unless TableLength (length ws)
    ∷ 3 unless TableOf w h ws
    ∷ 6 unless SquareIn w h x y
    ∷ []

-- point on the words of a table, w by h: its number, and the number of the tile that holds the square
pub record Pointed (ws : List ℕ) (w h x y : ℕ) (answer tile : ℕ) : Type 0 where
  pub outcome : Outcome (point_refusals ws w h x y) 0 (number_at ws x y) answer tile

-- a look-up in a table that is known to be one: the tile, or the square is outside
abbrev pub FoundAt : List ℕ → ℕ → ℕ → Option ℕ → Type 0
FoundAt ws x y (Some i) = Names ws i x y
FoundAt ws x y None = SquareIn (width ws) (height ws) x y → ⊥

-- tile i has squares on row y
pub record OnRow (ws : List ℕ) (i y : ℕ) : Type 0 where
  pub counted : i < count ws
  pub low : word ws i 1 ≤ y
  pub high : y < word ws i 3
