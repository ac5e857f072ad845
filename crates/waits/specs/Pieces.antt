-- The pieces of a window, blocks of 16 by 16 squares: which of them wait or are touched, the lowest, and how many they are.
use Rattle.std.specs.Prelude.{ℕ, ◌+◌, ◌*◌, ◌/◌, ◌%◌, ◌<◌, ◌≤◌, Bool, true, false, not, cond, ◌&&◌, ◌≡◌, ◌⊎◌, eqb, ltb, Option, Some, None}
use Rattle.plane.specs.declared.tile.Area.{Area}
use Rattle.plane.specs.Picture.{Picture, extent, in_area, sum_to}
use Rattle.rules.specs.Some.{some}
use Rattle.waits.specs.declared.block.Block.{Block}

-- the piece at column bx, row by
abbrev pub block : ℕ → ℕ → Block
block bx by = record { x = bx; y = by }

-- how many blocks lie side by side over n squares
abbrev pub blocks : ℕ → ℕ
blocks n = (n + 15) / 16

-- does some square of the block at column bx, row by pass the test
unfoldable pub some_in : ℕ → ℕ → (ℕ → ℕ → Bool) → Bool
some_in bx by f = some 16 λ v. some 16 λ u. f (16 * bx + u) (16 * by + v)

-- how many blocks of a window w by h pass the test
unfoldable pub pieces : ℕ → ℕ → (ℕ → ℕ → Bool) → ℕ
pieces w h f = sum_to (blocks h) λ by. sum_to (blocks w) λ bx. cond (f bx by) 1 0

-- is (x,y) a square of the window
unfoldable pub in_window : ℕ → ℕ → ℕ → ℕ → Bool
in_window w h x y = ltb x w && ltb y h

-- does a square of the window wait
unfoldable pub waits_at : ℕ → ℕ → Picture → ℕ → ℕ → Bool
waits_at w h p x y = in_window w h x y && not (eqb (p x y) 0)

-- does the piece at column bx, row by hold a waiting square
unfoldable pub piece_waits : ℕ → ℕ → Picture → ℕ → ℕ → Bool
piece_waits w h p bx by = some_in bx by (waits_at w h p)

-- how many pieces wait
unfoldable pub waiting_pieces : ℕ → ℕ → Picture → ℕ
waiting_pieces w h p = pieces w h (piece_waits w h p)

-- does the area share a square of the window with the piece at column bx, row by
unfoldable pub touches : ℕ → ℕ → Area → ℕ → ℕ → Bool
touches w h a bx by = some_in bx by λ x y. in_window w h x y && in_area a x y

-- how many pieces an area touches
unfoldable pub touched : ℕ → ℕ → Area → ℕ
touched w h a = pieces w h (touches w h a)

-- the number of the lowest waiting piece, by row and then column; that of all pieces where none waits
unfoldable pub lowest_piece : ℕ → ℕ → Picture → ℕ
lowest_piece w h p = extent (λ n. not (piece_waits w h p (n % blocks w) (n / blocks w))) 0 (blocks w * blocks h)

-- that piece by column and row
unfoldable pub lowest_block : ℕ → ℕ → Picture → Option Block
lowest_block w h p =
    cond (ltb (lowest_piece w h p) (blocks w * blocks h)) (Some (block (lowest_piece w h p % blocks w) (lowest_piece w h p / blocks w))) None

-- the same in words: it waits, and each other that waits is in a higher row, or in its row and further right
pub record Lowest (w h : ℕ) (p : Picture) (bx by : ℕ) : Type 0 where
  pub column : 16 * bx < w
  pub row : 16 * by < h
  pub waits : piece_waits w h p bx by ≡ true
  pub least : (cx cy : ℕ) → piece_waits w h p cx cy ≡ true → (by < cy) ⊎ ((by ≡ cy) × (bx ≤ cx))

abbrev pub LowestOf : ℕ → ℕ → Picture → Option Block → Type 0
LowestOf w h p (Some b) = Lowest w h p b.x b.y
LowestOf w h p None = (bx by : ℕ) → piece_waits w h p bx by ≡ false
