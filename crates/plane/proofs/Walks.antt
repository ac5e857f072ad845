-- Steps along a plane's stitches: what lb and rt name, and that the tiles down a tile's right side all begin where it ends, as those up its left side end where it begins.
use Prim.Native.Nat.{ℕ, ◌-◌, ◌≤◌, ◌<◌}
use native.Mathlib.Omega.{arith}
use mathlib.Core.Path.{◌≡◌}
use mathlib.Core.List.{List}
use Rattle.plane.specs.Words.{count, width, height, word}
use Rattle.plane.specs.Plane.{Names, Plane}
use Rattle.plane.specs.Point.{OnRow}
use Rattle.plane.proofs.ToTable.{begins_there, ends_there}

-- a walk down the right side of tile i to row y is at tile k
pub record OnRight (ws : List ℕ) (i y k : ℕ) : Type 0 where
  pub counted : k < count ws
  pub high : y < word ws k 3
  pub joins : word ws k 0 ≡ word ws i 2
  pub meets : word ws k 1 < word ws i 3

-- a walk up the left side of tile i to row y is at tile k
pub record OnLeft (ws : List ℕ) (i y k : ℕ) : Type 0 where
  pub counted : k < count ws
  pub low : word ws k 1 ≤ y
  pub joins : word ws k 2 ≡ word ws i 0
  pub meets : word ws i 1 < word ws k 3

module _ {ws : List ℕ} (P : Plane ws) where
  -- the tile below tile k, which lb names, and the tile above it, which rt names
  pub below : {k r : ℕ} → k < count ws → 0 < word ws k 1 → r ≡ word ws k 5 → Names ws r (word ws k 0) (word ws k 1 - 1)
  below {k} u a e = rw e ((P.stitches k u).lb.0 a)

  pub above : {k r : ℕ} → k < count ws → word ws k 3 < height ws → r ≡ word ws k 8 → Names ws r (word ws k 2 - 1) (word ws k 3)
  above {k} u a e = rw e ((P.stitches k u).rt.0 a)

  module _ {i y : ℕ} (o : OnRow ws i y) where
    -- the tile that holds a square beside tile i, on a row z of both tile i and the walk
    right_at : {k : ℕ} (z : ℕ) → y ≤ z → z < word ws i 3 → Names ws k (word ws i 2) z → OnRight ws i y k
    right_at {k} z a b n = record {
      counted = n.counted;
      high = omega arith;
      joins = begins_there ws P i k z o.counted n.counted (omega arith) b n.held;
      meets = omega arith;
    }

    left_at : {k : ℕ} (z : ℕ) → 0 < word ws i 0 → word ws i 1 ≤ z → z ≤ y → Names ws k (word ws i 0 - 1) z → OnLeft ws i y k
    left_at {k} z u a b n = record {
      counted = n.counted;
      low = omega arith;
      joins = ends_there ws P i k z o.counted n.counted u a (omega arith) n.held;
      meets = omega arith;
    }

    -- a walk begins at the tile that tr or bl names
    pub right_first : {r : ℕ} → word ws i 2 < width ws → r ≡ word ws i 7 → OnRight ws i y r
    right_first u e = rw e (right_at (word ws i 3 - 1) (omega arith) (omega arith) ((P.stitches i o.counted).tr.0 u))

    pub left_first : {r : ℕ} → 0 < word ws i 0 → r ≡ word ws i 6 → OnLeft ws i y r
    left_first u e = rw e (left_at (word ws i 1) u (omega arith) (omega arith) ((P.stitches i o.counted).bl.0 u))

    -- a step of a walk stays at the side, and comes nearer to row y
    pub right_next : {k r : ℕ} → OnRight ws i y k → y < word ws k 1 → r ≡ word ws k 5 → OnRight ws i y r × (word ws r 1 < word ws k 1)
    right_next {k} s a e =
        let n = below s.counted (omega arith) e in
        (right_at (word ws k 1 - 1) (omega arith) (omega arith) (rw s.joins at n), omega arith)

    pub left_next : {k r : ℕ} → 0 < word ws i 0 → OnLeft ws i y k → word ws k 3 ≤ y → r ≡ word ws k 8 → OnLeft ws i y r × (word ws k 3 < word ws r 3)
    left_next {k} u s a e =
        let b = P.boxes.box i o.counted in
        let n = above s.counted (omega arith) e in
        (left_at (word ws k 3) u (omega arith) a (rw s.joins at n), omega arith)
