-- A tile that the code has read: it is within its ranges, reaches past the square that it was found by, and shows its type.
use Prim.Native.Nat.{ℕ, ◌<◌, ◌≤◌, min}
use native.Mathlib.Omega.{arith}
use mathlib.Core.List.{List}
use mathlib.Core.Path.{◌≡◌, ap}
use Rattle.plane.specs.declared.tile.Tile.{Tile}
use Rattle.plane.specs.Words.{count, word, tile_of, picture_of}
use Rattle.plane.specs.Plane.{Plane, Names, Boxed}
use Rattle.plane.proofs.ToTable.{shown}

pub tile_fits : {ws : List ℕ} {i : ℕ} {t : Tile} → Plane ws → i < count ws → t ≡ tile_of ws i → Boxed 4096 4096 16 t
tile_fits {ws} {i} P l e =
    let b = P.boxes.box i l in
    let k = P.boxes.type i l in
    let s = P.header.sizes in
    rw e (record {
      box = record { wide = b.wide; tall = b.tall; inside = omega (arith, b.inside, s.wide_most); under = omega (arith, b.under, s.tall_most) };
      type = omega (arith, k, s.sixteen);
    })

-- the tile that holds a square reaches past its column
pub tile_end : {ws : List ℕ} {i j x y x2 r : ℕ} {t : Tile} → Names ws i x y → j ≡ i → t ≡ tile_of ws j → r ≡ min t.right x2 → x < x2 → (x < r) × (r ≤ x2)
tile_end {ws} {i} {j} {x} {y} {x2} {r} {t} N e f g l =
    let a : word ws j 2 ≡ word ws i 2 = ap (λ (n : ℕ). word ws n 2) e in
    let b : t.right ≡ word ws j 2 = ap (λ (s : Tile). s.right) f in
    (omega (arith, N.held.to_right), omega arith)

-- and shows its type from there to its right end and its top
pub tile_shows : {ws : List ℕ} {x y : ℕ} → Plane ws → (j : ℕ) → Names ws j x y → (x' z : ℕ) → x ≤ x' → x' < word ws j 2 → y ≤ z → z < word ws j 3 → picture_of ws x' z ≡ word ws j 4
tile_shows {ws} P j N x' z p q s t = shown ws P j x' z N.counted
    (record { from_left = omega (arith, N.held.from_left); to_right = q; from_bottom = omega (arith, N.held.from_bottom); to_top = t })
