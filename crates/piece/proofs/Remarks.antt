-- The marks of a piece: the local picture decides the marks of all squares within the halo of the block, and their rows of bits, stamped over the errors, are what a check of the piece makes.
use Prim.Native.Nat.{ℕ, ◌+◌, ◌-◌, ◌*◌, ◌%◌, ◌<◌, ◌≤◌}
use native.Mathlib.Omega.{arith}
use mathlib.Core.Bool.{Bool, true, false, cond}
use mathlib.Core.List.{List}
use mathlib.Core.Path.{◌≡◌, refl, sym, ◌∙◌, ap, subst}
use lib.ListN.{get_or, replicate, length-replicate, get_or-replicate}
use Rattle.plane.specs.Picture.{Picture, area, in_area, bit_of, stamped}
use Rattle.plane.specs.Words.{width, height, kinds, picture_of}
use Rattle.plane.specs.Area.{AreaIn}
use Rattle.rules.specs.declared.rule.Rule.{Rule}
use Rattle.rules.specs.Some.{some_of, Every}
use Rattle.rules.specs.Words.{sound_at, rule_at, rules_of, Reaches}
use Rattle.rules.specs.Forbid.{forbids, forbidden}
use Rattle.rules.proofs.Searches.{same_truth}
use Rattle.rules.proofs.Vetted.{sound_apart, sound_deep, sound_side, halo_reaches, halo_small}
use Rattle.rules.proofs.Window.{within, area_of}
use Rattle.piece.specs.Cut.{CutOut, placed}
use Rattle.edges.specs.Edge.{Marked, flat}
use Rattle.edges.specs.Near.{Ruled, sweeps}
use Rattle.piece.specs.Remark.{near_block, full_mark, remarked, low_end, high_end, near_area, BlockIn, Checkable}
use Rattle.piece.specs.Rows.{BitRows, PieceRows}
use Rattle.piece.proofs.Exchange.{sweeps_is}
use Rattle.piece.proofs.Views.{cut_forbids}

-- ---- what a piece to check promises
pub ruled : {ws rules : List ℕ} {used k bx by : ℕ} → Checkable ws rules used k bx by → Ruled rules used
unfolding sound_at
ruled {ws} {rules} {used} c = record {
  sized = omega (arith, c.listed.room);
  few = omega (arith, c.listed);
  deep = λ i u. sound_deep (kinds ws) (rule_at rules i) (c.sound i u);
  side = λ i u. sound_side (kinds ws) (rule_at rules i) (c.sound i u);
  apart = λ i u. sound_apart (kinds ws) (rule_at rules i) (c.sound i u);
}

pub block_in : {ws rules : List ℕ} {used k bx by : ℕ} → Checkable ws rules used k bx by → BlockIn (width ws) (height ws) bx by
block_in c = record { column = c.column; row = c.row; wide = c.plane.header.sizes.wide_most; tall = c.plane.header.sizes.tall_most }

pub halo_in : {ws rules : List ℕ} {used k bx by : ℕ} → Checkable ws rules used k bx by → k ≤ 16
halo_in {ws} {rules} {used} c = omega (arith, c.halo, halo_small rules used (kinds ws) c.sound)

pub rules_near : {ws rules : List ℕ} {used k bx by : ℕ} → Checkable ws rules used k bx by → Every (Reaches k) (rules_of rules used)
rules_near {ws} {rules} {used} c = subst (λ (z : ℕ). Every (Reaches z) (rules_of rules used)) (sym c.halo) (halo_reaches rules used)

-- ---- the area near a block
-- it is an area of the window, and for a halo at most 48 by 48
pub near_in : {w h bx by : ℕ} (k : ℕ) → BlockIn w h bx by → AreaIn w h (near_area w h k bx by)
near_in k i = record { some_x = omega (arith, i.column); some_y = omega (arith, i.row); in_x = omega arith; in_y = omega arith }

pub near_small : (w k b : ℕ) → k ≤ 16 → high_end w k b ≤ low_end k b + 48
near_small w k b l = omega arith

-- where it begins in the local picture, and how long it is, in one direction
pub near_placed : (w k b : ℕ) {x0 x1 x2 n : ℕ} → k ≤ 16 → 16 * b < w → x1 ≡ low_end k b → x2 ≡ high_end w k b → x0 ≡ placed b x1 → n ≡ x2 - x1
    → (x0 + 16 * b ≡ low_end k b + 33) × (n ≡ high_end w k b - low_end k b) × (n ≤ 48) × (x0 + n ≤ 82)
near_placed w k b l g e f p q = (omega arith, omega arith, omega arith, omega arith)

-- its squares are those of the window within k of the block
pub near_same : (w h k bx by x y : ℕ) → x < w → y < h → in_area (near_area w h k bx by) x y ≡ near_block k bx by x y
unfolding near_block
near_same w h k bx by x y lx ly =
    let wide = area (16 * bx) (16 * by) (16 * bx + 16 + k + k) (16 * by + 16 + k + k) in
    same_truth (in_area (near_area w h k bx by) x y) (in_area wide (x + k) (y + k))
    (λ f. let i = within (near_area w h k bx by) x y f in
    area_of wide (x + k) (y + k)
    (record { left_of = omega (arith, i.left_of); right_of = omega (arith, i.right_of); low = omega (arith, i.low); high = omega (arith, i.high) }))
    (λ f. let i = within wide (x + k) (y + k) f in
    area_of (near_area w h k bx by) x y
    (record { left_of = omega (arith, i.left_of); right_of = omega (arith, i.right_of, lx); low = omega (arith, i.low); high = omega (arith, i.high, ly) }))

-- ---- marks
-- the marks of the sweeps are what the rules forbid on the local picture
judged : (ks ws : List ℕ) (n : ℕ) (m : List ℕ) → Ruled ws n → Marked (sweeps ks ws n) (replicate 6724 0) m → (q : ℕ) → 1411 ≤ q → q ≤ 5312
    → get_or m q 0 ≡ cond (some_of (rules_of ws n) (forbids (flat ks q))) 1 0
judged ks ws n m ok a q lo hi =
    let l : q < 6724 = omega arith in
    a.mark q (rw (length-replicate {A = ℕ} 6724 0) l)
    ∙ ap (λ z. cond (sweeps ks ws n q) 1 z) (get_or-replicate 6724 q 0 0 l)
    ∙ ap (λ b. cond b 1 0) (sweeps_is ks ws n ok q lo hi)

odd : (b : Bool) → cond b 1 0 % 2 ≡ cond b 1 0
odd true = refl
odd false = refl

-- column (or row) x of the window, within k of the block at b, in the local picture
abbrev local : ℕ → ℕ → ℕ
local b x = x + 33 - 16 * b

record Inner (k b x : ℕ) : Type 0 where
  place : 33 + x ≡ 16 * b + local b x
  low : 32 - 2 * k + k ≤ local b x
  high : local b x + k < 50 + 2 * k
  inner_low : 17 ≤ local b x
  inner_high : local b x < 65

inner : (w k b x : ℕ) → k ≤ 16 → low_end k b ≤ x → x < high_end w k b → Inner k b x
inner w k b x l g m =
    let a : 16 * b ≤ x + k = omega arith in
    let c : x < 16 * b + 16 + k = omega (arith, m) in
    near k b x l a c
  where
    near : (k b x : ℕ) → k ≤ 16 → 16 * b ≤ x + k → x < 16 * b + 16 + k → Inner k b x
    near k b x l a c = record { place = omega arith; low = omega arith; high = omega arith; inner_low = omega arith; inner_high = omega arith }

-- the place of x in its row, and in the local picture
from_low : (w k b x x0 nx : ℕ) → low_end k b ≤ x → x < high_end w k b → x0 + 16 * b ≡ low_end k b + 33 → nx ≡ high_end w k b - low_end k b → (x - low_end k b < nx) × (x0 + (x - low_end k b) ≡ local b x)
from_low w k b x x0 nx g m e f = (less (low_end k b) (high_end w k b) x nx g m f, same (low_end k b) (16 * b) x x0 g e)
  where
    less : (l t x n : ℕ) → l ≤ x → x < t → n ≡ t - l → x - l < n
    less l t x n a b e = omega arith

    same : (l o x x0 : ℕ) → l ≤ x → x0 + o ≡ l + 33 → x0 + (x - l) ≡ x + 33 - o
    same l o x x0 a e = omega arith

module _ {ws rules : List ℕ} {used k bx by : ℕ} {ks m rows : List ℕ} {x0 y0 nx ny : ℕ} (C : Checkable ws rules used k bx by)
    (cut : CutOut (32 - 2 * k) (50 + 2 * k) (width ws) (height ws) (picture_of ws) (16 * bx) (16 * by) ks) (marked : Marked (sweeps ks rules used) (replicate 6724 0) m)
    (ex : x0 + 16 * bx ≡ low_end k bx + 33) (ey : y0 + 16 * by ≡ low_end k by + 33) (fx : nx ≡ high_end (width ws) k bx - low_end k bx) (fy : ny ≡ high_end (height ws) k by - low_end k by)
    (b : BitRows m x0 y0 nx ny rows) where
  mark_at : (x y : ℕ) → low_end k bx ≤ x → x < high_end (width ws) k bx → low_end k by ≤ y → y < high_end (height ws) k by
      → bit_of (get_or rows (y - low_end k by) 0) (x - low_end k bx) ≡ full_mark (width ws) (height ws) (picture_of ws) (rules_of rules used) x y
  mark_at x y a₁ a₂ a₃ a₄ =
      let small = halo_in C in
      let u = inner (width ws) k bx x small a₁ a₂ in
      let v = inner (height ws) k by y small a₃ a₄ in
      let s = from_low (width ws) k bx x x0 nx a₁ a₂ ex fx in
      let t = from_low (height ws) k by y y0 ny a₃ a₄ ey fy in
      (b.row (y - low_end k by) t.0).bits (x - low_end k bx) s.0
      ∙ ap (λ z. get_or m z 0 % 2) (place (y0 + (y - low_end k by)) x0 (x - low_end k bx) (local bx x) (local by y) t.1 s.1)
      ∙ ap (λ z. z % 2) (judged ks rules used m (ruled C) marked (local by y * 82 + local bx x) (first u v) (last u v)
      ∙ ap (λ b. cond b 1 0)
      (cut_forbids k (32 - 2 * k) (50 + 2 * k) (width ws) (height ws) (picture_of ws) (16 * bx) (16 * by) ks cut (fits k small) x y (local bx x) (local by y)
      u.place v.place u.low u.high v.low v.high (rules_of rules used) (rules_near C)))
      ∙ odd (forbidden (width ws) (height ws) (picture_of ws) (rules_of rules used) x y)
    where
      place : (r x0 d u v : ℕ) → r ≡ v → x0 + d ≡ u → r * 82 + x0 + d ≡ v * 82 + u
      place r x0 d u v e f = omega arith

      fits : (k : ℕ) → k ≤ 16 → 50 + 2 * k ≤ 82
      fits k l = omega arith

      corner : (u v : ℕ) → 17 ≤ u → 17 ≤ v → 1411 ≤ v * 82 + u
      corner u v a b = omega arith

      opposite : (u v : ℕ) → u < 65 → v < 65 → v * 82 + u ≤ 5312
      opposite u v a b = omega arith

      first : Inner k bx x → Inner k by y → 1411 ≤ local by y * 82 + local bx x
      first u v = corner (local bx x) (local by y) u.inner_low v.inner_low

      last : Inner k bx x → Inner k by y → local by y * 82 + local bx x ≤ 5312
      last u v = opposite (local bx x) (local by y) u.inner_high v.inner_high

  pub rows_marked : PieceRows (width ws) (height ws) (picture_of ws) (rules_of rules used) k bx by rows
  rows_marked = record {
    long = b.long;
    mark = mark_at;
    narrow = λ r l. rw fx at (b.row r (omega (arith, fy, l))).small;
    rest = λ r l. b.rest r (omega (arith, fy, l));
  }

-- stamped over the errors, the rows of a piece make what a check of the piece makes
pub stamped_piece : {w h : ℕ} {p : Picture} {rs : List Rule} {k bx by : ℕ} {rows : List ℕ} (e : Picture) → PieceRows w h p rs k bx by rows → (x y : ℕ) → x < w → y < h
    → stamped e (near_area w h k bx by) rows x y ≡ remarked w h p rs k bx by e x y
unfolding stamped remarked
stamped_piece {w} {h} {p} {rs} {k} {bx} {by} {rows} e q x y lx ly = go (in_area (near_area w h k bx by) x y) refl
  where
    same : in_area (near_area w h k bx by) x y ≡ near_block k bx by x y
    same = near_same w h k bx by x y lx ly

    go : (b : Bool) → in_area (near_area w h k bx by) x y ≡ b → stamped e (near_area w h k bx by) rows x y ≡ remarked w h p rs k bx by e x y
    go true f =
        let i = within (near_area w h k bx by) x y f in
        ap (λ z. cond z (bit_of (get_or rows (y - low_end k by) 0) (x - low_end k bx)) (e x y)) f
        ∙ q.mark x y i.left_of i.right_of i.low i.high
        ∙ ap (λ z. cond z (full_mark w h p rs x y) (e x y)) (sym f ∙ same)
    go false f =
        ap (λ z. cond z (bit_of (get_or rows (y - low_end k by) 0) (x - low_end k bx)) (e x y)) f
        ∙ ap (λ z. cond z (full_mark w h p rs x y) (e x y)) (sym f ∙ same)
