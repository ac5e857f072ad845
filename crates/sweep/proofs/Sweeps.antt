-- Clearing left of x, row after row over space, adds at most two strips a row. On the row itself strips begin anew at the left side and at x only; one that begins anew on the row above stood on one that began on the row.
use Prim.Native.Nat.{ℕ, zero, suc, ◌+◌, ◌-◌, ◌*◌, ◌≤◌, ◌<◌}
use native.Mathlib.Omega.{arith}
use mathlib.Core.Bool.{Bool, true, false, cond}
use mathlib.Core.List.{[], ◌∷◌}
use mathlib.Core.Path.{◌≡◌, refl, sym, ◌∙◌, ap}
use mathlib.Core.Logic.{◌⊎◌, inl, inr, ⊎_elim}
use lib.Dec.{eqb}
use lib.ListN.{length}
use borrow.Author.Tests.{eq-eqb}
use Rattle.plane.specs.declared.tile.Area.{Area}
use Rattle.plane.specs.Picture.{Picture, area, begins, cell, corner, in_area, joined, painted, run_end, same_run, sum_to, tiles}
use Rattle.plane.specs.Strips.{Run}
use Rattle.plane.proofs.Basics.{bool_cases, eq_or_ne, lt_or_ge, tf, is_false}
use Rattle.plane.proofs.Counting.{sum_add, sum_at, sum_eq, sum_le, sum_pair, sum_split, length_joined}
use Rattle.plane.proofs.FromTable.{tiles_agree}
use Rattle.plane.proofs.Runs.{begins_start, end_past, end_within, run_here, run_right, run_same, same_run_lem, start_begins}
use Rattle.plane.proofs.Tiling.{below_corner, corner_begins, corner_below, strip_at}
use Rattle.rules.proofs.Sets.{bit}
use Rattle.rules.proofs.Searches.{same_truth}
use Rattle.rules.proofs.Window.{Within, area_of, within}
use Rattle.piece.proofs.Counts.{bit_le, bit_split}

-- ---- strips are counted by their corners
-- 1 where a strip begins at place i of row j
abbrev begun : ℕ → Picture → ℕ → ℕ → ℕ
begun w p j i = bit (corner w p i j)

-- the strips that begin on row j
abbrev row_begun : ℕ → Picture → ℕ → ℕ
row_begun w p j = sum_to w (begun w p j)

tiles_count : (w h : ℕ) (p : Picture) → length (tiles w h p) ≡ sum_to h (row_begun w p)
unfolding tiles cell
tiles_count w h p =
    length_joined h (λ y. joined w (cell w h p y))
    ∙ sum_eq h (λ y. length (joined w (cell w h p y))) (row_begun w p)
    (λ y v. length_joined w (cell w h p y) ∙ sum_eq w (λ x. length (cell w h p y x)) (begun w p y) (λ x u. one (corner w p x y) x y))
  where
    one : (b : Bool) (x y : ℕ) → length (cond b (strip_at w h p x y ∷ []) []) ≡ bit b
    one true x y = refl
    one false x y = refl

-- ---- where strips begin
-- a run at which no strip begins is the run below, too
no_corner : (w : ℕ) (p : Picture) (i j e k : ℕ) → i < e → e ≤ w → Run w p i e k j → corner w p i j ≡ false → (0 < j) × Run w p i e k (j - 1)
no_corner w p i j e k l m r n =
    let hi : i < w = omega arith in
    let s : p i j ≡ k = r.all i (omega arith) l in
    let b : begins p i j ≡ true = start_begins p i j (λ a t. r.start a (t ∙ s)) in
    let v = run_here w p i j hi b in
    let c = end_past w p i j hi in
    let d : run_end w p i j ≡ e = omega (arith, run_right r v i (omega arith) l (omega arith) c (end_within w p i j hi), run_right v r i (omega arith) c (omega arith) l m) in
    ⊎_elim
    (λ (z : 0 < j). (z, ⊎_elim (λ f. rw (← s, ← d) (same_run_lem w p i j (j - 1) hi f)) (λ f. tf (sym (below_corner w p i j b (λ a. f)) ∙ n)) (bool_cases (same_run w p i j (j - 1)))))
    (λ (z : j ≤ 0). tf (sym (below_corner w p i j b (λ a. absurd (omega arith))) ∙ n))
    (lt_or_ge 0 j)

-- a row that shows at each square, from the one before i on, what one of two rows shows has the runs at i that both have
run_mixed : {w : ℕ} {p q : Picture} {i e k j m n : ℕ} → ((c : ℕ) → i ≤ c + 1 → c < w → (q c n ≡ p c j) ⊎ (q c n ≡ p c m)) → i < e → e ≤ w → Run w p i e k j → Run w p i e k m → Run w q i e k n
run_mixed {w} {p} {q} {i} {e} {k} {j} {m} {n} mixed l f r s = record {
  all = λ c a b. ⊎_elim (λ t. t ∙ r.all c a b) (λ t. t ∙ s.all c a b) (mixed c (omega arith) (omega arith));
  start = λ a z. ⊎_elim (λ t. r.start a (sym t ∙ z)) (λ t. s.start a (sym t ∙ z)) (mixed (i - 1) (omega arith) (omega arith));
  stop = λ a z. ⊎_elim (λ t. r.stop a (sym t ∙ z)) (λ t. s.stop a (sym t ∙ z)) (mixed e (omega arith) a);
}

run_as : {w : ℕ} {p q : Picture} {i e k j n : ℕ} → ((c : ℕ) → i ≤ c + 1 → q c n ≡ p c j) → i < e → e ≤ w → Run w p i e k j → Run w q i e k n
run_as same l f r = run_mixed (λ c a b. inl (same c a)) l f r r

-- q's run is p's, and p has no run below that q has not: a strip that begins in q begins in p
corner_kept : (w : ℕ) (p q : Picture) (i j : ℕ) → i < w
    → ((e k : ℕ) → i < e → e ≤ w → Run w q i e k j → Run w p i e k j)
    → ((e k : ℕ) → i < e → e ≤ w → Run w p i e k (j - 1) → Run w q i e k (j - 1))
    → corner w q i j ≡ true → corner w p i j ≡ true
corner_kept w p q i j hi here under c = ⊎_elim (λ t. t)
    (λ f.
    let e = run_end w q i j in
    let l = end_past w q i j hi in
    let m = end_within w q i j hi in
    let b = no_corner w p i j e (q i j) l m (here e (q i j) l m (run_here w q i j hi (corner_begins w q i j c))) f in
    tf (sym (run_same w q i j (j - 1) hi (under e (q i j) l m b.1)) ∙ corner_below w q i j c b.0))
    (bool_cases (corner w p i j))

-- ---- one row
-- q is p with the squares of row r left of x cleared, and those below them are space
record Cleared (w x r : ℕ) (p q : Picture) : Type 0 where
  other : (i j : ℕ) → (j ≡ r → ⊥) → q i j ≡ p i j
  right : (i : ℕ) → x ≤ i → q i r ≡ p i r
  left : (i : ℕ) → i < x → q i r ≡ 0
  below : (i : ℕ) → i < w → i < x → 0 < r → p i (r - 1) ≡ 0

-- 1 at the left side, and 1 at x
abbrev ends : ℕ → ℕ → ℕ
ends x i = bit (eqb i 0) + bit (eqb i x)

two_ends : (w x : ℕ) → sum_to w (ends x) ≤ 2
two_ends w x = omega (arith, sum_add w (λ i. bit (eqb i 0)) (λ i. bit (eqb i x)), sum_at w 0, sum_at w x)

module _ (w x r : ℕ) (p q : Picture) (C : Cleared w x r p q) where
  -- right of x a strip that begins did so before
  beside : (i j : ℕ) → i < w → x < i → corner w q i j ≡ true → corner w p i j ≡ true
  beside i j hi l = corner_kept w p q i j hi (λ e k. run_as (λ c a. sym (shown c j (omega arith)))) (λ e k. run_as (λ c a. shown c (j - 1) (omega arith)))
    where
      shown : (c n : ℕ) → x ≤ c → q c n ≡ p c n
      shown c n a = ⊎_elim (λ (t : n ≡ r). rw t (C.right c a)) (λ t. C.other c n t) (eq_or_ne n r)

  -- and so on any row but r and the one above
  elsewhere : (i j : ℕ) → i < w → (j ≡ r → ⊥) → (j ≡ suc r → ⊥) → corner w q i j ≡ true → corner w p i j ≡ true
  elsewhere i j hi a b = corner_kept w p q i j hi (λ e k. run_as (λ c u. sym (C.other c j a))) (λ e k. run_as (λ c u. C.other c (j - 1) (λ t. omega (arith, a, b))))

  -- a run that p has on row r and below stays on row r: its squares left of x were space
  stays : (i e k : ℕ) → i < e → e ≤ w → Run w p i e k r → corner w p i r ≡ false → Run w q i e k r
  stays i e k l m b f =
      let d = no_corner w p i r e k l m b f in
      run_mixed (λ c a u. ⊎_elim (λ (t : c < x). inr (C.left c t ∙ sym (C.below c u t d.0))) (λ (t : x ≤ c). inl (C.right c t)) (lt_or_ge c x)) l m b d.1

  -- so a strip that begins above row r began there, or on row r
  above : (i : ℕ) → i < w → corner w q i (suc r) ≡ true → (corner w p i (suc r) ≡ true) ⊎ (corner w p i r ≡ true)
  above i hi c =
      let s : suc r - 1 ≡ r = omega arith in
      ⊎_elim (λ t. inr t)
      (λ f. inl (corner_kept w p q i (suc r) hi (λ e k. run_as (λ c u. sym (C.other c (suc r) (λ t. omega arith)))) (λ e k l m b. rw s (stays i e k l m (rw s at b) f)) c))
      (bool_cases (corner w p i r))

  -- up to x a strip of row r begins at the left side or at x
  at_ends : (i : ℕ) → i ≤ x → corner w q i r ≡ true → (eqb i 0 ≡ true) ⊎ (eqb i x ≡ true)
  at_ends i l c = ⊎_elim
      (λ (t : i < x). inl (eq-eqb i 0 (⊎_elim (λ (u : 0 < i). absurd (begins_start q i r (corner_begins w q i r c) u (C.left (i - 1) (omega arith) ∙ sym (C.left i t)))) (λ (u : i ≤ 0). omega arith) (lt_or_ge 0 i))))
      (λ (t : x ≤ i). inr (eq-eqb i x (omega arith)))
      (lt_or_ge i x)

  -- at each place: on row r, and on it and the row above
  here : (i : ℕ) → i < w → (begun w q r i ≤ begun w p r i + ends x i) × (begun w q r i + begun w q (suc r) i ≤ begun w p r i + begun w p (suc r) i + ends x i)
  here i hi = ⊎_elim
      (λ (l : x < i).
      let a = bit_le (corner w q i r) (corner w p i r) (beside i r hi l) in
      let b = bit_le (corner w q i (suc r)) (corner w p i (suc r)) (beside i (suc r) hi l) in
      (omega arith, omega arith))
      (λ (l : i ≤ x).
      let a = bit_split (corner w q i r) (eqb i 0) (eqb i x) (at_ends i l) in
      let b = bit_split (corner w q i (suc r)) (corner w p i (suc r)) (corner w p i r) (above i hi) in
      (omega arith, omega arith))
      (lt_or_ge x i)

  row_here : row_begun w q r ≤ row_begun w p r + 2
  row_here = omega (arith, two_ends w x, sum_split w (begun w q r) (begun w p r) (ends x) (λ i l. (here i l).0))

  rows_here : row_begun w q r + row_begun w q (suc r) ≤ row_begun w p r + row_begun w p (suc r) + 2
  rows_here =
      let f = sum_split w (λ i. begun w q r i + begun w q (suc r) i) (λ i. begun w p r i + begun w p (suc r) i) (ends x) (λ i l. (here i l).1) in
      omega (arith, f, two_ends w x, sum_add w (begun w q r) (begun w q (suc r)), sum_add w (begun w p r) (begun w p (suc r)))

  row_elsewhere : (j : ℕ) → (j ≡ r → ⊥) → (j ≡ suc r → ⊥) → row_begun w q j ≤ row_begun w p j
  row_elsewhere j a b = sum_le w (begun w q j) (begun w p j) (λ i l. bit_le (corner w q i j) (corner w p i j) (elsewhere i j l a b))

  row_adds : (h : ℕ) → length (tiles w h q) ≤ length (tiles w h p) + 2
  row_adds h = omega (arith, tiles_count w h q, tiles_count w h p, sum_pair h (row_begun w q) (row_begun w p) r 2 row_elsewhere row_here rows_here)

-- ---- row after row
pub painted_in : (p : Picture) (a : Area) (k i j : ℕ) → Within a i j → painted p a k i j ≡ k
unfolding painted
painted_in p a k i j u = rw (area_of a i j u)

pub painted_off : (p : Picture) (a : Area) (k i j : ℕ) → (Within a i j → ⊥) → painted p a k i j ≡ p i j
unfolding painted
painted_off p a k i j f = rw (is_false (in_area a i j) (λ e. f (within a i j e)))

-- a square of both areas or of neither
painted_as : (p : Picture) (a b : Area) (k i j : ℕ) → (Within a i j → Within b i j) → (Within b i j → Within a i j) → painted p a k i j ≡ painted p b k i j
unfolding painted
painted_as p a b k i j f g = rw (same_truth (in_area a i j) (in_area b i j) (λ e. area_of b i j (f (within a i j e))) (λ e. area_of a i j (g (within b i j e))))

-- n rows from y on, left of x
abbrev rows_of : ℕ → ℕ → ℕ → Area
rows_of x y n = area 0 y x (y + n)

module _ (w h : ℕ) (p : Picture) (x y : ℕ) (empty : (i j : ℕ) → i < w → j < y → p i j ≡ 0) where
  next_row : (n : ℕ) → Cleared w x (y + n) (painted p (rows_of x y n) 0) (painted p (rows_of x y (suc n)) 0)
  next_row n = record {
    other = λ i j ne. painted_as p (rows_of x y (suc n)) (rows_of x y n) 0 i j
        (λ u. record { left_of = u.left_of; right_of = u.right_of; low = u.low; high = omega (arith, u.high, ne) })
        (λ u. record { left_of = u.left_of; right_of = u.right_of; low = u.low; high = omega (arith, u.high) });
    right = λ i l. painted_as p (rows_of x y (suc n)) (rows_of x y n) 0 i (y + n) (λ u. absurd (omega (arith, u.right_of))) (λ u. absurd (omega (arith, u.right_of)));
    left = λ i l. painted_in p (rows_of x y (suc n)) 0 i (y + n) (record { left_of = omega arith; right_of = l; low = omega arith; high = omega arith });
    below = λ i u l z.
        ⊎_elim
        (λ (t : y + n - 1 < y). painted_off p (rows_of x y n) 0 i (y + n - 1) (λ v. omega (arith, v.low)) ∙ empty i (y + n - 1) u t)
        (λ (t : y ≤ y + n - 1). painted_in p (rows_of x y n) 0 i (y + n - 1) (record { left_of = omega arith; right_of = l; low = t; high = omega arith }))
        (lt_or_ge (y + n - 1) y);
  }

  rows_add : (n : ℕ) → length (tiles w h (painted p (rows_of x y n) 0)) ≤ length (tiles w h p) + 2 * n
  rows_add zero = omega (arith, ap length (tiles_agree w h (painted p (rows_of x y 0) 0) p (λ i j u v. painted_off p (rows_of x y 0) 0 i j (λ u. omega (arith, u.low, u.high)))))
  rows_add (suc n) = omega (arith, rows_add n, row_adds w x (y + n) (painted p (rows_of x y n) 0) (painted p (rows_of x y (suc n)) 0) (next_row n) h)

-- where the rows below y are space, clearing the rows y .. z - 1 left of x adds at most two strips a row
pub sweep_adds : (w h : ℕ) (p : Picture) (x y z : ℕ) → y ≤ z → ((i j : ℕ) → i < w → j < y → p i j ≡ 0) → length (tiles w h (painted p (area 0 y x z) 0)) ≤ length (tiles w h p) + 2 * (z - y)
sweep_adds w h p x y z l empty = let e : y + (z - y) ≡ z = omega arith in rw e at (rows_add w h p x y empty (z - y))
