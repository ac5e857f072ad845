-- Rows of bits read off a table tile by tile: a run of ones above a word leaves the bits below it, a tile shows its type on all its rows, and a stamp of rows that a table shows changes nothing.
use Prim.Native.Nat.{ℕ, zero, suc, ◌+◌, ◌-◌, ◌/◌, ◌^◌, ◌<◌, ◌≤◌, min}
use native.Mathlib.Omega.{arith}
use native.Mathlib.Nat.{pow-succ'}
use mathlib.Core.Bool.{Bool, true, false, cond}
use mathlib.Core.List.{List}
use mathlib.Core.Logic.{◌⊎◌, inl, inr}
use mathlib.Core.Path.{◌≡◌, refl, sym, ◌∙◌, ap}
use lib.ListN.{length, get_or}
use lib.Dec.{eqb}
use borrow.Author.Tests.{eqb-true}
use Rattle.std.proofs.Common.{drop, slice_range, length-drop}
use Rattle.std.specs.List.{list_all}
use Rattle.std.proofs.lemmas.List.{get_or-drop, get_or-take, length-take}
use Rattle.std.proofs.lemmas.List.Elements.{All-get_or}
use Rattle.std.proofs.lemmas.List.Sums.{AllPass-from_list_all}
use lib.Pow.{pow_pos, pow_mono, shr_lt}
use Rattle.piece.specs.declared.run.Run.{Run}
use Rattle.piece.specs.Runs.{RunAt}
use Rattle.plane.specs.declared.tile.Area.{Area}
use Rattle.plane.specs.Picture.{Picture, area, in_area, bit_of, stamped}
use Rattle.plane.specs.Plane.{Plane, Names}
use Rattle.plane.specs.Words.{kinds, word, picture_of}
use Rattle.plane.proofs.Basics.{lt_or_ge}
use Rattle.rules.proofs.Window.{within}
use Rattle.piece.specs.Shown.{Readable, RowShown, SameWords, ShowsRows, with_run}
use Rattle.piece.proofs.Bits.{bit_half}
use Rattle.plane.proofs.Tiles.{tile_shows}

-- ---- a run of ones above a word of d bits, up to bit e
ones_bit : (e i : ℕ) → i < e → bit_of (2 ^ e - 1) i ≡ 1
ones_bit zero i l = absurd (omega arith)
ones_bit (suc e) zero l = omega (arith, pow-succ' 2 e, pow_pos e)
ones_bit (suc e) (suc i) l =
    let h : (2 ^ suc e - 1) / 2 ≡ 2 ^ e - 1 = omega (arith, pow-succ' 2 e, pow_pos e) in
    bit_half (2 ^ suc e - 1) i ∙ ap (λ z. bit_of z i) h ∙ ones_bit e i (omega arith)

half_run : (d e w : ℕ) → d ≤ e → (w + (2 ^ suc e - 2 ^ suc d)) / 2 ≡ w / 2 + (2 ^ e - 2 ^ d)
half_run d e w l = omega (arith, pow-succ' 2 d, pow-succ' 2 e, pow_mono {i = d} {j = e} l)

-- below it the bits stay
ones_below : (d e w i : ℕ) → d ≤ e → i < d → bit_of (w + (2 ^ e - 2 ^ d)) i ≡ bit_of w i
ones_below zero e w i l u = absurd (omega arith)
ones_below (suc d) zero w i l u = absurd (omega arith)
ones_below (suc d) (suc e) w zero l u = omega (arith, pow-succ' 2 d, pow-succ' 2 e, pow_mono {i = d} {j = e} (omega arith))
ones_below (suc d) (suc e) w (suc i) l u =
    bit_half (w + (2 ^ suc e - 2 ^ suc d)) i ∙ ap (λ z. bit_of z i) (half_run d e w (omega arith)) ∙ ones_below d e (w / 2) i (omega arith) (omega arith) ∙ sym (bit_half w i)

-- in it they are 1
ones_in : (d e w i : ℕ) → w < 2 ^ d → d ≤ i → i < e → bit_of (w + (2 ^ e - 2 ^ d)) i ≡ 1
ones_in zero e w i s l u = let f : w + (2 ^ e - 1) ≡ 2 ^ e - 1 = omega arith in ap (λ z. bit_of z i) f ∙ ones_bit e i u
ones_in (suc d) zero w i s l u = absurd (omega arith)
ones_in (suc d) (suc e) w zero s l u = absurd (omega arith)
ones_in (suc d) (suc e) w (suc i) s l u =
    bit_half (w + (2 ^ suc e - 2 ^ suc d)) i ∙ ap (λ z. bit_of z i) (half_run d e w (omega arith)) ∙ ones_in d e (w / 2) i (omega (arith, pow-succ' 2 d)) (omega arith) (omega arith)

-- a bit above the word is 0
none_above : (d w i : ℕ) → w < 2 ^ d → d ≤ i → bit_of w i ≡ 0
none_above d w i s l = let z : w / 2 ^ i < 1 = shr_lt 0 i (let f : 0 + i ≡ i = omega arith in rw f (omega (arith, pow_mono {i = d} {j = i} l))) in omega arith

-- the run of a tile of type k
run_small : (k d e w : ℕ) → k < 2 → w < 2 ^ d → d ≤ e → with_run k w d e < 2 ^ e
run_small zero d e w m s l = omega (arith, pow_mono {i = d} {j = e} l)
run_small (suc zero) d e w m s l = omega (arith, pow_mono {i = d} {j = e} l)
run_small (suc (suc k)) d e w m s l = absurd (omega arith)

run_below : (k d e w i : ℕ) → k < 2 → d ≤ e → i < d → bit_of (with_run k w d e) i ≡ bit_of w i
run_below zero d e w i m l u = refl
run_below (suc zero) d e w i m l u = ones_below d e w i l u
run_below (suc (suc k)) d e w i m l u = absurd (omega arith)

run_in : (k d e w i : ℕ) → k < 2 → w < 2 ^ d → d ≤ i → i < e → bit_of (with_run k w d e) i ≡ k
run_in zero d e w i m s l u = none_above d w i s l
run_in (suc zero) d e w i m s l u = ones_in d e w i s l u
run_in (suc (suc k)) d e w i m s l u = absurd (omega arith)

-- ---- one row
-- what is left of an area from row y on
pub readable_from : {ws : List ℕ} {a : Area} {y : ℕ} → Readable ws a → a.y1 ≤ y → y < a.y2 → Readable ws (area a.x1 y a.x2 a.y2)
readable_from R l g = record {
  plane = R.plane;
  two = R.two;
  inside = record { some_x = R.inside.some_x; some_y = g; in_x = R.inside.in_x; in_y = R.inside.in_y };
  columns = R.columns;
  rows = omega (arith, R.rows);
}

-- up to the first column no bit is set
pub shown_start : {p : Picture} {x1 y y2 : ℕ} → y < y2 → RowShown p (area x1 y x1 y2) 0 y2
shown_start {x1 = x1} l = record { small = pow_pos (x1 - x1); some = l; most = omega arith; bits = λ x z a b _ _. absurd (omega arith) }

-- tile j, which holds the square at x, shows one type up to r
module _ {ws : List ℕ} (P : Plane ws) (two : kinds ws ≡ 2) {x1 y : ℕ} (j : ℕ) {x r : ℕ} (N : Names ws j x y) (l : x1 ≤ x) (g : x ≤ r) (e : r ≤ word ws j 2) where
  shown_next : {y2 v top : ℕ} → RowShown (picture_of ws) (area x1 y x y2) v top → RowShown (picture_of ws) (area x1 y r y2) (with_run (word ws j 4) v (x - x1) (r - x1)) (min top (word ws j 3))
  shown_next {y2} {v} {top} s = record {
    small = run_small (word ws j 4) (x - x1) (r - x1) v type_bit s.small (omega arith);
    some = omega (arith, N.held.to_top, s.some);
    most = omega (arith, s.most);
    bits = λ x' z a b c d. go x' z a b c d (lt_or_ge x' x);
  }
    where
      type_bit : word ws j 4 < 2
      type_bit = omega (arith, P.boxes.type j N.counted, two)

      go : (x' z : ℕ) → x1 ≤ x' → x' < r → y ≤ z → z < min top (word ws j 3) → (x' < x) ⊎ (x ≤ x') → bit_of (with_run (word ws j 4) v (x - x1) (r - x1)) (x' - x1) ≡ picture_of ws x' z
      go x' z a b c d (inl u) = run_below (word ws j 4) (x - x1) (r - x1) v (x' - x1) type_bit (omega arith) (omega arith) ∙ s.bits x' z a u c (omega arith)
      go x' z a b c d (inr u) = run_in (word ws j 4) (x - x1) (r - x1) v (x' - x1) type_bit s.small (omega arith) (omega arith) ∙ sym (tile_shows P j N x' z u (omega arith) c (omega arith))

-- the run that the code has read is added
pub shown_more : {ws : List ℕ} {x1 y x2 y2 x top n v v' : ℕ} {r : Run} → Readable ws (area x1 y x2 y2) → RunAt ws x y x2 r → n ≡ min top r.top → x1 ≤ x → RowShown (picture_of ws) (area x1 y x y2) v top
    → v' ≡ with_run r.kind v (r.start - x1) (r.end - x1)
    → RowShown (picture_of ws) (area x1 y r.end y2) v' n
shown_more {ws} {x1} {x = x} {top = top} {n = n} {v = v} {v' = v'} {r = r} R N k a s q =
    let o : n ≡ min top (word ws N.tile 3) = k ∙ ap (λ z. min top z) N.top in
    let h : v' ≡ with_run (word ws N.tile 4) v (x - x1) (r.end - x1) = q ∙ ap (λ z. with_run z v (r.start - x1) (r.end - x1)) N.kind ∙ ap (λ z. with_run (word ws N.tile 4) v (z - x1) (r.end - x1)) N.start in
    rw (o, h) (shown_next R.plane R.two N.tile N.names a (omega (arith, N.some)) (omega (arith, N.right)) s)

-- ---- all rows
-- where each row of a part is the word, so is the row at each index
pub same_words : (rows : List ℕ) (from to w : ℕ) → to ≤ length rows → list_all (λ x. eqb x w) (slice_range rows from to) ≡ true → SameWords rows from to w
same_words rows from to w l e i a b =
    let part : List ℕ = slice_range rows from to in
    let here : get_or part (i - from) 0 ≡ get_or rows i 0 = get_or-take (to - from) (drop from rows) (i - from) 0 (omega arith) ∙ get_or-drop from rows (i - from) 0 ∙ ap (λ n. get_or rows n 0) (omega arith) in
    sym here ∙ eqb-true (get_or part (i - from) 0) w (All-get_or (λ x. eqb x w ≡ true) part (i - from) 0 (omega (arith, length-take (to - from) (drop from rows), length-drop from rows)) (AllPass-from_list_all (λ x. eqb x w) part e))

-- the rows up to `top` are shown, if they are the word of row y
pub rows_more : {p : Picture} {x1 y1 x2 y y2 top v from to : ℕ} (rows : List ℕ) → y1 ≤ y → ShowsRows p (area x1 y1 x2 y) rows → RowShown p (area x1 y x2 y2) v top
    → from ≡ y - y1 → to ≡ top - y1 → SameWords rows from to v → ShowsRows p (area x1 y1 x2 top) rows
rows_more {p} {x1} {y1} {x2} {y} {y2} {top} {v} {from} {to} rows l s r f g q x z a b c d = go (lt_or_ge z y)
  where
    go : (z < y) ⊎ (y ≤ z) → bit_of (get_or rows (z - y1) 0) (x - x1) ≡ p x z
    go (inl u) = s x z a b c u
    go (inr u) = ap (λ n. bit_of n (x - x1)) (q (z - y1) (omega arith) (omega arith)) ∙ r.bits x z a b u d

-- a stamp of rows that are shown changes nothing
pub shown_stamped : (p : Picture) (a : Area) (rows : List ℕ) → ShowsRows p a rows → (x y : ℕ) → stamped p a rows x y ≡ p x y
unfolding stamped
shown_stamped p a rows s x y = go (in_area a x y) refl
  where
    go : (b : Bool) → in_area a x y ≡ b → cond b (bit_of (get_or rows (y - a.y1) 0) (x - a.x1)) (p x y) ≡ p x y
    go true e = let i = within a x y e in s x y i.left_of i.right_of i.low i.high
    go false e = refl
