-- The strips of a picture: the executable list has the declared properties, and these determine it.
use Prim.Native.Nat.{ℕ, zero, suc, ◌-◌, ◌*◌, ◌≤◌, ◌<◌}
use native.Mathlib.Omega.{arith}
use native.Mathlib.Nat.{mul_comm}
use mathlib.Core.Bool.{Bool, true, false, cond}
use mathlib.Core.Path.{◌≡◌, refl, sym, ◌∙◌, ap, subst}
use mathlib.Core.Logic.{◌⊎◌, inl, inr, ⊎_elim}
use mathlib.Core.List.Memᴰ
use mathlib.Core.List.{List, [], ◌∷◌, Memᴰ}
use lib.Dec.{eqb}
use lib.ListN.{length}
use borrow.Author.Tests.{eqb-true, not-true}
use Rattle.plane.specs.Picture.{Picture, run_end, begins, same_run, corner, strip_top, cell, tiles, joined}
use Rattle.plane.specs.declared.tile.Tile.{Tile}
use Rattle.plane.specs.Strips.{Run, RunOf, Strip, Holds, Ordered, Strips}
use Rattle.plane.proofs.Basics.{bool_cases, tf, lt_or_ge, and_left, and_right, and_both}
use Rattle.plane.proofs.Runs.{Extent, extent_is, end_past, end_within, start_begins, run_here, run_kind, run_left, run_right, same_run_lem, run_same}
use Rattle.plane.proofs.Lists.{joined_few, joined_mem, mem_joined, ordered_joined, ordered_same}

abbrev pub strip_at : ℕ → ℕ → Picture → ℕ → ℕ → Tile
strip_at w h p x y = record { left = x; bottom = y; right = run_end w p x y; top = strip_top w h p x y; kind = p x y }

cell_mem : (w h : ℕ) (p : Picture) (x y : ℕ) (t : Tile) → Memᴰ t (cell w h p y x) → (corner w p x y ≡ true) × (t ≡ strip_at w h p x y)
unfolding cell
cell_mem w h p x y t = go (corner w p x y) refl
  where
    go : (b : Bool) → corner w p x y ≡ b → Memᴰ t (cond b (strip_at w h p x y ∷ []) []) → (corner w p x y ≡ true) × (t ≡ strip_at w h p x y)
    go true e m = (e, Memᴰ.eq_of_singleton m)
    go false e m = absurd (Memᴰ.not-nil m)

mem_cell : (w h : ℕ) (p : Picture) (x y : ℕ) → corner w p x y ≡ true → Memᴰ (strip_at w h p x y) (cell w h p y x)
unfolding cell
mem_cell w h p x y e = rw e (Memᴰ.head refl)

pub corner_begins : (w : ℕ) (p : Picture) (x y : ℕ) → corner w p x y ≡ true → begins p x y ≡ true
unfolding corner
corner_begins w p x zero e = e
corner_begins w p x (suc y) e = and_left _ _ e

pub corner_below : (w : ℕ) (p : Picture) (x y : ℕ) → corner w p x y ≡ true → 0 < y → same_run w p x y (y - 1) ≡ false
unfolding corner
corner_below w p x zero e h = absurd (omega arith)
corner_below w p x (suc y) e h = let s : suc y - 1 ≡ y = omega arith in rw s (not-true _ (and_right (begins p x (suc y)) _ e))

pub below_corner : (w : ℕ) (p : Picture) (x y : ℕ) → begins p x y ≡ true → (0 < y → same_run w p x y (y - 1) ≡ false) → corner w p x y ≡ true
unfolding corner
below_corner w p x zero e h = e
below_corner w p x (suc y) e h = let s : suc y - 1 ≡ y = omega arith in
    and_both _ _ e (rw (rw s at (h (omega arith))))

module _ (w h : ℕ) (p : Picture) (x y : ℕ) (hx : x < w) (hy : y < h) where
  pub top_extent : Extent (λ z. same_run w p x y z) y (h - y) (strip_top w h p x y)
  unfolding strip_top
  top_extent = extent_is (λ z. same_run w p x y z) y (h - y)

  corner_strip : corner w p x y ≡ true → Strip w h p (strip_at w h p x y)
  corner_strip c =
      let here = run_here w p x y hx (corner_begins w p x y c) in
      let up : y < strip_top w h p x y = ⊎_elim (λ u. u) (λ (u : strip_top w h p x y ≤ y). let s : strip_top w h p x y ≡ y = omega (arith, top_extent.from) in
      tf (sym (run_same w p x y y hx here) ∙ (rw s at (top_extent.fail (omega arith))))) (lt_or_ge y (strip_top w h p x y)) in
      record {
        box = record { wide = end_past w p x y hx; tall = up; inside = end_within w p x y hx; under = omega (arith, top_extent.to) };
        rows = λ z a b. same_run_lem w p x y z hx (top_extent.pass z a b);
        below = λ a r. tf (sym (run_same w p x y (y - 1) hx r) ∙ corner_below w p x y c a);
        above = λ a r. tf (sym (run_same w p x y (strip_top w h p x y) hx r) ∙ top_extent.fail (omega arith));
      }

-- a member of the list is the tile of a corner, and the other way
tiles_mem : (w h : ℕ) (p : Picture) (t : Tile) → Memᴰ t (tiles w h p) → (x : ℕ) × (y : ℕ) × (x < w) × (y < h) × (corner w p x y ≡ true) × (t ≡ strip_at w h p x y)
unfolding tiles
tiles_mem w h p t m =
    let a = joined_mem h (λ y. joined w (cell w h p y)) m in
    let b = joined_mem w (cell w h p a.0) a.2 in
    let c = cell_mem w h p b.0 a.0 t b.2 in
    (b.0, a.0, b.1, a.1, c.0, c.1)

mem_tiles : (w h : ℕ) (p : Picture) (x y : ℕ) → x < w → y < h → corner w p x y ≡ true → Memᴰ (strip_at w h p x y) (tiles w h p)
unfolding tiles
mem_tiles w h p x y hx hy c = mem_joined h (λ y. joined w (cell w h p y)) y hy (mem_joined w (cell w h p y) x hx (mem_cell w h p x y c))

tiles_ordered : (w h : ℕ) (p : Picture) → Ordered (tiles w h p)
unfolding tiles cell
tiles_ordered w h p =
    ordered_joined h (λ y. joined w (cell w h p y))
    (λ y hy. ordered_joined w (cell w h p y) (λ x hx. one x y (corner w p x y)) (λ i j a b u v ma mb.
    let ea = (cell_mem w h p i y a ma).1 in
    let eb = (cell_mem w h p j y b mb).1 in
    rw (ea, eb) (inr (refl, u))))
    (λ i j a b u v ma mb.
    let ra = joined_mem w (cell w h p i) ma in
    let rb = joined_mem w (cell w h p j) mb in
    let ea = (cell_mem w h p ra.0 i a ra.2).1 in
    let eb = (cell_mem w h p rb.0 j b rb.2).1 in
    rw (ea, eb) (inl u))
  where
    one : (x y : ℕ) (b : Bool) → Ordered (cond b (strip_at w h p x y ∷ []) [])
    one x y true = (λ u m. absurd (Memᴰ.not-nil m), tt)
    one x y false = tt

-- ---- each square of the window is in a strip
module _ (w h : ℕ) (p : Picture) where
  -- where the run through (x,y) begins
  run_start : (x y : ℕ) → (l : ℕ) × (l ≤ x) × (begins p l y ≡ true) × ((i : ℕ) → l ≤ i → i ≤ x → p i y ≡ p x y)
  unfolding begins
  run_start zero y = (zero, omega arith, refl, λ i a b. let e : i ≡ zero = omega arith in ap (λ (n : ℕ). p n y) e)
  run_start (suc x) y = go (bool_cases (eqb (p x y) (p (suc x) y))) (run_start x y)
    where
      go : (eqb (p x y) (p (suc x) y) ≡ true) ⊎ (eqb (p x y) (p (suc x) y) ≡ false)
          → (l : ℕ) × (l ≤ x) × (begins p l y ≡ true) × ((i : ℕ) → l ≤ i → i ≤ x → p i y ≡ p x y)
          → (l : ℕ) × (l ≤ suc x) × (begins p l y ≡ true) × ((i : ℕ) → l ≤ i → i ≤ suc x → p i y ≡ p (suc x) y)
      go (inl e) r = (
        r.0,
        omega (arith, r.1),
        r.2,
        λ i a b.
            ⊎_elim (λ (u : i < suc x). r.3 i a (omega arith) ∙ eqb-true (p x y) (p (suc x) y) e) (λ (u : suc x ≤ i). let s : i ≡ suc x = omega arith in ap (λ (n : ℕ). p n y) s) (lt_or_ge i (suc x)),
      )
      go (inr e) r = (suc x, omega arith, rw e, λ i a b. let s : i ≡ suc x = omega arith in ap (λ (n : ℕ). p n y) s)

  -- where the strip of the run that begins at (l,y) begins
  strip_start : (l : ℕ) → l < w → (y : ℕ) → begins p l y ≡ true → (b : ℕ) × (b ≤ y) × (corner w p l b ≡ true) × ((z : ℕ) → b ≤ z → z ≤ y → Run w p l (run_end w p l y) (p l y) z)
  strip_start l hl zero e = (zero, omega arith, below_corner w p l zero e (λ u. absurd (omega arith)), λ z a b. let s : z ≡ zero = omega arith in rw s (run_here w p l zero hl e))
  strip_start l hl (suc y) e = go (bool_cases (same_run w p l (suc y) y)) (strip_start l hl y)
    where
      last : (z : ℕ) → z ≡ suc y → Run w p l (run_end w p l (suc y)) (p l (suc y)) z
      last z s = rw s (run_here w p l (suc y) hl e)

      go : (same_run w p l (suc y) y ≡ true) ⊎ (same_run w p l (suc y) y ≡ false)
          → (begins p l y ≡ true → (b : ℕ) × (b ≤ y) × (corner w p l b ≡ true) × ((z : ℕ) → b ≤ z → z ≤ y → Run w p l (run_end w p l y) (p l y) z))
          → (b : ℕ) × (b ≤ suc y) × (corner w p l b ≡ true) × ((z : ℕ) → b ≤ z → z ≤ suc y → Run w p l (run_end w p l (suc y)) (p l (suc y)) z)
      go (inl s) f =
          let u = same_run_lem w p l (suc y) y hl s in
          let k : p l y ≡ p l (suc y) = u.all l (omega arith) (end_past w p l (suc y) hl) in
          let bg : begins p l y ≡ true = start_begins p l y (λ a q. u.start a (q ∙ k)) in
          let v = run_here w p l y hl bg in
          let i = end_past w p l (suc y) hl in
          let j = end_past w p l y hl in
          let r : run_end w p l y ≡ run_end w p l (suc y) = omega (arith, run_right u v l (omega arith) i (omega arith) j (end_within w p l y hl), run_right v u l (omega arith) j (omega arith) i (end_within w p l (suc y) hl)) in
          let d = f bg in (
            d.0,
            omega (arith, d.1),
            d.2,
            λ z a b.
                ⊎_elim (λ (t : z < suc y). subst (λ (n : ℕ). Run w p l n (p l (suc y)) z) r (subst (λ (n : ℕ). Run w p l (run_end w p l y) n z) k (d.3 z a (omega arith))))
                (λ (t : suc y ≤ z). last z (omega arith)) (lt_or_ge z (suc y)),
          )
      go (inr s) f = (suc y, omega arith, below_corner w p l (suc y) e (λ a. let q : suc y - 1 ≡ y = omega arith in rw q s), λ z a b. last z (omega arith))

  square_held : (x y : ℕ) → x < w → y < h → (t : Tile) × Memᴰ t (tiles w h p) × Holds t x y
  square_held x y hx hy =
      let s = run_start x y in
      let l = s.0 in
      let hl : l < w = omega (arith, s.1) in
      let d = strip_start l hl y s.2 in
      let b = d.0 in
      let hb : b < h = omega (arith, d.1) in
      let e = top_extent w h p l b hl hb in
      let st = corner_strip w h p l b hl hb d.2 in
      let low : Run w p l (run_end w p l b) (p l b) b = st.rows b (omega arith) st.box.tall in
      let i = end_past w p l y hl in
      let j = end_past w p l b hl in
      let u = d.3 b (omega arith) d.1 in
      let k : p l y ≡ p l b = run_kind u low l (omega arith) i (omega arith) j in
      let r : run_end w p l y ≡ run_end w p l b = omega (arith, run_right u low l (omega arith) i (omega arith) j (end_within w p l b hl), run_right low u l (omega arith) j (omega arith) i (end_within w p l y hl)) in
      let far : x < run_end w p l y = ⊎_elim (λ (t : x < run_end w p l y). t) (λ (t : run_end w p l y ≤ x). absurd ((run_here w p l y hl s.2).stop (omega arith) (s.3 _ (omega arith) t ∙ sym (s.3 l (omega arith) s.1)))) (lt_or_ge x (run_end w p l y)) in
      let up : y < strip_top w h p l b = ⊎_elim (λ t. t) (λ (t : strip_top w h p l b ≤ y).
      let z = strip_top w h p l b in
      let v = d.3 z e.from t in
      tf (sym (run_same w p l b z hl (subst (λ (n : ℕ). Run w p l n (p l b) z) r (subst (λ (n : ℕ). Run w p l (run_end w p l y) n z) k v))) ∙ e.fail (omega arith))) (lt_or_ge y (strip_top w h p l b)) in
      (strip_at w h p l b, mem_tiles w h p l b hl hb d.2, record { from_left = s.1; to_right = omega arith; from_bottom = d.1; to_top = up })

  pub tiles_strips : Strips w h p (tiles w h p)
  tiles_strips = record {
    ordered = tiles_ordered w h p;
    each = λ t m. let r = tiles_mem w h p t m in rw r.5 (corner_strip w h p r.0 r.1 r.2 r.3 r.4);
    cover = square_held;
  }

-- ---- strips that share a square are one
pub tile_ext : (s t : Tile) → s.left ≡ t.left → s.bottom ≡ t.bottom → s.right ≡ t.right → s.top ≡ t.top → s.kind ≡ t.kind → s ≡ t
tile_ext s t a b c d e = λ i. record { left = a i; bottom = b i; right = c i; top = d i; kind = e i }

module _ {w h : ℕ} {p : Picture} {s t : Tile} (S : Strip w h p s) (U : Strip w h p t) (x y : ℕ) (hs : Holds s x y) (ht : Holds t x y) where
  row_s : RunOf w p s y
  row_s = S.rows y hs.from_bottom hs.to_top

  row_t : RunOf w p t y
  row_t = U.rows y ht.from_bottom ht.to_top

  one_kind : s.kind ≡ t.kind
  one_kind = run_kind row_s row_t x hs.from_left hs.to_right ht.from_left ht.to_right

  one_left : t.left ≤ s.left
  one_left = run_left row_s row_t x hs.from_left hs.to_right ht.from_left ht.to_right

  one_right : t.right ≤ s.right
  one_right = run_right row_s row_t x hs.from_left hs.to_right ht.from_left ht.to_right U.box.inside

module _ {w h : ℕ} {p : Picture} {s t : Tile} (S : Strip w h p s) (U : Strip w h p t) (x y : ℕ) (hs : Holds s x y) (ht : Holds t x y) where
  left_eq : s.left ≡ t.left
  left_eq = omega (arith, one_left S U x y hs ht, one_left U S x y ht hs)

  right_eq : s.right ≡ t.right
  right_eq = omega (arith, one_right S U x y hs ht, one_right U S x y ht hs)

  run_eq : (z : ℕ) → RunOf w p s z → RunOf w p t z
  run_eq z r = rw (← left_eq, ← right_eq, ← one_kind S U x y hs ht) r

  one_bottom : t.bottom ≤ s.bottom
  one_bottom = ⊎_elim (λ (u : s.bottom < t.bottom). absurd (U.below (omega arith) (run_eq (t.bottom - 1) (S.rows _ (omega arith) (omega arith))))) (λ u. u) (lt_or_ge s.bottom t.bottom)

  one_top : t.top ≤ s.top
  one_top = ⊎_elim (λ (u : s.top < t.top). absurd (S.above (omega arith) (rw (left_eq, right_eq, one_kind S U x y hs ht) (U.rows s.top (omega arith) u)))) (λ u. u) (lt_or_ge s.top t.top)

pub strip_one : {w h : ℕ} {p : Picture} {s t : Tile} → Strip w h p s → Strip w h p t → (x y : ℕ) → Holds s x y → Holds t x y → s ≡ t
strip_one {w} {h} {p} {s} {t} S U x y hs ht =
    tile_ext s t (left_eq S U x y hs ht)
    (omega (arith, one_bottom S U x y hs ht, one_bottom U S x y ht hs))
    (right_eq S U x y hs ht)
    (omega (arith, one_top S U x y hs ht, one_top U S x y ht hs))
    (one_kind S U x y hs ht)

holds_corner : {w h : ℕ} {p : Picture} {t : Tile} → Strip w h p t → Holds t t.left t.bottom
holds_corner s = record { from_left = omega arith; to_right = s.box.wide; from_bottom = omega arith; to_top = s.box.tall }

-- ---- the strips of a picture are one list
pub strips_one : (w h : ℕ) (p : Picture) (a b : List Tile) → Strips w h p a → Strips w h p b → a ≡ b
strips_one w h p a b A B = ordered_same a b A.ordered B.ordered (λ t. into a b t A B) (λ t. into b a t B A)
  where
    into : (a b : List Tile) (t : Tile) → Strips w h p a → Strips w h p b → Memᴰ t a → Memᴰ t b
    into a b t A B m =
        let s = A.each t m in
        let c = B.cover t.left t.bottom (omega (arith, s.box.wide, s.box.inside)) (omega (arith, s.box.tall, s.box.under)) in
        let e : t ≡ c.0 = strip_one s (B.each c.0 c.1) t.left t.bottom (holds_corner s) c.2 in
        mathlib.Core.List.Memᴰ.cast e c.1

pub strips_are_tiles : (w h : ℕ) (p : Picture) (ts : List Tile) → Strips w h p ts → ts ≡ tiles w h p
strips_are_tiles w h p ts s = strips_one w h p ts (tiles w h p) s (tiles_strips w h p)

-- a picture has no more tiles than squares
pub tiles_few : (w h : ℕ) (p : Picture) → length (tiles w h p) ≤ w * h
unfolding tiles cell
tiles_few w h p =
    let row : (y : ℕ) → length (joined w (λ x. cell w h p y x)) ≤ w = (λ y. let f = joined_few w (λ x. cell w h p y x) 1 (λ x. one (corner w p x y) (strip_at w h p x y)) in omega (arith, f)) in
    omega (arith, joined_few h (λ y. joined w (λ x. cell w h p y x)) w row, mul_comm h w)
  where
    one : (b : Bool) (t : Tile) → length (cond b (t ∷ []) []) ≤ 1
    one true t = omega arith
    one false t = omega arith
