-- The local picture cut out row by row. A tile shows its type on all its rows, so a row of the area is the same up to the least top of its tiles, and copies of it are right up to there.
use Prim.Native.Nat.{ℕ, zero, suc, ◌+◌, ◌-◌, ◌*◌, ◌/◌, ◌%◌, ◌<◌, ◌≤◌, min}
use native.Mathlib.Omega.{arith}
use mathlib.Core.Bool.{Bool, true, false, cond, true≢false}
use mathlib.Core.List.{List, [], ◌∷◌}
use mathlib.Core.Path.{◌≡◌, refl, sym, ◌∙◌, ap}
use mathlib.Core.Logic.{◌⊎◌, inl, inr, ⊎_elim}
use lib.ListN.{length, get_or, replicate, length-replicate, get_or-replicate}
use Rattle.piece.specs.declared.run.Run.{Run}
use Rattle.piece.specs.Runs.{RunAt}
use Rattle.plane.specs.declared.tile.Area.{Area}
use Rattle.plane.specs.Picture.{Picture, area, in_area}
use Rattle.plane.specs.Words.{count, width, height, word, picture_of}
use Rattle.plane.proofs.Basics.{lt_or_ge, is_false}
use Rattle.plane.proofs.ToTable.{shown}
use Rattle.edges.specs.Edge.{Small}
use Rattle.edges.specs.Near.{Still}
use Rattle.piece.specs.Remark.{low_end, high_end, near_area}
use Rattle.plane.specs.Plane.{Plane, Names}
use Rattle.rules.specs.Forbid.{kind_at, outside}
use Rattle.rules.proofs.Searches.{same_truth}
use Rattle.rules.proofs.Window.{Within, within, area_of}
use Rattle.plane.specs.Fill.{Filled}
use Rattle.piece.specs.Cut.{Drawn, row_of, CutOut, Cuttable, RowCut, placed, placed_area, around}
use Rattle.plane.proofs.Tiles.{tile_shows}
use Rattle.piece.proofs.Drawings.{drawn_none, drawn_here, drawn_as, drawn_right, drawn_up, drawn_row}

-- the part of a local picture that is cut out, and the window in the plane
abbrev part : ℕ → ℕ → Area
part lo hi = area lo lo hi hi

abbrev pub window : ℕ → ℕ → Area
window w h = area 33 33 (33 + w) (33 + h)

-- ---- a window's square
pub kind_at_in : (w h : ℕ) (p : Picture) (x y : ℕ) → in_area (window w h) x y ≡ true → kind_at w h p x y ≡ p (x - 33) (y - 33)
unfolding kind_at
kind_at_in w h p x y e = rw (e, kind_at)

pub kind_at_out : (w h : ℕ) (p : Picture) (x y : ℕ) → in_area (window w h) x y ≡ false → kind_at w h p x y ≡ outside
unfolding kind_at
kind_at_out w h p x y e = rw (e, kind_at)

-- ---- one row
-- a place of the local picture between those of two columns (or rows) is that of one between them
unplaced : (b c e u : ℕ) → 16 * b ≤ c + 33 → placed b c ≤ u → u < placed b e → (c ≤ 16 * b + u - 33) × (16 * b + u - 33 < e)
unplaced b c e u l i j = (omega arith, omega arith)

-- up to the first column nothing is drawn
pub row_start : {p : Picture} {bx by x1 y y2 : ℕ} {m : List ℕ} → y < y2 → RowCut p bx by (area x1 y x1 y2) y2 m m
row_start l = record {
  drawn = drawn_none (λ u v i. omega (arith, i.left_of, i.right_of));
  some = l;
  most = omega arith;
  same = λ x z g h _ _. absurd (omega arith);
}

-- tile j, which holds the square at x, shows one type up to r
module _ {ws : List ℕ} (P : Plane ws) {bx by x1 y x2 y2 : ℕ} (C : Cuttable (width ws) (height ws) bx by (area x1 y x2 y2)) (j : ℕ) {x r : ℕ} (N : Names ws j x y) (l : x1 ≤ x) (g : x ≤ r) (e : r ≤ word ws j 2) (f : r ≤ x2) where
  held : (x' z : ℕ) → x ≤ x' → x' < r → y ≤ z → z < word ws j 3 → picture_of ws x' z ≡ word ws j 4
  held x' z p q s t = tile_shows P j N x' z p (omega arith) s t

  row_drawn : {m m₁ : List ℕ} → length m ≡ 6724 → Filled (word ws j 4) (placed by y * 82 + placed bx x) (placed by y * 82 + placed bx r) m m₁
      → Drawn (around bx by (picture_of ws)) (area (placed bx x) (placed by y) (placed bx r) (placed by y + 1)) m m₁
  row_drawn sized q =
      drawn_as (λ u v i.
      let a = unplaced bx x r u (omega (arith, C.left_of)) i.left_of i.right_of in
      let e = row v i.low i.high in
      sym (held (16 * bx + u - 33) (16 * by + v - 33) a.0 a.1 (omega (arith, e)) (omega (arith, e, N.held.to_top))))
      (drawn_row sized (omega (arith, C)) (omega (arith, C)) q)
    where
      row : (v : ℕ) → placed by y ≤ v → v < placed by y + 1 → 16 * by + v - 33 ≡ y
      row v a b = omega (arith, C.low)

  row_next : {top : ℕ} {m m₁ m₂ : List ℕ} → length m ≡ 6724 → RowCut (picture_of ws) bx by (area x1 y x y2) top m m₁ → Filled (word ws j 4) (placed by y * 82 + placed bx x) (placed by y * 82 + placed bx r) m₁ m₂
      → RowCut (picture_of ws) bx by (area x1 y r y2) (min top (word ws j 3)) m m₂
  row_next {top} sized c q = record {
    drawn = drawn_right (omega arith) (omega arith) c.drawn (row_drawn (c.drawn.long ∙ sized) q);
    some = omega (arith, N.held.to_top, c.some);
    most = omega (arith, c.most);
    same = λ x' z a b u v. go x' z a b u v (lt_or_ge x' x);
  }
    where
      go : (x' z : ℕ) → x1 ≤ x' → x' < r → y ≤ z → z < min top (word ws j 3) → (x' < x) ⊎ (x ≤ x') → picture_of ws x' z ≡ picture_of ws x' y
      go x' z a b u v (inl s) = c.same x' z a s u (omega arith)
      go x' z a b u v (inr s) = held x' z s b u (omega arith) ∙ sym (held x' y s b (omega arith) N.held.to_top)

-- and fills its part of the row
pub row_more : {ws : List ℕ} {bx by x1 y x2 y2 x top n u v z : ℕ} {r : Run} {m m₁ m₂ : List ℕ} → Cuttable (width ws) (height ws) bx by (area x1 y x2 y2)
    → RunAt ws x y x2 r → n ≡ min top r.top → x1 ≤ x → length m ≡ 6724 → RowCut (picture_of ws) bx by (area x1 y x y2) top m m₁
    → v ≡ placed by y → u ≡ placed bx r.start → z ≡ placed bx r.end → Filled r.kind (v * 82 + u) (v * 82 + z) m₁ m₂
    → RowCut (picture_of ws) bx by (area x1 y r.end y2) n m m₂
row_more {ws} {y = y} {x = x} {top = top} {n = n} {r = r} C N k a sized c ev eu ez q =
    let o : n ≡ min top (word ws N.tile 3) = k ∙ ap (λ z. min top z) N.top in
    rw o (row_next N.plane C N.tile N.names a (omega (arith, N.some)) (omega (arith, N.right)) N.most sized c (rw (N.kind, ev, eu, ez, N.start) at q))

-- ---- all rows
-- a row, and copies of it up to `top`
module _ {w h bx by x1 y x2 y2 : ℕ} (C : Cuttable w h bx by (area x1 y x2 y2)) {p : Picture} {top : ℕ} {m m₁ : List ℕ} (c : RowCut p bx by (area x1 y x2 y2) top m m₁) where
  row_again : (u v : ℕ) → Within (area (placed bx x1) (placed by y + 1) (placed bx x2) (placed by top)) u v → row_of m₁ (placed by y) u v ≡ around bx by p u v
  row_again u v i =
      let e : 16 * by + placed by y - 33 ≡ y = omega (arith, C.low) in
      let a = unplaced bx x1 x2 u C.left_of i.left_of i.right_of in
      let b = unplaced by y top v C.low (omega (arith, i.low)) i.high in
      drawn_here c.drawn u (placed by y) (omega (arith, i.right_of, C.right_of)) (omega (arith, C.high, C.tall))
      (record { left_of = i.left_of; right_of = i.right_of; low = omega arith; high = omega arith })
      ∙ ap (λ n. p (16 * bx + u - 33) n) e
      ∙ sym (c.same (16 * bx + u - 33) (16 * by + v - 33) a.0 a.1 b.0 b.1)

  rows_next : {y1 : ℕ} {m₀ m₂ : List ℕ} → y1 ≤ y → Drawn (around bx by p) (placed_area bx by (area x1 y1 x2 y)) m₀ m → Drawn (row_of m₁ (placed by y)) (area (placed bx x1) (placed by y + 1) (placed bx x2) (placed by top)) m₁ m₂
      → Drawn (around bx by p) (placed_area bx by (area x1 y1 x2 top)) m₀ m₂
  rows_next l d q = drawn_up (omega arith) (omega (arith, c.some)) d (drawn_up (omega arith) (omega (arith, c.some, C.low)) c.drawn (drawn_as row_again q))

-- ---- the whole area
-- what is near the block is in the window and in the local picture
pub near_cuttable : {w h k bx by : ℕ} {a : Area} → k ≤ 16 → 16 * bx < w → 16 * by < h → a ≡ near_area w h (2 * k + 1) bx by → Cuttable w h bx by a
near_cuttable {w} {h} {k} {bx} {by} s l g e = rw e (record {
  left_of = omega arith;
  wide = omega arith;
  right_of = omega arith;
  inside = omega arith;
  low = omega arith;
  tall = omega arith;
  high = omega arith;
  under = omega arith;
})

-- so is what is left of it from row y on
pub cuttable_from : {w h bx by y : ℕ} {a : Area} → Cuttable w h bx by a → a.y1 ≤ y → y < a.y2 → Cuttable w h bx by (area a.x1 y a.x2 a.y2)
cuttable_from C l g = record { left_of = C.left_of; wide = C.wide; right_of = C.right_of; inside = C.inside; low = omega (arith, C.low); tall = g; high = C.high; under = C.under }

-- m is m₀ with the area's rows below y drawn; i is the number of a tile
pub record CutTo (ws : List ℕ) (bx by : ℕ) (a : Area) (i y : ℕ) (m₀ m : List ℕ) : Type 0 where
  pub all : Cuttable (width ws) (height ws) bx by a
  pub counted : i < count ws
  pub from_low : a.y1 ≤ y
  pub to_high : y ≤ a.y2
  pub sized : length m ≡ 6724
  pub drawn : Drawn (around bx by (picture_of ws)) (placed_area bx by (area a.x1 a.y1 a.x2 y)) m₀ m

pub cut_start : {ws : List ℕ} {bx by : ℕ} {a : Area} {m : List ℕ} → Plane ws → Cuttable (width ws) (height ws) bx by a → m ≡ replicate 6724 outside → CutTo ws bx by a 0 a.y1 m m
cut_start P C e = record {
  all = C;
  counted = omega (arith, P.header.some);
  from_low = omega arith;
  to_high = omega (arith, C.tall);
  sized = ap length e ∙ length-replicate 6724 outside;
  drawn = drawn_none (λ u v i. omega (arith, i.low, i.high));
}

-- one row more and its copies, at the places that the code has computed
pub cut_more : {ws : List ℕ} {bx by : ℕ} {a : Area} {i j y top u z v e : ℕ} {m₀ m m₁ m₂ : List ℕ} → CutTo ws bx by a i y m₀ m → j < count ws → y < a.y2 → RowCut (picture_of ws) bx by (area a.x1 y a.x2 a.y2) top m m₁
    → u ≡ placed bx a.x1 → z ≡ placed bx a.x2 → v ≡ placed by y → e ≡ placed by top → Drawn (row_of m₁ v) (area u (v + 1) z e) m₁ m₂
    → CutTo ws bx by a j top m₀ m₂
cut_more l n g r eu ez ev ee q = record {
  all = l.all;
  counted = n;
  from_low = omega (arith, l.from_low, r.some);
  to_high = r.most;
  sized = q.long ∙ r.drawn.long ∙ l.sized;
  drawn = rows_next (cuttable_from l.all l.from_low g) r l.from_low l.drawn (rw (eu, ez, ev, ee) at q);
}

-- in one direction, the squares drawn are those of the window in the part that is cut out
ends_in : (w k b u : ℕ) → k ≤ 16 → placed b (low_end (2 * k + 1) b) ≤ u → u < placed b (high_end w (2 * k + 1) b) → (32 - 2 * k ≤ u) × (u < 50 + 2 * k) × (33 ≤ 16 * b + u) × (16 * b + u < 33 + w)
ends_in w k b u s i j = (omega arith, omega arith, omega arith, omega arith)

in_ends : (w k b u : ℕ) → k ≤ 16 → 32 - 2 * k ≤ u → u < 50 + 2 * k → 33 ≤ 16 * b + u → 16 * b + u < 33 + w → (placed b (low_end (2 * k + 1) b) ≤ u) × (u < placed b (high_end w (2 * k + 1) b))
in_ends w k b u s i j q r = (omega arith, omega arith)

cond_same : (b : Bool) → ◌≡◌ {A = ℕ} (cond b 0 0) 0
cond_same true = refl
cond_same false = refl

-- all its rows drawn make the cut
module _ (w h k bx by : ℕ) (p : Picture) (s : k ≤ 16) where
  -- the squares drawn, and those that are cut out
  near : Area
  near = placed_area bx by (near_area w h (2 * k + 1) bx by)

  kept : Area
  kept = part (32 - 2 * k) (50 + 2 * k)

  near_in : (u v : ℕ) → Within near u v → Within kept u v × Within (window w h) (16 * bx + u) (16 * by + v)
  unfolding near kept
  near_in u v i =
      let x = ends_in w k bx u s i.left_of i.right_of in
      let y = ends_in h k by v s i.low i.high in
      (record { left_of = x.0; right_of = x.1; low = y.0; high = y.1 }, record { left_of = x.2; right_of = x.3; low = y.2; high = y.3 })

  in_near : (u v : ℕ) → Within kept u v → Within (window w h) (16 * bx + u) (16 * by + v) → Within near u v
  unfolding near kept
  in_near u v i j =
      let x = in_ends w k bx u s i.left_of i.right_of j.left_of j.right_of in
      let y = in_ends h k by v s i.low i.high j.low j.high in
      record { left_of = x.0; right_of = x.1; low = y.0; high = y.1 }

  -- outside the window nothing was drawn, and all is `outside`
  drawn_kind : (u v : ℕ) (b : Bool) → in_area (window w h) (16 * bx + u) (16 * by + v) ≡ b → cond (in_area near u v) (around bx by p u v) outside ≡ cond (in_area kept u v) (kind_at w h p (16 * bx + u) (16 * by + v)) outside
  unfolding outside
  drawn_kind u v true e =
      let j = within (window w h) (16 * bx + u) (16 * by + v) e in
      ap (λ z. cond z (around bx by p u v) 0)
      (same_truth (in_area near u v) (in_area kept u v) (λ f. area_of kept u v (near_in u v (within near u v f)).0) (λ f. area_of near u v (in_near u v (within kept u v f) j)))
      ∙ ap (λ z. cond (in_area kept u v) z 0) (sym (kind_at_in w h p (16 * bx + u) (16 * by + v) e))
  drawn_kind u v false e =
      ap (λ z. cond z (around bx by p u v) 0)
      (is_false (in_area near u v) (λ f. true≢false (sym (area_of (window w h) (16 * bx + u) (16 * by + v) (near_in u v (within near u v f)).1) ∙ e)))
      ∙ sym (ap (λ z. cond (in_area kept u v) z 0) (kind_at_out w h p (16 * bx + u) (16 * by + v) e) ∙ cond_same (in_area kept u v))

  cut_whole : {m : List ℕ} → Drawn (around bx by p) near (replicate 6724 outside) m → CutOut (32 - 2 * k) (50 + 2 * k) w h p (16 * bx) (16 * by) m
  unfolding kept
  cut_whole d = record {
    long = d.long ∙ length-replicate 6724 outside;
    kind = λ u v a b. d.square u v a b
        ∙ ap (λ z. cond (in_area near u v) (around bx by p u v) z) (get_or-replicate 6724 (v * 82 + u) outside 0 (omega arith))
        ∙ drawn_kind u v (in_area (window w h) (16 * bx + u) (16 * by + v)) refl;
  }

pub cut_end : {ws : List ℕ} {k i y : ℕ} (bx by : ℕ) {a : Area} {m₀ m : List ℕ} → k ≤ 16 → a ≡ near_area (width ws) (height ws) (2 * k + 1) bx by → m₀ ≡ replicate 6724 outside → a.y2 ≤ y → CutTo ws bx by a i y m₀ m
    → CutOut (32 - 2 * k) (50 + 2 * k) (width ws) (height ws) (picture_of ws) (16 * bx) (16 * by) m
unfolding near
cut_end {ws} {k} {i} {y} bx by {a} s e f g l =
    let h : y ≡ a.y2 = omega (arith, l.to_high) in
    cut_whole (width ws) (height ws) k bx by (picture_of ws) s (rw (h, e, f) at l.drawn)

-- ---- what the local picture is good for
kind_below : (ws : List ℕ) → Plane ws → (x y : ℕ) → kind_at (width ws) (height ws) (picture_of ws) x y < 32
unfolding outside
kind_below ws P x y = go (in_area (window (width ws) (height ws)) x y) refl
  where
    go : (b : Bool) → in_area (window (width ws) (height ws)) x y ≡ b → kind_at (width ws) (height ws) (picture_of ws) x y < 32
    go false e = rw (kind_at_out (width ws) (height ws) (picture_of ws) x y e) (omega arith)
    go true e =
        let q = within (window (width ws) (height ws)) x y e in
        let j = P.cover (x - 33) (y - 33) (omega (arith, q.left_of, q.right_of)) (omega (arith, q.low, q.high)) in
        let t = P.boxes.type j.0 j.1 in
        rw (kind_at_in (width ws) (height ws) (picture_of ws) x y e, shown ws P j.0 (x - 33) (y - 33) j.1 j.2) (omega (arith, P.header.sizes.sixteen))

cond_below : (b : Bool) (n : ℕ) → n < 32 → cond b n outside < 32
unfolding outside
cond_below true n l = l
cond_below false n l = omega arith

-- its types are small
pub cut_small : {lo hi ox oy : ℕ} {ws ks : List ℕ} → Plane ws → CutOut lo hi (width ws) (height ws) (picture_of ws) ox oy ks → Small ks
cut_small {lo} {hi} {ox} {oy} {ws} {ks} P c q = ⊎_elim
    (λ (l : q < 6724).
    let e : q ≡ q / 82 * 82 + q % 82 = omega arith in
    rw (ap (λ n. get_or ks n 0) e ∙ c.kind (q % 82) (q / 82) (omega arith) (omega arith))
    (cond_below (in_area (part lo hi) (q % 82) (q / 82)) _ (kind_below ws P (ox + q % 82) (oy + q / 82))))
    (λ (l : 6724 ≤ q). let e : get_or ks q 0 ≡ 0 = past ks q (omega (arith, c.long)) in omega arith)
    (lt_or_ge q 6724)
  where
    past : (l : List ℕ) (n : ℕ) → length l ≤ n → get_or l n 0 ≡ 0
    past [] n h = refl
    past (a ∷ l) zero h = absurd (omega arith)
    past (a ∷ l) (suc n) h = past l n (omega arith)

-- ---- where it has edges
module _ {lo hi w h : ℕ} {p : Picture} {ox oy : ℕ} {ks : List ℕ} {to : ℕ} (c : CutOut lo hi w h p ox oy ks) (s : lo + hi ≡ 82) (t : to ≡ min 82 (hi + 1)) where
  -- square q is not cut out if that would put `at` in columns and rows lo up to `to`, where it is not
  outer : (q at : ℕ) → q < 6724 → (Within (part lo hi) (q % 82) (q / 82) → Within (part lo to) (at % 82) (at / 82)) → in_area (part lo to) (at % 82) (at / 82) ≡ false → get_or ks q 0 ≡ outside
  outer q at l step o =
      let e : q ≡ q / 82 * 82 + q % 82 = omega arith in
      ap (λ n. get_or ks n 0) e ∙ c.kind (q % 82) (q / 82) (omega arith) (omega arith)
      ∙ ap (λ b. cond b (kind_at w h p (ox + q % 82) (oy + q / 82)) outside)
      (is_false (in_area (part lo hi) (q % 82) (q / 82)) (λ z. true≢false (sym (area_of (part lo to) (at % 82) (at / 82) (step (within (part lo hi) (q % 82) (q / 82) z))) ∙ o)))

  -- a step to the right or up from what is cut out stays in columns and rows lo up to one more, so no edge is outside
  pub cut_still : lo ≤ hi → Still ks lo to
  cut_still o = record {
    order = omega (arith, t, s);
    most = omega (arith, t);
    side = λ at a b u. outer (at - 1) at (omega arith) (λ i. omega (arith, i, t, s)) u ∙ sym (outer at at (omega arith) (λ i. omega (arith, i, t)) u);
    below = λ at a b u. outer (at - 82) at (omega arith) (λ i. omega (arith, i, t)) u ∙ sym (outer at at (omega arith) (λ i. omega (arith, i, t)) u);
  }
