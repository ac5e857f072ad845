-- An area that report calls settled: no square of it is within the halo of a waiting one, so its recorded marks are the full check's, and what the report found there is what these marks say.
use Prim.Native.Nat.{ℕ, ◌+◌, ◌-◌, ◌<◌}
use native.Mathlib.Omega.{arith}
use mathlib.Core.Bool.{Bool, true, false, cond, ◌&&◌}
use mathlib.Core.Path.{◌≡◌, refl, sym, ◌∙◌, ap, subst}
use mathlib.Core.List.Memᴰ
use mathlib.Core.List.{List, [], ◌∷◌, Memᴰ}
use mathlib.Core.Logic.{⊎_elim}
use lib.Dec.{eqb, ltb}
use lib.ListN.{length, drop, take}
use lib.Seq.{take-append_seam}
use Rattle.plane.specs.declared.tile.Area.{Area}
use Rattle.plane.specs.Area.{AreaIn, meets, squares_in, tiles_in}
use Rattle.plane.specs.Listing.{listed}
use Rattle.plane.specs.Picture.{Picture}
use Rattle.plane.specs.Plane.{Plane}
use Rattle.plane.specs.Strips.{Holds}
use Rattle.plane.specs.Words.{count, height, picture_of, room_in, tile_of, width, word}
use Rattle.plane.proofs.Basics.{and_left}
use Rattle.plane.proofs.Counting.{sum_eq}
use Rattle.plane.proofs.FromTable.{table_plane}
use Rattle.plane.proofs.Lists.{joined_mem, mem_joined}
use Rattle.plane.proofs.Lowests.{all_hold}
use Rattle.plane.proofs.ToTable.{shown}
use Rattle.rules.specs.Words.{halo_of}
use Rattle.rules.proofs.Window.{Within, within}
use Rattle.sheet.specs.Layout.{Layout}
use Rattle.sheet.specs.Report.{Findings, Reported, findings, report_refusals, settled}
use Rattle.layout.specs.History.{Far, FoundFull, History, full_marks}
use Rattle.layout.proofs.Histories.{far_squares_right, history_size, history_sound}
use Rattle.layout.proofs.Settles.{settled_clear}
use borrow.Author.Tests.{eq-eqb, eqb-true, lt-ltb}

-- pictures that agree on the squares of an area have as many of a type there
squares_same : (p q : Picture) (k : ℕ) (a : Area) → ((x y : ℕ) → Within a x y → p x y ≡ q x y) → squares_in p k a ≡ squares_in q k a
unfolding squares_in
squares_same p q k a e =
    sum_eq (a.y2 - a.y1) _ _ (λ j v. sum_eq (a.x2 - a.x1) _ _ (λ i u.
    ap (λ (n : ℕ). cond (eqb n k) 1 0) (e (a.x1 + i) (a.y1 + j) (record { left_of = omega arith; right_of = omega arith; low = omega arith; high = omega arith }))))

-- ---- the tiles of a type that meet an area
only_one : (b : Bool) (i j : ℕ) → Memᴰ i (cond b (j ∷ []) []) → (i ≡ j) × (b ≡ true)
only_one true i j m = ⊎_elim (λ e. (e, refl)) (λ n. absurd (Memᴰ.not-nil n)) (Memᴰ.cases_cons m)
only_one false i j m = absurd (Memᴰ.not-nil m)

module _ {ws : List ℕ} (P : Plane ws) (k : ℕ) (a : Area) where
  -- a listed tile has the type, and so have its squares
  listed_kind : (i x y : ℕ) → Memᴰ i (tiles_in ws k a) → Holds (tile_of ws i) x y → picture_of ws x y ≡ k
  unfolding tiles_in meets
  listed_kind i x y m q =
      let j = joined_mem (count ws) (λ n. cond (meets (tile_of ws n) k a) (n ∷ []) []) m in
      let o = only_one (meets (tile_of ws j.0) k a) i j.0 j.2 in
      let t = tile_of ws j.0 in
      shown ws P i x y (omega (arith, j.1, o.0)) q
      ∙ (ap (λ (n : ℕ). word ws n 4) o.0 ∙ eqb-true t.kind k (and_left (eqb t.kind k) (ltb t.left a.x2 && (ltb a.x1 t.right && (ltb t.bottom a.y2 && ltb a.y1 t.top))) o.1))

  -- a square of the type in the area lies in a listed tile
  listed_square : AreaIn (width ws) (height ws) a → (x y : ℕ) → Within a x y → picture_of ws x y ≡ k → (i : ℕ) × Memᴰ i (tiles_in ws k a) × Holds (tile_of ws i) x y
  unfolding tiles_in meets
  listed_square A x y n e =
      let j = P.cover x y (omega (arith, n.right_of, A.in_x)) (omega (arith, n.high, A.in_y)) in
      let i = j.0 in
      let q = j.2 in
      let t = tile_of ws i in
      let b : meets t k a ≡ true =
      rw (eq-eqb t.kind k (sym (shown ws P i x y j.1 q) ∙ e), lt-ltb t.left a.x2 (omega (arith, q.from_left, n.right_of)), lt-ltb a.x1 t.right (omega (arith, q.to_right, n.left_of)), lt-ltb t.bottom a.y2 (omega (arith, q.from_bottom, n.high)), lt-ltb a.y1 t.top (omega (arith, q.to_top, n.low))) in
      (i, mem_joined (count ws) (λ m. cond (meets (tile_of ws m) k a) (m ∷ []) []) i j.1 (subst (λ (c : Bool). Memᴰ i (cond c (i ∷ []) [])) (sym b) (Memᴰ.head refl)), q)

-- ---- in a history
module _ {rules : List ℕ} {used w h t : ℕ} {l : Layout} {d s : ℕ} (H : History rules used w h t l d s) (a : Area) (A : AreaIn (width l.material) (height l.material) a)
    (calm : settled l.waiting (halo_of rules used) a ≡ 1) where
  -- no square of a settled area is within the halo of a waiting one
  settled_far : (x y : ℕ) → Within a x y → Far w h (halo_of rules used) (picture_of l.waiting) x y
  settled_far x y n i j u v b c e f =
      let M = (history_sound H).tables.waiting in
      let z = history_size H in
      let wide : i < width l.waiting = omega (arith, M.wide, z.0) in
      let tall : j < height l.waiting = omega (arith, M.tall, z.1) in
      let few = M.table.types i j wide tall in
      let not_one = settled_clear l.waiting (halo_of rules used) a calm i j wide tall
      (record { left = omega (arith, n.left_of); right = omega (arith, n.right_of); low = omega (arith, n.low); high = omega (arith, n.high) }) in
      omega (arith, few, M.two, not_one)

  -- so its marks are the full check's
  pub settled_marks : (x y : ℕ) → Within a x y → picture_of l.errors x y ≡ full_marks l rules used x y
  settled_marks x y n =
      let z = history_size H in
      far_squares_right H x y (omega (arith, z.0, n.right_of, A.in_x)) (omega (arith, z.1, n.high, A.in_y)) (settled_far x y n)

  settled_found : (out : List ℕ) → FoundFull l.errors (full_marks l rules used) a (findings l (halo_of rules used) a out)
  settled_found out =
      let E = (history_sound H).tables.errors in
      let P = table_plane (room_in (length l.errors)) l.errors E.table in
      let ns = tiles_in l.errors 1 a in
      let e : take (length ns) (listed ns out) ≡ ns = take-append_seam ns (drop (length ns) out) in
      record {
        squares = squares_same (picture_of l.errors) (full_marks l rules used) 1 a settled_marks;
        only = λ i x y m q n. sym (settled_marks x y (within a x y n)) ∙ listed_kind P 1 a i x y (subst (λ (z : List ℕ). Memᴰ i z) e m) q;
        all = λ x y n f.
            let r = listed_square P 1 a (record { some_x = A.some_x; some_y = A.some_y; in_x = omega (arith, A.in_x, E.wide); in_y = omega (arith, A.in_y, E.tall) }) x y (within a x y n) (settled_marks x y (within a x y n) ∙ f) in
            (r.0, subst (λ (z : List ℕ). Memᴰ r.0 z) (sym e) r.1, r.2);
      }

-- an area that report calls settled: it counts the full check's error squares there, and the tiles that it lists hold exactly these squares of the area. (The tiles may reach out of the area, over marks that
-- are not yet right; so they are the full check's own tiles only when nothing waits.)
pub settled_area_is_full : {rules : List ℕ} {used w h t : ℕ} {l : Layout} {d s : ℕ} {a : Area} {out : List ℕ} {place : ℕ} {found : Findings} → History rules used w h t l d s
    → Reported l rules used a out 0 place found → found.settled ≡ 1 → FoundFull l.errors (full_marks l rules used) a found
settled_area_is_full {rules} {used} {l = l} {a = a} {out = out} H R e =
    let g = all_hold 0 (report_refusals l rules used a out) (omega arith, (omega arith, (omega arith, (omega arith, (omega arith, tt))))) R.outcome.number in
    let f = R.outcome.leaves in
    subst (λ (z : Findings). FoundFull l.errors (full_marks l rules used) a z) (sym f) (settled_found H a g.1.1.1.0 (sym (ap (λ (z : Findings). z.settled) f) ∙ e) out)
