-- The checks of a table's words and a plane: they make one, and a plane passes them.
use Prim.Native.Nat.{ℕ, zero, suc, ◌+◌, ◌-◌, ◌*◌, ◌≤◌, ◌<◌}
use native.Mathlib.Omega.{arith}
use mathlib.Core.Bool.{Bool, true, false}
use mathlib.Core.Path.{◌≡◌, refl, sym, ◌∙◌, ap, subst}
use mathlib.Core.Logic.{⊎_elim}
use mathlib.Core.List.{List}
use lib.Dec.{eqb}
use borrow.Author.Tests.{eqb-true, eqb-false}
use Rattle.plane.specs.Strips.{Box, Holds}
use Rattle.plane.specs.Words.{count, width, height, word, tile_of, Header, Tells}
use Rattle.plane.specs.Plane.{Names, Sized, Stitches, Boxes, Sides, Apart, Covered, Disjoint, ZeroAfter, InOrder, Plane}
use Rattle.vet.specs.Checks.{Starts, Column, Upper, Frames, areas}
use Rattle.plane.proofs.Basics.{lt_or_ge}
use Rattle.plane.proofs.Counting.{no_overlap, adds_up}
use Rattle.plane.proofs.Index.{later}
use Rattle.plane.proofs.ToTable.{begins_there, begins_above}

-- a tile that begins at x on row y holds (x,y)
pub starts_holds : (ws : List ℕ) (j x y : ℕ) → Boxes ws → Starts ws j x y → Holds (tile_of ws j) x y
starts_holds ws j x y B s = record { from_left = omega (arith, s.left); to_right = omega (arith, s.left, (B.box j s.counted).wide); from_bottom = s.low; to_top = s.high }

module _ (ws : List ℕ) (B : Boxes ws) (C : Column ws) (F : Frames ws) where
  pub covers : Covered ws
  covers zero y a b = let j = C y b in (j.0, j.1.counted, starts_holds ws j.0 0 y B j.1)
  covers (suc x) y a b =
      let i = covers x y (omega arith) b in
      let q = i.2 in
      ⊎_elim
      (λ (u : suc x < word ws i.0 2). (i.0, i.1, record { from_left = omega (arith, q.from_left); to_right = u; from_bottom = q.from_bottom; to_top = q.to_top }))
      (λ (u : word ws i.0 2 ≤ suc x).
      let e : word ws i.0 2 ≡ suc x = omega (arith, q.to_right) in
      let j = (F i.0 i.1).side (omega arith) y q.from_bottom q.to_top in
      (j.0, j.1.counted, subst (λ (n : ℕ). Holds (tile_of ws j.0) n y) e (starts_holds ws j.0 (word ws i.0 2) y B j.1)))
      (lt_or_ge (suc x) (word ws i.0 2))

  module _ (A : areas ws (count ws) ≡ width ws * height ws) where
    pub disjoint : Disjoint ws
    disjoint i j x y u v a b =
        let no = no_overlap (width ws) (height ws) (count ws) (tile_of ws) B.box covers A in
        ⊎_elim
        (λ (s : i < j). absurd (no i j x y s v a b))
        (λ (s : j ≤ i). ⊎_elim (λ (r : j < i). absurd (no j i x y r u b a)) (λ (r : i ≤ j). omega arith) (lt_or_ge j i))
        (lt_or_ge i j)

    sides : Sides ws
    sides i j u v y a e =
        let bj : Box (width ws) (height ws) (tile_of ws j) = B.box j v in
        let l : word ws j 0 ≡ word ws i 2 = a.joins in
        let k = (F i u).side (omega (arith, bj.wide, bj.inside)) y a.low_s a.high_s in
        let q : j ≡ k.0 = disjoint j k.0 (word ws i 2) y v k.1.counted
        (record { from_left = omega arith; to_right = omega (arith, bj.wide); from_bottom = a.low_t; to_top = a.high_t })
        (starts_holds ws k.0 (word ws i 2) y B k.1) in
        k.2 (e ∙ ap (λ (m : ℕ). word ws m 4) q)

    module _ (T : Stitches ws) where
      apart : Apart ws
      apart i j u v a =
          let bi : Box (width ws) (height ws) (tile_of ws i) = B.box i u in
          let bj : Box (width ws) (height ws) (tile_of ws j) = B.box j v in
          let f : word ws j 1 ≡ word ws i 3 = a.joins in
          let g : word ws j 0 ≡ word ws i 0 = a.left in
          let h : word ws j 2 ≡ word ws i 2 = a.right in
          let k : word ws j 4 ≡ word ws i 4 = a.kind in
          let t : word ws i 3 < height ws = omega (arith, bj.tall, bj.under) in
          let n = (T i u).rt.0 t in
          let q : j ≡ word ws i 8 = disjoint j (word ws i 8) (word ws i 2 - 1) (word ws i 3) v n.counted
          (record { from_left = omega (arith, bi.wide); to_right = omega (arith, bi.wide); from_bottom = omega arith; to_top = omega (arith, bj.tall) })
          n.held in
          (F i u).upper t (ap (λ (m : ℕ). word ws m 0) (sym q) ∙ g) (ap (λ (m : ℕ). word ws m 2) (sym q) ∙ h) (ap (λ (m : ℕ). word ws m 4) (sym q) ∙ k)

      pub checks_plane : Sized ws → Header ws → InOrder ws → ZeroAfter ws → Plane ws
      checks_plane L H O Z = record { sized = L; header = H; boxes = B; order = O; cover = covers; one = disjoint; sides = sides; apart = apart; stitches = T; rest = Z }

pub plane_areas : (ws : List ℕ) → Plane ws → areas ws (count ws) ≡ width ws * height ws
plane_areas ws P = adds_up (width ws) (height ws) (count ws) (tile_of ws) P.boxes.box P.cover P.one

pub plane_upper : (ws : List ℕ) → Plane ws → (i : ℕ) → i < count ws → Upper ws i
plane_upper ws P i u t f g h =
    let n = (P.stitches i u).rt.0 t in
    let j = word ws i 8 in
    let b : Box (width ws) (height ws) (tile_of ws i) = P.boxes.box i u in
    let e = begins_above ws P i j (word ws i 2 - 1) u n.counted (omega (arith, b.wide)) (omega (arith, b.wide)) n.held in
    P.apart i j u n.counted (record { joins = e; left = f; right = g; kind = h })

-- ---- the left border, tile by tile: `edge` is how high it is known to be covered
pub record Border (ws : List ℕ) (edge i : ℕ) : Type 0 where
  pub under : edge ≤ height ws
  pub rows : (y : ℕ) → y < edge → (j : ℕ) × Starts ws j 0 y × (j < i)
  pub tops : (j : ℕ) → j < i → word ws j 0 ≡ 0 → word ws j 3 ≤ edge

pub border_none : (ws : List ℕ) → Border ws 0 0
border_none ws = record { under = omega arith; rows = λ y u. absurd (omega arith); tops = λ j u. absurd (omega arith) }

pub border_past : (ws : List ℕ) (edge i : ℕ) → Border ws edge i → (word ws i 0 ≡ 0 → ⊥) → Border ws edge (i + 1)
border_past ws edge i b n = record {
  under = b.under;
  rows = λ y v. let j = b.rows y v in (j.0, j.1, omega (arith, j.2));
  tops = λ j u e.
      ⊎_elim (λ (v : j < i). b.tops j v e) (λ (v : i ≤ j). let q : j ≡ i = omega arith in absurd (n (ap (λ (m : ℕ). word ws m 0) (sym q) ∙ e))) (lt_or_ge j i);
}

pub border_more : (ws : List ℕ) (edge i : ℕ) → Boxes ws → i < count ws → Border ws edge i → word ws i 0 ≡ 0 → word ws i 1 ≡ edge → Border ws (word ws i 3) (i + 1)
border_more ws edge i B u b l f =
    let x : Box (width ws) (height ws) (tile_of ws i) = B.box i u in
    record {
      under = x.under;
      rows = λ y v. ⊎_elim (λ (s : y < edge). let j = b.rows y s in (j.0, j.1, omega (arith, j.2))) (λ (s : edge ≤ y). (i, record { counted = u; left = l; low = omega arith; high = v }, omega arith)) (lt_or_ge y edge);
      tops = λ j v e. ⊎_elim (λ (s : j < i). omega (arith, b.tops j s e, x.tall)) (λ (s : i ≤ j). let q : j ≡ i = omega arith in omega (arith, ap (λ (m : ℕ). word ws m 3) q)) (lt_or_ge j i);
    }

-- in a plane the next tile at the border stands on the last
pub border_next : (ws : List ℕ) (edge i : ℕ) → Plane ws → i < count ws → Border ws edge i → word ws i 0 ≡ 0 → word ws i 1 ≡ edge
border_next ws edge i P u b l =
    let x : Box (width ws) (height ws) (tile_of ws i) = P.boxes.box i u in
    ⊎_elim
    (λ (s : word ws i 1 < edge).
    let j = b.rows (word ws i 1) s in
    let q : j.0 ≡ i = P.one j.0 i 0 (word ws i 1) j.1.counted u (starts_holds ws j.0 0 (word ws i 1) P.boxes j.1) (record { from_left = omega arith; to_right = omega (arith, x.wide); from_bottom = omega arith; to_top = x.tall }) in
    absurd (omega (arith, j.2)))
    (λ (s : edge ≤ word ws i 1). ⊎_elim
    (λ (r : edge < word ws i 1).
    let m = P.cover 0 edge (omega (arith, P.header.sizes.wide)) (omega (arith, x.tall, x.under)) in
    let z : word ws m.0 0 ≡ 0 = omega (arith, m.2.from_left) in
    absurd (⊎_elim
    (λ (v : m.0 < i). omega (arith, b.tops m.0 v z, m.2.to_top))
    (λ (v : i ≤ m.0). ⊎_elim
    (λ (w : i < m.0). ⊎_elim (λ k. omega (arith, m.2.from_bottom)) (λ k. omega (arith, m.2.from_bottom)) (later (count ws) (tile_of ws) P.order i m.0 w m.1))
    (λ (w : m.0 ≤ i). let q : m.0 ≡ i = omega arith in omega (arith, m.2.from_bottom, ap (λ (k : ℕ). word ws k 1) q))
    (lt_or_ge i m.0))
    (lt_or_ge m.0 i)))
    (λ (r : word ws i 1 ≤ edge). omega arith)
    (lt_or_ge edge (word ws i 1)))
    (lt_or_ge (word ws i 1) edge)

pub border_end : (ws : List ℕ) (edge i : ℕ) → Plane ws → count ws ≤ i → Border ws edge i → edge ≡ height ws
border_end ws edge i P u b =
    ⊎_elim
    (λ (s : edge < height ws).
    let m = P.cover 0 edge (omega (arith, P.header.sizes.wide)) s in
    absurd (omega (arith, b.tops m.0 (omega (arith, m.1)) (omega (arith, m.2.from_left)), m.2.to_top)))
    (λ s. omega (arith, b.under))
    (lt_or_ge edge (height ws))

-- so past the last tile the border is covered exactly if `edge` is the top
pub border_tells : (ws : List ℕ) (edge i h : ℕ) → count ws ≤ i → Border ws edge i → h ≡ height ws → Tells (eqb edge h) (Column ws) (Plane ws)
border_tells ws edge i h u b e = go (eqb edge h) refl
  where
    go : (t : Bool) → eqb edge h ≡ t → Tells t (Column ws) (Plane ws)
    go true q = λ y v. let j = b.rows y (omega (arith, eqb-true edge h q)) in (j.0, j.1)
    go false q = λ P. eqb-false edge h q (border_end ws edge i P u b ∙ sym e)

-- ---- down the right side of tile i, which is known from row y up; tile s is the next
pub record Down (ws : List ℕ) (i y s : ℕ) : Type 0 where
  pub most : y ≤ word ws i 3
  pub next : word ws i 1 < y → Names ws s (word ws i 2) (y - 1)
  pub known : (z : ℕ) → y ≤ z → z < word ws i 3 → (j : ℕ) × Starts ws j (word ws i 2) z × (word ws i 4 ≡ word ws j 4 → ⊥)

pub down_first : (ws : List ℕ) (i : ℕ) → Boxes ws → Stitches ws → i < count ws → (word ws i 2 ≡ width ws → ⊥) → Down ws i (word ws i 3) (word ws i 7)
down_first ws i B T u f =
    let b = B.box i u in
    record { most = omega arith; next = λ _. (T i u).tr.0 (omega (arith, b.inside, f)); known = λ z p q. absurd (omega arith) }

pub down_next : (ws : List ℕ) (i y s : ℕ) → Stitches ws → Down ws i y s → word ws i 1 < y → word ws s 0 ≡ word ws i 2 → (word ws i 4 ≡ word ws s 4 → ⊥) → Down ws i (word ws s 1) (word ws s 5)
down_next ws i y s T D u e f =
    let n = D.next u in
    record {
      most = omega (arith, n.held, D.most);
      next = λ v. subst (λ (x : ℕ). Names ws (word ws s 5) x (word ws s 1 - 1)) e ((T s n.counted).lb.0 (omega arith));
      known = λ z p q. ⊎_elim (λ (v : z < y). (s, record { counted = n.counted; left = e; low = p; high = omega (arith, n.held) }, f)) (λ (v : y ≤ z). D.known z v q) (lt_or_ge z y);
    }

-- in a plane the next tile begins where tile i ends, and has another type
module _ (ws : List ℕ) (i y s : ℕ) (P : Plane ws) (o : i < count ws) (D : Down ws i y s) (u : word ws i 1 < y) where
  pub down_begins : word ws s 0 ≡ word ws i 2
  down_begins = let n = D.next u in begins_there ws P i s (y - 1) o n.counted (omega arith) (omega (arith, D.most)) n.held

  pub down_differs : word ws i 4 ≡ word ws s 4 → ⊥
  down_differs =
      let n = D.next u in
      P.sides i s o n.counted (y - 1) (record { joins = down_begins; low_s = omega arith; high_s = omega (arith, D.most); low_t = n.held.from_bottom; high_t = n.held.to_top })
