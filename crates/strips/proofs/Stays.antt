-- What stays: a strip of the picture before that the brush does not touch is a strip after, one that begins below it begins there after, and so the tiles that are kept cover all squares below the area. A tile's number tells whether it begins low.
use Prim.Native.Nat.{ℕ, suc, ◌+◌, ◌-◌, ◌≤◌, ◌<◌}
use native.Mathlib.Omega.{arith}
use mathlib.Core.Path.{◌≡◌, sym, ◌∙◌, ap, subst}
use mathlib.Core.Logic.{inl, inr, ⊎_elim}
use mathlib.Core.List.{List}
use Rattle.plane.specs.declared.tile.Area.{Area}
use Rattle.plane.specs.declared.tile.Tile.{Tile}
use Rattle.plane.specs.Picture.{Picture}
use Rattle.plane.specs.Strips.{Holds, Precedes, Run, Strip}
use Rattle.plane.specs.Words.{count, height, tile_of, width}
use Rattle.brush.specs.declared.brush.Brush.{Brush}
use Rattle.brush.specs.Brush.{Given, InArea, Shown, Upward, after, goal}
use Rattle.strips.specs.Cover.{CoveredBy, Kept, LowTo, Part, SameStart, Untouched, above_it, below_it, left_of, right_of}
use Rattle.slots.specs.Slots.{Has, Past, PlaceOf, PutTile}
use Rattle.plane.proofs.Basics.{lt_or_ge}
use Rattle.brush.proofs.Pieces.{after_out}
use Rattle.slots.proofs.Places.{first_too}
use Rattle.brush.proofs.Spans.{one_run}

-- ---- two pictures that agree outside an area
abbrev pub Agree : Picture → Picture → Area → Type 0
Agree p q a = (x y : ℕ) → (InArea a x y → ⊥) → p x y ≡ q x y

pub after_agrees : (p : Picture) (b : Brush) → Agree p (after p b) b.area
after_agrees p b x y h = sym (after_out p b x y h)

pub agree_back : {p q : Picture} (a : Area) → Agree p q a → Agree q p a
agree_back a f x y h = sym (f x y h)

-- a run is the same where the two agree on it and beside it
run_agree : {w : ℕ} {p q : Picture} {l r k y : ℕ} → ((x : ℕ) → l ≤ suc x → x ≤ r → p x y ≡ q x y) → l < r → Run w p l r k y → Run w q l r k y
run_agree {w} {p} {q} {l} {r} {k} {y} f o R = record {
  all = λ x u v. sym (f x (omega arith) (omega arith)) ∙ R.all x u v;
  start = λ u e. R.start u (f (l - 1) (omega arith) (omega arith) ∙ e);
  stop = λ u e. R.stop u (f r (omega arith) (omega arith) ∙ e);
}

-- the rows bottom-1 .. top, from left-1 to right, are outside the area
outside : {t : Tile} {a : Area} → Untouched t a → (x y : ℕ) → t.left ≤ suc x → x ≤ t.right → t.bottom ≤ suc y → y ≤ t.top → InArea a x y → ⊥
outside (left_of u) x y b c d e h = omega arith
outside (right_of u) x y b c d e h = omega arith
outside (below_it u) x y b c d e h = omega arith
outside (above_it u) x y b c d e h = omega arith

-- so a strip that the area does not touch is a strip of both
pub apart_strip : {w h : ℕ} {p q : Picture} {a : Area} {t : Tile} → Agree p q a → Untouched t a → Strip w h p t → Strip w h q t
apart_strip {w} {h} {p} {q} {a} {t} A P S = record {
  box = S.box;
  rows = λ y u v. run_agree (λ x c d. A x y (outside P x y c d (omega arith) (omega arith))) S.box.wide (S.rows y u v);
  below = λ u R. S.below u (run_agree (λ x c d. sym (A x (t.bottom - 1) (outside P x (t.bottom - 1) c d (omega arith) (omega (arith, S.box))))) S.box.wide R);
  above = λ u R. S.above u (run_agree (λ x c d. sym (A x t.top (outside P x t.top c d (omega (arith, S.box)) (omega arith)))) S.box.wide R);
}

-- below the area all runs are the same
pub run_low : {w : ℕ} {p : Picture} (b : Brush) {l r k y : ℕ} → y < b.area.y1 → l < r → Run w p l r k y → Run w (after p b) l r k y
run_low {w} {p} b {l} {r} {k} {y} o u = run_agree (λ x c d. after_agrees p b x y (λ h. omega arith)) u

pub low_run : {w : ℕ} (p : Picture) (b : Brush) {l r k y : ℕ} → y < b.area.y1 → l < r → Run w (after p b) l r k y → Run w p l r k y
low_run {w} p b {l} {r} {k} {y} o u = run_agree (λ x c d. sym (after_agrees p b x y (λ h. omega arith))) u

-- ---- a strip from its lower row
pub upper_strip : {w h : ℕ} {q : Picture} {x y : ℕ} {t : Tile} → Upward w h q x y t → (0 < y → Run w q t.left t.right t.kind (y - 1) → ⊥) → Strip w h q t
upper_strip {w} {h} {q} {x} {y} {t} U f = record {
  box = U.steady.box;
  rows = λ z a b. U.steady.runs z (omega (arith, U.steady.base)) b;
  below = λ a R. f (omega (arith, U.steady.base)) (subst (λ (m : ℕ). Run w q t.left t.right t.kind (m - 1)) U.steady.base R);
  above = U.above;
}

-- a tile of the table that begins below the area begins there after
module _ {w h : ℕ} {p : Picture} (b : Brush) {s u : Tile} (S : Strip w h p s) (o : s.bottom < b.area.y1) (U : Upward w h (after p b) s.left s.bottom u) where
  low_span : (u.left ≡ s.left) × (u.right ≡ s.right) × (u.kind ≡ s.kind)
  low_span =
      let r = U.steady.runs s.bottom (omega arith) (omega (arith, U.steady.here)) in
      let g = run_low b o S.box.wide (S.rows s.bottom (omega arith) S.box.tall) in
      one_run r g U.steady.box.inside S.box.inside s.left U.steady.here.from_left U.steady.here.to_right (omega arith) S.box.wide

  pub low_start : SameStart u s
  low_start = record { left = low_span.0; bottom = U.steady.base }

  pub low_strip : Strip w h (after p b) u
  low_strip = upper_strip U (λ v R. S.below v (low_run p b (omega arith) S.box.wide
      (subst (λ (m : ℕ). Run w (after p b) m s.right s.kind (s.bottom - 1)) low_span.0 (subst (λ (m : ℕ). Run w (after p b) u.left m s.kind (s.bottom - 1)) low_span.1 (subst (λ (m : ℕ). Run w (after p b) u.left u.right m (s.bottom - 1)) low_span.2 R)))))

-- ---- the tiles that stay
-- the same at a tile and an area that were read
pub apart_as : {s t : Tile} {a d : Area} → s ≡ t → a ≡ d → Untouched s a → Untouched t d
apart_as {s} {t} {a} {d} e f A = subst (λ (u : Tile). Untouched u d) e (subst (λ (z : Area). Untouched s z) f A)

-- a strip holds its corner, and any square that is the corner of a tile with its start
pub own_corner : {w h : ℕ} {q : Picture} {t : Tile} → Strip w h q t → Holds t t.left t.bottom
own_corner S = omega (arith, S.box)

pub holds_start : {w h : ℕ} {q : Picture} {s t : Tile} → Strip w h q s → SameStart s t → Holds s t.left t.bottom
holds_start S e = omega (arith, S.box)

precedes_start : {s s' t t' : Tile} → SameStart s s' → SameStart t t' → Precedes s' t' → Precedes s t
precedes_start a b p = ⊎_elim (λ u. inl (omega arith)) (λ u. inr (omega arith)) p

pub same_start : {s t : Tile} → s ≡ t → SameStart s t
same_start e = record { left = ap (λ (u : Tile). u.left) e; bottom = ap (λ (u : Tile). u.bottom) e }

pub strip_at_lem : {w h : ℕ} {q : Picture} {s t : Tile} → s ≡ t → Strip w h q t → Strip w h q s
strip_at_lem {w} {h} {q} e S = subst (λ (u : Tile). Strip w h q u) (sym e) S

pub holds_at : {s t : Tile} {x y : ℕ} → s ≡ t → Holds t x y → Holds s x y
holds_at {s} {t} {x} {y} e S = subst (λ (u : Tile). Holds u x y) (sym e) S

-- a tile put behind the others
module _ {w h : ℕ} {q : Picture} {us vs : List ℕ} {m : ℕ} {s : Tile} (P : Part w h q us m) (Q : PutTile us vs m s) (S : Strip w h q s) (L : (j : ℕ) → j < m → Precedes (tile_of us j) s) where
  stays : (j : ℕ) → j < m → tile_of vs j ≡ tile_of us j
  stays j u = Q.old j (λ e. omega arith)

  pub part_put : Part w h q vs (m + 1)
  part_put = record {
    each = λ j u. ⊎_elim (λ (v : j < m). strip_at_lem (stays j v) (P.each j v)) (λ (v : m ≤ j). let e : j ≡ m = omega arith in subst (λ (i : ℕ). Strip w h q (tile_of vs i)) (sym e) (strip_at_lem Q.new S)) (lt_or_ge j m);
    order = λ i j u v. ⊎_elim
        (λ (o : j < m). precedes_start (same_start (stays i (omega arith))) (same_start (stays j o)) (P.order i j u o))
        (λ (o : m ≤ j). let e : j ≡ m = omega arith in precedes_start (same_start (stays i (omega arith))) (same_start (subst (λ (k : ℕ). tile_of vs k ≡ s) (sym e) Q.new)) (L i (omega arith)))
        (lt_or_ge j m);
  }

  pub has_put : {t : Tile} → Has us m t → Has vs (m + 1) t
  has_put r = (r.0, omega (arith, r.1), stays r.0 r.1 ∙ r.2)

  pub covered_put : (x y : ℕ) → CoveredBy us m x y → CoveredBy vs (m + 1) x y
  covered_put x y r = (r.0, omega (arith, r.1), holds_at (stays r.0 r.1) r.2)

-- one tile more of the table: left out, or put behind the others
module _ {ws us : List ℕ} {b : Brush} {i m : ℕ} (K : Kept ws b us i m) where
  pub kept_skip : (Untouched (tile_of ws i) b.area → ⊥) → b.area.y1 ≤ (tile_of ws i).bottom → Kept ws b us (i + 1) m
  kept_skip f g = record {
    few = omega (arith, K.few);
    part = K.part;
    from = λ j u. let r = K.from j u in (r.0, omega (arith, r.1), r.2);
    apart = λ k u A. ⊎_elim (λ (v : k < i). K.apart k v A) (λ (v : i ≤ k). let e : k ≡ i = omega arith in absurd (f (subst (λ (n : ℕ). Untouched (tile_of ws n) b.area) e A))) (lt_or_ge k i);
    low = λ k u o. ⊎_elim (λ (v : k < i). K.low k v o) (λ (v : i ≤ k). let e : k ≡ i = omega arith in absurd (no (subst (λ (n : ℕ). (tile_of ws n).bottom < b.area.y1) e o))) (lt_or_ge k i);
  }
    where
      no : (tile_of ws i).bottom < b.area.y1 → ⊥
      no u = omega arith

  module _ {vs : List ℕ} {s : Tile} (G : Shown ws) (c : i < count ws) (Q : PutTile us vs m s) (S : Strip (width ws) (height ws) (goal ws b) s) (E : SameStart s (tile_of ws i)) where
    later : (j : ℕ) → j < m → Precedes (tile_of us j) s
    later j u = let r = K.from j u in precedes_start r.2 E (G.order r.0 i r.1 c)

    pub kept_add : (Untouched (tile_of ws i) b.area → s ≡ tile_of ws i) → Kept ws b vs (i + 1) (m + 1)
    kept_add f = record {
      few = omega (arith, K.few);
      part = part_put K.part Q S later;
      from = λ j u. ⊎_elim
          (λ (v : j < m). let r = K.from j v in (r.0, omega (arith, r.1), start (stays K.part Q S later j v) r.2))
          (λ (v : m ≤ j). let e : j ≡ m = omega arith in (i, omega arith, start (subst (λ (n : ℕ). tile_of vs n ≡ s) (sym e) Q.new) E)) (lt_or_ge j m);
      apart = λ k u A. ⊎_elim
          (λ (v : k < i). has_put K.part Q S later (K.apart k v A))
          (λ (v : i ≤ k). let e : k ≡ i = omega arith in (m, omega arith, Q.new ∙ (f (subst (λ (n : ℕ). Untouched (tile_of ws n) b.area) e A) ∙ ap (tile_of ws) (sym e)))) (lt_or_ge k i);
      low = λ k u o. ⊎_elim
          (λ (v : k < i). covered_put K.part Q S later _ _ (K.low k v o))
          (λ (v : i ≤ k). let e : k ≡ i = omega arith in (m, omega arith, holds_at Q.new (subst (λ (n : ℕ). Holds s (tile_of ws n).left (tile_of ws n).bottom) (sym e) (holds_start S E)))) (lt_or_ge k i);
    }
      where
        start : {t t' u : Tile} → t ≡ t' → SameStart t' u → SameStart t u
        start {t} {t'} {u} e r = subst (λ (z : Tile). SameStart z u) (sym e) r

-- ---- the tiles of the table that begin low are those before the end of the row above the area
pub low_to : {ws : List ℕ} (a : Area) {n j : ℕ} {s : Tile} → Shown ws → Past (width ws) a.y2 s → n ≡ count ws → PlaceOf ws n s j → LowTo ws a j
low_to {ws} a {n} {j} {s} G e q P = record {
  most = omega (arith, P.most);
  low = λ i u. ⊎_elim (λ v. omega (arith, e.bottom)) (λ v. omega (arith, v.0, e.bottom)) (P.lower i u);
  high = λ i u v. ⊎_elim
      (λ (o : a.y2 < (tile_of ws i).bottom). o)
      (λ (o : (tile_of ws i).bottom ≤ a.y2). absurd (P.after (omega arith) (first_too ws (width ws) a.y2 (λ k l v c. G.order k l v (omega arith)) e P i (omega arith) u (before i v o))))
      (lt_or_ge a.y2 (tile_of ws i).bottom);
}
  where
    before : (i : ℕ) → i < count ws → (tile_of ws i).bottom ≤ a.y2 → Precedes (tile_of ws i) s
    before i u o = ⊎_elim
        (λ (v : (tile_of ws i).bottom < a.y2). inl (omega (arith, e.bottom)))
        (λ (v : a.y2 ≤ (tile_of ws i).bottom). inr (omega (arith, e.bottom), omega (arith, e.left, (G.each i u).box)))
        (lt_or_ge (tile_of ws i).bottom a.y2)

-- where a tile begins tells whether its number is one of these
pub low_number : {ws : List ℕ} {a : Area} {j : ℕ} → LowTo ws a j → (i : ℕ) → i < count ws → (tile_of ws i).bottom ≤ a.y2 → i < j
low_number {j = j} L i u o = ⊎_elim (λ (v : i < j). v) (λ (v : j ≤ i). absurd (omega (arith, L.high i v u))) (lt_or_ge i j)

pub high_number : {ws : List ℕ} {a : Area} {j : ℕ} → LowTo ws a j → (i : ℕ) → a.y2 < (tile_of ws i).bottom → j ≤ i
high_number {j = j} L i o = ⊎_elim (λ (v : i < j). absurd (omega (arith, L.low i v))) (λ (v : j ≤ i). v) (lt_or_ge i j)

-- ---- every square below the area is covered
pub kept_low : {ws us : List ℕ} {b : Brush} {j m : ℕ} → Given ws b → LowTo ws b.area j → Kept ws b us j m → (x y : ℕ) → x < width ws → y < height ws → y < b.area.y1 → CoveredBy us m x y
kept_low {ws} {us} {b} {j} {m} I L K x y hx hy o =
    let G = I.shown in
    let d = G.cover x y hx hy in
    let T = tile_of ws d.0 in
    let S = G.each d.0 d.1 in
    let H = d.2 in
    let r = K.low d.0 (low_number L d.0 d.1 (omega (arith, H.from_bottom, I.brush.area.some_y))) (omega (arith, H.from_bottom)) in
    let B = K.part.each r.0 r.1 in
    (r.0, r.1, reach S H B r.2 o)
  where
    reach : {w h : ℕ} {p : Picture} {s u : Tile} → Strip w h p s → Holds s x y → Strip w h (after p b) u → Holds u s.left s.bottom → y < b.area.y1 → Holds u x y
    reach {w} {h} {p} {s} {u} S H B I o =
        let g = run_low b (omega arith) S.box.wide (S.rows s.bottom (omega arith) S.box.tall) in
        let e = one_run (B.rows s.bottom I.from_bottom I.to_top) g B.box.inside S.box.inside s.left I.from_left I.to_right (omega arith) S.box.wide in
        let up : y < u.top = ⊎_elim (λ v. v) (λ (v : u.top ≤ y). absurd (B.above (omega (arith, S.box))
        (subst (λ (n : ℕ). Run w (after p b) n u.right u.kind u.top) (sym e.0) (subst (λ (n : ℕ). Run w (after p b) s.left n u.kind u.top) (sym e.1) (subst (λ (n : ℕ). Run w (after p b) s.left s.right n u.top) (sym e.2)
        (run_low b (omega arith) S.box.wide (S.rows u.top (omega arith) (omega arith)))))))) (lt_or_ge y u.top) in
        record { from_left = omega (arith, e.0); to_right = omega (arith, e.1); from_bottom = omega arith; to_top = up }

pub keep_low : {w h : ℕ} {p : Picture} (b : Brush) {s s' u : Tile} → Strip w h p s → s' ≡ s → s'.bottom < b.area.y1 → Upward w h (after p b) s'.left s'.bottom u → Strip w h (after p b) u × SameStart u s
keep_low {w} {h} {p} b {s} {s'} {u} S e o U =
    let v = subst (λ (z : Tile). z.bottom < b.area.y1) e o in
    let X = subst (λ (z : Tile). Upward w h (after p b) z.left z.bottom u) e U in
    (low_strip b S v X, low_start b S v X)

pub keep_apart : {w h : ℕ} {p : Picture} (b : Brush) {s s' : Tile} → Strip w h p s → s' ≡ s → Untouched s b.area → Strip w h (after p b) s'
keep_apart {w} {h} {p} b S e A = strip_at_lem e (apart_strip (after_agrees p b) A S)

pub bottom_from : {s s' : Tile} {n : ℕ} → s' ≡ s → n ≤ s'.bottom → n ≤ s.bottom
bottom_from {s} {s'} {n} e h = subst (λ (z : Tile). n ≤ z.bottom) e h
