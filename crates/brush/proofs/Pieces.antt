-- The picture after a brush, and its pieces: what the brush sets (its area, or a run of equal bits), and a tile of the table clipped by it, are of one type.
use Prim.Native.Nat.{ℕ, ◌+◌, ◌-◌, ◌≤◌, ◌<◌}
use native.Mathlib.Omega.{arith}
use mathlib.Core.Bool.{true}
use mathlib.Core.Path.{◌≡◌, sym, ◌∙◌, subst}
use mathlib.Core.Logic.{⊎_elim}
use mathlib.Core.List.{List}
use lib.ListN.{get_or}
use Rattle.plane.specs.declared.tile.Area.{Area}
use Rattle.plane.specs.declared.tile.Tile.{Tile}
use Rattle.plane.specs.Picture.{Picture, bit_of, holds, in_area}
use Rattle.plane.specs.Plane.{Names}
use Rattle.plane.specs.Strips.{Strip}
use Rattle.plane.specs.Words.{tile_of}
use Rattle.brush.specs.declared.brush.Brush.{Brush}
use Rattle.brush.specs.declared.brush.Ink.TheVariants.{Flat as OneType, Bits}
use Rattle.brush.specs.Brush.{BrushIn, Canvas, Clipped, Flat, Given, InArea, InkTile, SameBits, after, brush_tile, goal_of, ink_at, inked, tall, wide}
use Rattle.plane.proofs.Basics.{bool_cases}
use Rattle.plane.proofs.Index.{holds_true, true_holds}

-- ---- the squares of an area
pub in_true : (a : Area) (x y : ℕ) → InArea a x y → in_area a x y ≡ true
unfolding in_area holds
in_true a x y h = true_holds (brush_tile a 0) x y h

pub true_in : (a : Area) (x y : ℕ) → in_area a x y ≡ true → InArea a x y
unfolding in_area holds
true_in a x y e = holds_true (brush_tile a 0) x y e

-- ---- the picture after
pub after_in : (p : Picture) (b : Brush) (x y : ℕ) → InArea b.area x y → after p b x y ≡ inked b x y
unfolding after
after_in p b x y h = rw (in_true b.area x y h)

pub after_out : (p : Picture) (b : Brush) (x y : ℕ) → (InArea b.area x y → ⊥) → after p b x y ≡ p x y
unfolding after
after_out p b x y h = ⊎_elim (λ e. absurd (h (true_in b.area x y e))) (λ e. rw e) (bool_cases (in_area b.area x y))

-- ---- the ink of the area
pub ink_flat : {b : Brush} {x y k : ℕ} → b.ink ≡ OneType k → InArea b.area x y → InkTile b x y (brush_tile b.area k)
unfolding ink_at
ink_flat e h = record { here = omega (arith, h); inside = λ i z v. omega (arith, v); each = λ i z v. rw e }

-- the run of equal bits of row y around x
pub ink_bits : {b : Brush} {x y l r row word : ℕ} {rows : List ℕ} → b.ink ≡ Bits rows → InArea b.area x y → row ≡ y - b.area.y1 → word ≡ get_or rows row 0
    → l ≤ x - b.area.x1 → x - b.area.x1 < r → r ≤ b.area.x2 - b.area.x1 → SameBits word (bit_of word (x - b.area.x1)) l r
    → InkTile b x y (record { left = b.area.x1 + l; bottom = y; right = b.area.x1 + r; top = y + 1; kind = bit_of word (x - b.area.x1) })
unfolding ink_at
ink_bits {b} {x} {y} {row = row} o h e f u v w S = record {
  here = omega (arith, h);
  inside = λ i z g. omega (arith, h, g);
  each = λ i z g. let q : z ≡ y = omega (arith, g) in rw (o, q, sym e, sym f) (sym (S.each (i - b.area.x1) (omega (arith, g)) (omega (arith, g))));
}

-- ---- a clipped tile is of one type
pub clip_flat : {w h : ℕ} {p : Picture} {s : Tile} {b : Brush} {x y : ℕ} {t : Tile} → Strip w h p s → BrushIn w h b → Clipped s b x y t → Flat w h (after p b) x y t
clip_flat {w} {h} {p} {s} {b} {x} {y} {t} S A C = record {
  box = record { wide = omega arith; tall = omega arith; inside = side; under = roof };
  here = C.here;
  all = λ i z u. ⊎_elim (λ v. after_in p b i z v.0 ∙ sym v.1) (λ v. after_out p b i z v.0 ∙ ((S.rows z v.1.from_bottom v.1.to_top).all i v.1.from_left v.1.to_right ∙ sym v.2)) (C.each i z u);
}
  where
    side : t.right ≤ w
    side = ⊎_elim (λ v. omega arith) (λ v. omega (arith, S.box)) (C.each (t.right - 1) y (omega arith))

    roof : t.top ≤ h
    roof = ⊎_elim (λ v. omega arith) (λ v. omega (arith, S.box)) (C.each x (t.top - 1) (omega arith))

-- ---- a tile that was named, read and clipped by the brush of the painting
pub named_flat : {c : Canvas} {i x y : ℕ} {s t : Tile} {b : Brush} → Given c.words c.brush → Names c.words i x y → s ≡ tile_of c.words i → b ≡ c.brush
    → Clipped s b x y t → Flat (wide c) (tall c) (goal_of c) x y t
named_flat {c} {i} {x} {y} {s} {t} {b} G N e f C =
    clip_flat (G.shown.each i N.counted) G.brush (subst (λ (d : Brush). Clipped (tile_of c.words i) d x y t) f (subst (λ (u : Tile). Clipped u b x y t) e C))
