-- What a brush of one type answers is what paint answers, and what a brush of bits answers is what stamp answers: the conditions of the two lists say the same.
use Prim.Native.Nat.{ℕ, ◌<◌}
use mathlib.Core.Logic.{inl, inr}
use mathlib.Core.List.{List, [], ◌∷◌}
use Rattle.plane.specs.declared.tile.Area.{Area}
use Rattle.plane.specs.Area.{AreaIn}
use Rattle.plane.specs.Picture.{painted, stamped}
use Rattle.plane.specs.Refusal.{Lowest, ◌unless◌}
use Rattle.plane.specs.Words.{PictureTable, height, kinds, width}
use Rattle.brush.specs.declared.brush.Ink.TheVariants.{Flat as OneType, Bits}
use Rattle.brush.specs.Brush.{BrushIn, after, ink_at}
use Rattle.tables.specs.Like.{HasRoom, painted_of, stamped_of}
use Rattle.paint.specs.Paint.{PaintLengths, PlanePainted, PlaneStamped, StampIn}
use Rattle.paint.specs.Steps.{BrushedZero}

-- the lowest number of two conditions on words and working room, and then of others
abbrev LowestOf : List ℕ → List ℕ → List (ℕ × Type 0) → ℕ → Type 0
LowestOf ws work cs n = Lowest (1 unless PaintLengths ws work ∷ 3 unless PictureTable ws ∷ cs) n

then : {ws work : List ℕ} (cs ds : List (ℕ × Type 0)) {n : ℕ} → (Lowest cs n → Lowest ds n) → LowestOf ws work cs n → LowestOf ws work ds n
then cs ds f (inl p) = inl p
then cs ds f (inr (p, inl q)) = inr (p, inl q)
then cs ds f (inr (p, inr (q, r))) = inr (p, inr (q, f r))

-- the area of a brush of one type, and room
flat_rest : {k w h t n : ℕ} {a : Area} {P : Type 0} → Lowest (5 unless (k < t) ∷ 6 unless BrushIn w h (record { area = a; ink = OneType k }) ∷ 7 unless P ∷ []) n
    → Lowest (5 unless (k < t) ∷ 6 unless AreaIn w h a ∷ 7 unless P ∷ []) n
flat_rest (inl p) = inl p
flat_rest (inr (p, inl q)) = inr (p, inl ((λ A. q.0 (record { area = A; small = tt })), q.1))
flat_rest (inr (p, inr (q, r))) = inr (p, inr (q.area, r))

-- the area of a brush of bits, whose types are always below T, and room
bits_rest : {w h n : ℕ} {a : Area} {rows : List ℕ} {P : Type 0} → Lowest (5 unless Unit {0} ∷ 6 unless BrushIn w h (record { area = a; ink = Bits rows }) ∷ 7 unless P ∷ []) n
    → Lowest (6 unless StampIn w h a ∷ 7 unless P ∷ []) n
bits_rest (inl p) = absurd (p.0 tt)
bits_rest (inr (p, inl q)) = inl ((λ S. q.0 (record { area = S.area; small = S.small })), q.1)
bits_rest (inr (p, inr (q, r))) = inr (record { area = q.area; small = q.small }, r)

pub brushed_flat : {ws work vs left : List ℕ} {a : Area} {k n : ℕ} → BrushedZero ws (record { area = a; ink = OneType k }) work n vs left → PlanePainted ws a k work n vs left
unfolding after ink_at painted
brushed_flat {ws} {work} {a = a} {k = k} B = record {
  outcome = record {
    number = then
        (5 unless (k < kinds ws) ∷ 6 unless BrushIn (width ws) (height ws) (record { area = a; ink = OneType k }) ∷ 7 unless HasRoom ws (painted_of ws a k) ∷ [])
        (5 unless (k < kinds ws) ∷ 6 unless AreaIn (width ws) (height ws) a ∷ 7 unless HasRoom ws (painted_of ws a k) ∷ [])
        flat_rest B.brushed.outcome.number;
    leaves = B.brushed.outcome.leaves;
  };
  zero = B.zero;
}

pub brushed_bits : {ws work vs left rows : List ℕ} {a : Area} {n : ℕ} → BrushedZero ws (record { area = a; ink = Bits rows }) work n vs left → PlaneStamped ws a rows work n vs left
unfolding after ink_at stamped
brushed_bits {ws} {work} {rows = rows} {a = a} B = record {
  outcome = record {
    number = then
        (5 unless Unit {0} ∷ 6 unless BrushIn (width ws) (height ws) (record { area = a; ink = Bits rows }) ∷ 7 unless HasRoom ws (stamped_of ws a rows) ∷ [])
        (6 unless StampIn (width ws) (height ws) a ∷ 7 unless HasRoom ws (stamped_of ws a rows) ∷ [])
        bits_rest B.brushed.outcome.number;
    leaves = B.brushed.outcome.leaves;
  };
  zero = B.zero;
}
