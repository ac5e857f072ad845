-- How areas drawn into a local picture add up: one beside or above another, a stretch of a row, and copies of a row.
use Prim.Native.Nat.{ℕ, ◌+◌, ◌-◌, ◌*◌, ◌<◌, ◌≤◌}
use mathlib.Core.Bool.{Bool, true, false, cond}
use mathlib.Core.List.{List}
use mathlib.Core.Path.{◌≡◌, refl, sym, ◌∙◌, ap}
use mathlib.Core.Logic.{◌⊎◌, inl, inr, ⊎_elim}
use native.Mathlib.Omega.{arith}
use lib.ListN.{length, get_or}
use Rattle.std.specs.List.{CopiedTo, SameBelow, SameFrom}
use Rattle.plane.specs.declared.tile.Area.{Area}
use Rattle.plane.specs.Fill.{Filled}
use Rattle.plane.specs.Picture.{Picture, area, in_area}
use Rattle.plane.proofs.Basics.{lt_or_ge, tf, is_false}
use Rattle.rules.proofs.Window.{Within, within, area_of}
use Rattle.piece.specs.Cut.{Drawn, row_of}

-- ---- areas
-- an area that holds no square
pub drawn_none : {f : Picture} {a : Area} {m : List ℕ} → ((x y : ℕ) → Within a x y → ⊥) → Drawn f a m m
drawn_none {f} {a} {m} none = record { long = refl; square = λ x y _ _. sym (ap (λ z. cond z (f x y) (get_or m (y * 82 + x) 0)) (is_false (in_area a x y) (λ e. none x y (within a x y e)))) }

-- a square that is not in the area
pub drawn_else : {f : Picture} {a : Area} {m m₁ : List ℕ} → Drawn f a m m₁ → (x y : ℕ) → x < 82 → y < 82 → (Within a x y → ⊥) → get_or m₁ (y * 82 + x) 0 ≡ get_or m (y * 82 + x) 0
drawn_else {f} {a} {m} d x y l h none = d.square x y l h ∙ ap (λ z. cond z (f x y) (get_or m (y * 82 + x) 0)) (is_false (in_area a x y) (λ e. none (within a x y e)))

-- and one that is
pub drawn_here : {f : Picture} {a : Area} {m m₁ : List ℕ} → Drawn f a m m₁ → (x y : ℕ) → x < 82 → y < 82 → Within a x y → get_or m₁ (y * 82 + x) 0 ≡ f x y
drawn_here {f} {a} {m} d x y l h i = d.square x y l h ∙ ap (λ z. cond z (f x y) (get_or m (y * 82 + x) 0)) (area_of a x y i)

-- pictures that agree in the area
pub drawn_as : {f g : Picture} {a : Area} {m m₁ : List ℕ} → ((x y : ℕ) → Within a x y → f x y ≡ g x y) → Drawn f a m m₁ → Drawn g a m m₁
drawn_as {f} {g} {a} {m} same d = record { long = d.long; square = λ x y l h. d.square x y l h ∙ go x y (in_area a x y) refl }
  where
    go : (x y : ℕ) (b : Bool) → in_area a x y ≡ b → cond b (f x y) (get_or m (y * 82 + x) 0) ≡ cond b (g x y) (get_or m (y * 82 + x) 0)
    go x y true e = same x y (within a x y e)
    go x y false e = refl

-- two areas that make up a third
drawn_both : {f : Picture} {a b c : Area} {m m₁ m₂ : List ℕ} → ((x y : ℕ) → Within c x y → Within a x y ⊎ Within b x y) → ((x y : ℕ) → Within a x y → Within c x y) → ((x y : ℕ) → Within b x y → Within c x y)
    → Drawn f a m m₁ → Drawn f b m₁ m₂ → Drawn f c m m₂
drawn_both {f} {a} {b} {c} {m} split left right p q = record {
  long = q.long ∙ p.long;
  square = λ x y l h. q.square x y l h ∙ ap (λ z. cond (in_area b x y) (f x y) z) (p.square x y l h) ∙ go x y (in_area a x y) refl (in_area b x y) refl (in_area c x y) refl;
}
  where
    go : (x y : ℕ) (i : Bool) → in_area a x y ≡ i → (j : Bool) → in_area b x y ≡ j → (k : Bool) → in_area c x y ≡ k
        → cond j (f x y) (cond i (f x y) (get_or m (y * 82 + x) 0)) ≡ cond k (f x y) (get_or m (y * 82 + x) 0)
    go x y i d true e true g = refl
    go x y i d true e false g = tf (sym (area_of c x y (right x y (within b x y e))) ∙ g)
    go x y true d false e true g = refl
    go x y true d false e false g = tf (sym (area_of c x y (left x y (within a x y d))) ∙ g)
    go x y false d false e false g = refl
    go x y false d false e true g =
        ⊎_elim (λ i. tf (sym (area_of a x y i) ∙ d)) (λ i. tf (sym (area_of b x y i) ∙ e)) (split x y (within c x y g))

-- one beside the other, and one above the other
pub drawn_right : {f : Picture} {x1 y1 x2 y2 x3 : ℕ} {m m₁ m₂ : List ℕ} → x1 ≤ x2 → x2 ≤ x3 → Drawn f (area x1 y1 x2 y2) m m₁ → Drawn f (area x2 y1 x3 y2) m₁ m₂ → Drawn f (area x1 y1 x3 y2) m m₂
drawn_right {f} {x1} {y1} {x2} {y2} {x3} l h = drawn_both
    (λ x y i. ⊎_elim
    (λ (s : x < x2). inl (record { left_of = i.left_of; right_of = s; low = i.low; high = i.high }))
    (λ (s : x2 ≤ x). inr (record { left_of = s; right_of = i.right_of; low = i.low; high = i.high }))
    (lt_or_ge x x2))
    (λ x y i. record { left_of = i.left_of; right_of = omega (arith, i.right_of); low = i.low; high = i.high })
    (λ x y i. record { left_of = omega (arith, i.left_of); right_of = i.right_of; low = i.low; high = i.high })

pub drawn_up : {f : Picture} {x1 y1 x2 y2 y3 : ℕ} {m m₁ m₂ : List ℕ} → y1 ≤ y2 → y2 ≤ y3 → Drawn f (area x1 y1 x2 y2) m m₁ → Drawn f (area x1 y2 x2 y3) m₁ m₂ → Drawn f (area x1 y1 x2 y3) m m₂
drawn_up {f} {x1} {y1} {x2} {y2} {y3} l h = drawn_both
    (λ x y i. ⊎_elim
    (λ (s : y < y2). inl (record { left_of = i.left_of; right_of = i.right_of; low = i.low; high = s }))
    (λ (s : y2 ≤ y). inr (record { left_of = i.left_of; right_of = i.right_of; low = s; high = i.high }))
    (lt_or_ge y y2))
    (λ x y i. record { left_of = i.left_of; right_of = i.right_of; low = i.low; high = omega (arith, i.high) })
    (λ x y i. record { left_of = i.left_of; right_of = i.right_of; low = omega (arith, i.low); high = i.high })

-- a stretch of one row
pub drawn_row : {t x1 x2 y : ℕ} {m m₁ : List ℕ} → length m ≡ 6724 → x2 ≤ 82 → y < 82 → Filled t (y * 82 + x1) (y * 82 + x2) m m₁ → Drawn (λ _ _. t) (area x1 y x2 (y + 1)) m m₁
drawn_row {t} {x1} {x2} {y} {m} {m₁} sized r h p = record { long = p.long; square = λ u v a b. at u v a b (in_area (area x1 y x2 (y + 1)) u v) refl }
  where
    at : (u v : ℕ) → u < 82 → v < 82 → (s : Bool) → in_area (area x1 y x2 (y + 1)) u v ≡ s → get_or m₁ (v * 82 + u) 0 ≡ cond s t (get_or m (v * 82 + u) 0)
    at u v a b true e = let i = within (area x1 y x2 (y + 1)) u v e in
        p.here (v * 82 + u) (omega arith) (omega (arith, i.left_of, i.low)) (omega (arith, i.right_of, i.high))
    at u v a b false e = p.else (v * 82 + u) (λ c d. let w : v ≡ y = omega arith in
        tf (sym (area_of (area x1 y x2 (y + 1)) u v (record { left_of = omega arith; right_of = omega arith; low = omega arith; high = omega arith })) ∙ e))

-- ---- copies
-- one row
pub drawn_copy : (v to u1 u2 : ℕ) {m m₁ : List ℕ} → u1 ≤ u2 → u2 ≤ 82 → length m₁ ≡ length m
    → CopiedTo m m₁ (v * 82 + u1) (to * 82 + u1) (v * 82 + u2 - (v * 82 + u1)) × SameBelow m m₁ (to * 82 + u1) × SameFrom m m₁ (to * 82 + u1 + (v * 82 + u2 - (v * 82 + u1)))
    → Drawn (row_of m v) (area u1 to u2 (to + 1)) m m₁
drawn_copy v to u1 u2 {m} {m₁} l h long c = record { long = long; square = λ x y a b. at x y a b (in_area (area u1 to u2 (to + 1)) x y) refl }
  where
    at : (x y : ℕ) → x < 82 → y < 82 → (s : Bool) → in_area (area u1 to u2 (to + 1)) x y ≡ s → get_or m₁ (y * 82 + x) 0 ≡ cond s (get_or m (v * 82 + x) 0) (get_or m (y * 82 + x) 0)
    at x y a b true e =
        let i = within (area u1 to u2 (to + 1)) x y e in
        let w : y ≡ to = omega (arith, i.low, i.high) in
        let k : v * 82 + u1 + (y * 82 + x - (to * 82 + u1)) ≡ v * 82 + x = omega (arith, i.left_of) in
        c.0 (y * 82 + x) 0 (omega (arith, i.left_of)) (omega (arith, i.right_of)) ∙ ap (λ n. get_or m n 0) k
    at x y a b false e = ⊎_elim
        (λ (s : y * 82 + x < to * 82 + u1). c.1 (y * 82 + x) 0 s)
        (λ (s : to * 82 + u1 ≤ y * 82 + x). c.2 (y * 82 + x) 0 (⊎_elim (λ (z : y * 82 + x < to * 82 + u1 + (v * 82 + u2 - (v * 82 + u1))).
        let w : y ≡ to = omega arith in
        tf (sym (area_of (area u1 to u2 (to + 1)) x y (record { left_of = omega arith; right_of = omega arith; low = omega arith; high = omega arith })) ∙ e))
        (λ (z : to * 82 + u1 + (v * 82 + u2 - (v * 82 + u1)) ≤ y * 82 + x). z)
        (lt_or_ge (y * 82 + x) (to * 82 + u1 + (v * 82 + u2 - (v * 82 + u1))))))
        (lt_or_ge (y * 82 + x) (to * 82 + u1))

-- one row more
pub copies_more : {v y u1 u2 : ℕ} {m m₁ m₂ : List ℕ} → v < y → y < 82 → u2 ≤ 82 → Drawn (row_of m v) (area u1 (v + 1) u2 y) m m₁ → Drawn (row_of m₁ v) (area u1 y u2 (y + 1)) m₁ m₂
    → Drawn (row_of m v) (area u1 (v + 1) u2 (y + 1)) m m₂
copies_more {v} {y} g h r p q = drawn_up (omega arith) (omega arith) p
    (drawn_as (λ x z i. drawn_else p x v (omega (arith, i.right_of)) (omega arith) (λ j. omega (arith, j.low))) q)
