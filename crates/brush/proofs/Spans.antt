-- Rectangles of one type joined to runs, and runs stacked to strips.
use Prim.Native.Nat.{ℕ, ◌-◌, ◌≤◌, ◌<◌, min}
use native.Mathlib.Omega.{arith}
use mathlib.Core.Path.{◌≡◌, refl, sym, ◌∙◌}
use mathlib.Core.Logic.{◌⊎◌, inl, inr, ⊎_elim}
use Rattle.plane.specs.declared.tile.Tile.{Tile}
use Rattle.plane.specs.Picture.{Picture}
use Rattle.plane.specs.Strips.{Holds, Run}
use Rattle.brush.specs.Brush.{Flat, Rightward, SameSpan, Steady, Unlike, Upward, more_left, more_right, other_kind}
use Rattle.plane.proofs.Basics.{lt_or_ge}
use Rattle.plane.proofs.Runs.{run_kind, run_left, run_right}

-- ---- two runs that share a square are one
pub one_run : {w : ℕ} {q : Picture} {l r k l' r' k' y : ℕ} → Run w q l r k y → Run w q l' r' k' y → r ≤ w → r' ≤ w → (x : ℕ) → l ≤ x → x < r → l' ≤ x → x < r'
    → (l ≡ l') × (r ≡ r') × (k ≡ k')
one_run A B v v' x a b c d =
    (omega (arith, run_left A B x a b c d, run_left B A x c d a b), omega (arith, run_right A B x a b c d v', run_right B A x c d a b v), run_kind A B x a b c d)

-- ---- rectangles of one type: a part of one, two together
module _ {w h : ℕ} {q : Picture} where
  pub flat_join : {x y x' y' : ℕ} {s u t : Tile} → Flat w h q x y s → Flat w h q x' y' u → u.kind ≡ s.kind → t.kind ≡ s.kind → Holds t x y
      → ((i z : ℕ) → Holds t i z → Holds s i z ⊎ Holds u i z) → Flat w h q x y t
  flat_join {x} {y} {t = t} S U k l o f = record {
    box = record {
      wide = omega arith;
      tall = omega arith;
      inside = ⊎_elim (λ v. omega (arith, S.box)) (λ v. omega (arith, U.box)) (f (t.right - 1) y (omega arith));
      under = ⊎_elim (λ v. omega (arith, S.box)) (λ v. omega (arith, U.box)) (f x (t.top - 1) (omega arith));
    };
    here = o;
    all = λ i z v. ⊎_elim (λ b. S.all i z b ∙ sym l) (λ b. U.all i z b ∙ (k ∙ sym l)) (f i z v);
  }

  pub flat_part : {x y : ℕ} {s t : Tile} → Flat w h q x y s → t.kind ≡ s.kind → Holds t x y → ((i z : ℕ) → Holds t i z → Holds s i z) → Flat w h q x y t
  flat_part S l o f = flat_join S S refl l o (λ i z v. inl (f i z v))

  -- a rectangle with a lower top
  lower : {x y m : ℕ} {r : Tile} → Flat w h q x y r → r.bottom ≡ y → y < m → m ≤ r.top → Flat w h q x y (record { left = r.left; bottom = r.bottom; right = r.right; top = m; kind = r.kind })
  lower R b f g = flat_part R refl (omega (arith, R.here)) (λ i z v. omega arith)

  -- the piece past the right end, or before the left end, is of the same type, or it is not
  module _ {x y m : ℕ} {r u : Tile} (R : Flat w h q x y r) (b : r.bottom ≡ y) (m_is : m ≡ min r.top u.top) where
    pub right_on : Flat w h q r.right y u → u.kind ≡ r.kind → Flat w h q x y (record { left = r.left; bottom = r.bottom; right = u.right; top = m; kind = r.kind })
    right_on U k = flat_join R U k refl (omega (arith, R.here, U.here))
        (λ i z v. ⊎_elim (λ (o : i < r.right). inl (omega arith)) (λ (o : r.right ≤ i). inr (omega (arith, U.here))) (lt_or_ge i r.right))

    pub right_stop : Flat w h q r.right y u → (u.kind ≡ r.kind → ⊥) → Rightward w h q x y (record { left = r.left; bottom = r.bottom; right = r.right; top = m; kind = r.kind })
    right_stop U k = record {
      flat = lower R b (omega (arith, R.here, U.here)) (omega arith);
      base = b;
      stop = λ o z c d e. k (sym (U.all r.right z (omega (arith, U.here))) ∙ e);
    }

    pub left_on : 0 < r.left → Flat w h q (r.left - 1) y u → u.kind ≡ r.kind → Flat w h q x y (record { left = u.left; bottom = r.bottom; right = r.right; top = m; kind = r.kind })
    left_on p U k = flat_join R U k refl (omega (arith, R.here, U.here))
        (λ i z v. ⊎_elim (λ (o : i < r.left). inr (omega (arith, U.here))) (λ (o : r.left ≤ i). inl (omega arith)) (lt_or_ge i r.left))

  -- what bounds it on the right still does
  pub left_again : {x y m : ℕ} {r u : Tile} → Rightward w h q x y r → m ≡ min r.top u.top → 0 < r.left → Flat w h q (r.left - 1) y u → u.kind ≡ r.kind
      → Rightward w h q x y (record { left = u.left; bottom = r.bottom; right = r.right; top = m; kind = r.kind })
  left_again {u = u} R m_is p U k = record {
    flat = left_on R.flat R.base m_is p U k;
    base = R.base;
    stop = λ o z c d. R.stop o z c (omega arith);
  }

  -- ---- the rows above
  -- the run above has the span and type, or it has not
  pub up_on : {x y : ℕ} {r u : Tile} → Steady w h q x y r → Steady w h q r.left r.top u → SameSpan u r
      → Steady w h q x y (record { left = r.left; bottom = r.bottom; right = r.right; top = u.top; kind = r.kind })
  up_on {x} {y} {r} {u} R U e = record {
    box = omega (arith, R.box, U.box);
    here = omega (arith, R.here, U.here);
    base = R.base;
    runs = λ z a b. ⊎_elim (λ (v : z < r.top). R.runs z a v) (λ (v : r.top ≤ z). rw (← e.left, ← e.right, ← e.kind) (U.runs z v b)) (lt_or_ge z r.top);
  }

  pub up_stop : {x y : ℕ} {r u : Tile} → Steady w h q x y r → Steady w h q r.left r.top u → (SameSpan u r → ⊥) → Upward w h q x y r
  up_stop {x} {y} {r} {u} R U f = record {
    steady = R;
    above = λ o a. let e = one_run (U.runs r.top (omega arith) (omega (arith, U.box, U.base))) a U.box.inside R.box.inside r.left (omega (arith, U.here)) (omega (arith, U.here)) (omega arith) R.box.wide in
        f (record { left = e.0; right = e.1; kind = e.2 });
  }

-- ---- a piece above that sticks out of the span, or is of another type, ends the strip
pub up_unlike : {w h : ℕ} {q : Picture} {x y : ℕ} {r p : Tile} → Steady w h q x y r → Flat w h q r.left r.top p → Unlike p r → Upward w h q x y r
up_unlike {w} {h} {q} {x} {y} {r} {p} R F U = record { steady = R; above = λ o a. no U a }
  where
    kind_is : Run w q r.left r.right r.kind r.top → p.kind ≡ r.kind
    kind_is a = sym (F.all r.left r.top F.here) ∙ a.all r.left (omega arith) R.box.wide

    no : Unlike p r → Run w q r.left r.right r.kind r.top → ⊥
    no (other_kind f) a = f (kind_is a)
    no (more_left u) a = a.start (omega arith) (F.all (r.left - 1) r.top (omega (arith, F.here)) ∙ kind_is a)
    no (more_right u) a = a.stop (omega (arith, F.box)) (F.all r.right r.top (omega (arith, F.here, R.box)) ∙ kind_is a)
