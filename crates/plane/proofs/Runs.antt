-- The executable runs and strips against the declared ones.
use Prim.Native.Nat.{ℕ, zero, suc, ◌+◌, ◌-◌, ◌≤◌, ◌<◌}
use native.Mathlib.Omega.{arith}
use mathlib.Core.Bool.{Bool, true, false}
use mathlib.Core.Path.{◌≡◌, refl, sym, ◌∙◌, subst}
use mathlib.Core.Logic.{⊎_elim}
use lib.Dec.{eqb}
use borrow.Author.Tests.{eqb-true, eqb-false, eq-eqb, ne_eqb, not-true}
use Rattle.plane.specs.Picture.{Picture, extent, run_end, begins, same_run, starts}
use Rattle.plane.specs.Strips.{Run}
use Rattle.plane.proofs.Basics.{tf, lt_or_ge, and_left, and_right, and_both}

pub record Extent (f : ℕ → Bool) (at n e : ℕ) : Type 0 where
  pub from : at ≤ e
  pub to : e ≤ at + n
  pub pass : (i : ℕ) → at ≤ i → i < e → f i ≡ true
  pub fail : e < at + n → f e ≡ false

pub extent_is : (f : ℕ → Bool) (at n : ℕ) → Extent f at n (extent f at n)
unfolding extent
extent_is f at zero = record { from = omega arith; to = omega arith; pass = λ i p q. absurd (omega arith); fail = λ p. absurd (omega arith) }
extent_is f at (suc n) = go (f at) refl (extent_is f (suc at) n)
  where
    go : (b : Bool) → f at ≡ b → Extent f (suc at) n (extent f (suc at) n) → Extent f at (suc n) (elim b [ true ↦ extent f (suc at) n | false ↦ at ])
    go true e r = record {
      from = omega arith;
      to = omega arith;
      pass = λ i p q. ⊎_elim (λ (u : at < i). r.pass i u q) (λ (u : i ≤ at). let s : i ≡ at = omega arith in rw s e) (lt_or_ge at i);
      fail = λ p. r.fail (omega arith);
    }
    go false e r = record { from = omega arith; to = omega arith; pass = λ i p q. absurd (omega arith); fail = λ p. e }

-- ---- where a run ends
module _ (w : ℕ) (p : Picture) (x y : ℕ) (hx : x < w) where
  run_extent : Extent (λ i. eqb (p i y) (p x y)) x (w - x) (run_end w p x y)
  unfolding run_end
  run_extent = extent_is (λ i. eqb (p i y) (p x y)) x (w - x)

  pub end_past : x < run_end w p x y
  end_past = ⊎_elim (λ u. u) (λ (u : run_end w p x y ≤ x). let s : run_end w p x y ≡ x = omega (arith, run_extent.from) in
      tf (sym (eq-eqb (p x y) (p x y) refl) ∙ (rw s at (run_extent.fail (omega arith))))) (lt_or_ge x (run_end w p x y))

  pub end_within : run_end w p x y ≤ w
  end_within = omega (arith, run_extent.to)

  pub end_same : (i : ℕ) → x ≤ i → i < run_end w p x y → p i y ≡ p x y
  end_same i a b = eqb-true (p i y) (p x y) (run_extent.pass i a b)

  pub end_stop : run_end w p x y < w → p (run_end w p x y) y ≡ p x y → ⊥
  end_stop a = eqb-false (p (run_end w p x y) y) (p x y) (run_extent.fail (omega arith))

-- ---- where a run begins
pub begins_start : (p : Picture) (x y : ℕ) → begins p x y ≡ true → 0 < x → p (x - 1) y ≡ p x y → ⊥
unfolding begins starts
begins_start p zero y e h = absurd (omega arith)
begins_start p (suc x) y e h = let s : suc x - 1 ≡ x = omega arith in
    rw s (eqb-false (p x y) (p (suc x) y) (not-true _ e))

pub start_begins : (p : Picture) (x y : ℕ) → (0 < x → p (x - 1) y ≡ p x y → ⊥) → begins p x y ≡ true
unfolding begins starts
start_begins p zero y h = refl
start_begins p (suc x) y h = let s : suc x - 1 ≡ x = omega arith in
    rw (ne_eqb (p x y) (p (suc x) y) (rw s at (h (omega arith))))

pub run_here : (w : ℕ) (p : Picture) (x y : ℕ) → x < w → begins p x y ≡ true → Run w p x (run_end w p x y) (p x y) y
run_here w p x y hx e = record { all = end_same w p x y hx; start = begins_start p x y e; stop = end_stop w p x y hx }

-- two runs of one type that share a square are one
module _ {w : ℕ} {p : Picture} {l r k l' r' k' y : ℕ} (a : Run w p l r k y) (b : Run w p l' r' k' y) (x : ℕ) (h₁ : l ≤ x) (h₂ : x < r) (h₃ : l' ≤ x) (h₄ : x < r') where
  pub run_kind : k ≡ k'
  run_kind = sym (a.all x h₁ h₂) ∙ b.all x h₃ h₄

  pub run_left : l' ≤ l
  run_left = ⊎_elim (λ (u : l < l'). absurd (b.start (omega arith) (a.all (l' - 1) (omega arith) (omega arith) ∙ run_kind))) (λ u. u) (lt_or_ge l l')

  pub run_right : r' ≤ w → r' ≤ r
  run_right v = ⊎_elim (λ (u : r < r'). absurd (a.stop (omega arith) (b.all r (omega arith) u ∙ sym run_kind))) (λ u. u) (lt_or_ge r r')

module _ (w : ℕ) (p : Picture) (x y z : ℕ) (hx : x < w) where
  pub same_run_lem : same_run w p x y z ≡ true → Run w p x (run_end w p x y) (p x y) z
  unfolding same_run
  same_run_lem e = let k : p x z ≡ p x y = eqb-true (p x z) (p x y) (and_left (eqb (p x z) (p x y)) _ e) in
      let e₂ = and_right (eqb (p x z) (p x y)) _ e in
      let s : begins p x z ≡ true = and_left (begins p x z) _ e₂ in
      let r : run_end w p x z ≡ run_end w p x y = eqb-true _ _ (and_right (begins p x z) _ e₂) in
      subst (λ (n : ℕ). Run w p x n (p x y) z) r (subst (λ (n : ℕ). Run w p x (run_end w p x z) n z) k (run_here w p x z hx s))

  pub run_same : Run w p x (run_end w p x y) (p x y) z → same_run w p x y z ≡ true
  unfolding same_run
  run_same u = let k : p x z ≡ p x y = u.all x (omega arith) (end_past w p x y hx) in
      let s : begins p x z ≡ true = start_begins p x z (λ h e. u.start h (e ∙ k)) in
      let v = run_here w p x z hx s in
      let i = end_past w p x y hx in
      let j = end_past w p x z hx in
      let r : run_end w p x z ≡ run_end w p x y = omega (arith, run_right u v x (omega arith) i (omega arith) j (end_within w p x z hx), run_right v u x (omega arith) j (omega arith) i (end_within w p x y hx)) in
      and_both _ _ (eq-eqb (p x z) (p x y) k) (and_both _ _ s (eq-eqb _ _ r))
