-- Truth values, decisions on numbers, and lists: what is not of this crate in particular.
use Prim.Native.Nat.{ℕ, ◌*◌, ◌≤◌, ◌<◌}
use native.Mathlib.Nat.{mul-le-mul_left}
use native.Mathlib.Omega.{arith}
use mathlib.Core.Bool.{Bool, true, false, ◌&&◌}
use mathlib.Core.Path.{◌≡◌, refl, sym, ◌∙◌, ap}
use mathlib.Core.Logic.{◌⊎◌, inl, inr, ⊎_elim}
use lib.Dec.{ltb, eqb}
use borrow.Author.Tests.{ltb-true, ltb-false, eqb-true, eqb-false}
use Rattle.plane.specs.declared.tile.Tile.{Tile}

pub bool_cases : (b : Bool) → (b ≡ true) ⊎ (b ≡ false)
bool_cases true = inl refl
bool_cases false = inr refl

pub tf : {A : Type 0} → true ≡ false → A
tf e = let z : ◌≡◌ {A = ℕ} 0 1 = cc in absurd (omega arith)

pub lt_or_ge : (a b : ℕ) → (a < b) ⊎ (b ≤ a)
lt_or_ge a b = ⊎_elim (λ e. inl (ltb-true a b e)) (λ e. inr (ltb-false a b e)) (bool_cases (ltb a b))

pub eq_or_ne : (a b : ℕ) → (a ≡ b) ⊎ (a ≡ b → ⊥)
eq_or_ne a b = ⊎_elim (λ e. inl (eqb-true a b e)) (λ e. inr (eqb-false a b e)) (bool_cases (eqb a b))

pub and_left : (a b : Bool) → (a && b) ≡ true → a ≡ true
and_left true b e = refl
and_left false b e = e

pub and_right : (a b : Bool) → (a && b) ≡ true → b ≡ true
and_right true b e = e
and_right false b e = tf (sym e)

pub and_both : (a b : Bool) → a ≡ true → b ≡ true → (a && b) ≡ true
and_both true b p q = q
and_both false b p q = p

pub area_bound : (a b : ℕ) → a ≤ 4096 → b ≤ 4096 → a * b ≤ 16777216
area_bound a b p q = omega (arith, mul-le-mul_left a q)

-- two tiles, given by numbers, agree in a field
module _ {a a' b b' b'' : Tile} (e : b ≡ b') (f : b' ≡ b'') (g : a ≡ a') where
  pub same_left : b''.left ≡ a'.left → b.left ≡ a.left
  same_left h = ap (λ (t : Tile). t.left) (e ∙ f) ∙ (h ∙ ap (λ (t : Tile). t.left) (sym g))

  pub same_right : b''.right ≡ a'.right → b.right ≡ a.right
  same_right h = ap (λ (t : Tile). t.right) (e ∙ f) ∙ (h ∙ ap (λ (t : Tile). t.right) (sym g))

  pub same_kind : b''.kind ≡ a'.kind → b.kind ≡ a.kind
  same_kind h = ap (λ (t : Tile). t.kind) (e ∙ f) ∙ (h ∙ ap (λ (t : Tile). t.kind) (sym g))

-- what is not true is false, and the other way round
pub is_false : (b : Bool) → (b ≡ true → ⊥) → b ≡ false
is_false true f = absurd (f refl)
is_false false f = refl

pub is_true : (b : Bool) → (b ≡ false → ⊥) → b ≡ true
is_true true f = refl
is_true false f = absurd (f refl)
