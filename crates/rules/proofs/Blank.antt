-- A window of space has no error squares: no two squares differ in type, so no rule with two types has an edge.
use Prim.Native.Nat.{ℕ, zero, suc, ◌+◌, ◌-◌}
use mathlib.Core.Bool.{Bool, true, false, not, cond, ◌&&◌, ◌||◌, and-false}
use mathlib.Core.List.{List, [], ◌∷◌, ◌++◌}
use mathlib.Core.Path.{◌≡◌, refl, sym, ◌∙◌, ap, ap₂}
use lib.Dec.{eqb}
use borrow.Author.Tests.{ne_eqb}
use native.Mathlib.Decide.{ℕ_discrete}
use Rattle.plane.specs.Picture.{Picture, area, in_area, joined, space}
use Rattle.rules.specs.declared.rule.Rule.{Rule}
use Rattle.rules.specs.Some.{some, Every}
use Rattle.rules.specs.Sets.{member}
use Rattle.rules.specs.Words.{Apart, rules_of}
use Rattle.rules.specs.Vetting.{AllSound}
use Rattle.rules.specs.Forbid.{Way, edge, turns, reached, ways, forbids, forbidden, errors, outside, kind_at, seen, back_x, back_y}
use Rattle.rules.proofs.Searches.{some_none, some_of_none, every_all}
use Rattle.rules.proofs.Vetted.{all_apart}

module _ (r : Rule) (ok : Apart r) (k : ℕ → ℕ → ℕ) (t : ℕ) (plain : (i j : ℕ) → k i j ≡ t) where
  edge_none : (i j : ℕ) → edge r k i j ≡ false
  unfolding edge
  edge_none i j = both (ℕ_discrete (k i j) r.type2)
    where
      both : Dec (k i j ≡ r.type2) → edge r k i j ≡ false
      both (yes p) = ap (λ b. eqb (k i j) r.type2 && b) (ne_eqb (k (suc i) j) r.type1 (λ z. ok (sym z ∙ plain (suc i) j ∙ sym (plain i j) ∙ p))) ∙ and-false (eqb (k i j) r.type2)
      both (no f) = ap (λ b. b && eqb (k (suc i) j) r.type1) (ne_eqb (k i j) r.type2 f)

  pub reached_none : reached r k ≡ false
  unfolding reached turns
  reached_none =
      some_none r.d (λ i. edge r k i 0 || some r.ce (turns r k i))
      (λ i l. ap₂ (λ x y. x || y) (edge_none i 0)
      (some_none r.ce (turns r k i) (λ j m. ap (λ b. b && not (edge r k i j) && member r.corners (k (suc i) j)) (edge_none i (suc j)))))

-- what is seen in a window of space is space, outside too
blank_kind : (w h : ℕ) (p : Picture) → ((u v : ℕ) → p u v ≡ 0) → (x y : ℕ) → kind_at w h p x y ≡ 0
unfolding kind_at outside
blank_kind w h p blank x y = go (in_area (area 33 33 (33 + w) (33 + h)) x y)
  where
    go : (b : Bool) → ◌≡◌ {A = ℕ} (cond b (p (x - 33) (y - 33)) 0) 0
    go true = blank (x - 33) (y - 33)
    go false = refl

blank_seen : (w h : ℕ) (p : Picture) → ((u v : ℕ) → p u v ≡ 0) → (x y : ℕ) (a e : Way) (i j : ℕ) → seen w h p x y a e i j ≡ 0
unfolding seen
blank_seen w h p blank x y a e i j = blank_kind w h p blank (back_x e j (back_x a i (33 + x))) (back_y e j (back_y a i (33 + y)))

-- no square of a window of space is forbidden
pub blank_free : (w h : ℕ) (p : Picture) (rs : List Rule) (x y : ℕ) → ((u v : ℕ) → p u v ≡ 0) → Every Apart rs → forbidden w h p rs x y ≡ false
unfolding forbidden forbids
blank_free w h p rs x y blank ok =
    some_of_none Apart rs (forbids (seen w h p x y)) ok
    (λ r o. ap (λ b. not (member r.allowed (seen w h p x y Way.right Way.up 0 0)) && b)
    (some_of_none (λ v. reached r (seen w h p x y v.0 v.1) ≡ false) (ways r.fourway) (λ v. reached r (seen w h p x y v.0 v.1))
    (every_all (λ v. reached r (seen w h p x y v.0 v.1) ≡ false) (ways r.fourway) (λ v. reached_none r o (seen w h p x y v.0 v.1) 0 (λ i j. blank_seen w h p blank x y v.0 v.1 i j)))
    (λ v e. e))
    ∙ and-false (not (member r.allowed (seen w h p x y Way.right Way.up 0 0))))

joined_none : {A : Type 0} (n : ℕ) (f : ℕ → List A) → ((i : ℕ) → f i ≡ []) → joined n f ≡ []
unfolding joined
joined_none zero f h = refl
joined_none (suc n) f h = ap₂ (λ s t. s ++ t) (joined_none n f h) (h n)

-- so it has no error squares, for rules with two types and for a sound list
pub blank_errors : (w h : ℕ) (rs : List Rule) → Every Apart rs → errors w h space rs ≡ []
unfolding errors
blank_errors w h rs ok =
    joined_none h (λ y. joined w λ x. cond (forbidden w h space rs x y) ((x, y) ∷ []) [])
    (λ y. joined_none w (λ x. cond (forbidden w h space rs x y) ((x, y) ∷ []) [])
    (λ x. ap (λ b. cond b ((x, y) ∷ []) []) (blank_free w h space rs x y (λ u v. refl) ok)))

pub blank_list : (w h : ℕ) (ws : List ℕ) (n t : ℕ) → AllSound ws n t → errors w h space (rules_of ws n) ≡ []
blank_list w h ws n t ok = blank_errors w h (rules_of ws n) (all_apart ws n t ok)
