-- Locality of a rule: what lies farther back than it reaches does not decide a square's mark. Views that agree so far give the same answers.
use Prim.Native.Nat.{ℕ, suc, ◌<◌, ◌≤◌}
use mathlib.Core.Bool.{Bool, true, false, not, ◌&&◌, ◌||◌}
use mathlib.Core.Path.{◌≡◌, refl, ◌∙◌, ap}
use native.Mathlib.Omega.{arith}
use lib.Dec.{eqb}
use Rattle.rules.specs.declared.rule.Rule.{Rule}
use Rattle.rules.specs.Some.{some, some_of, Every}
use Rattle.rules.specs.Sets.{member}
use Rattle.rules.specs.Forbid.{Way, View, right, up, edge, turns, reached, ways, ways_by, vertical, forbids}
use Rattle.rules.proofs.Searches.{some_same, some_of_every}

-- two views are the same out to h steps back
abbrev pub Agree : ℕ → View → View → Type 0
Agree h v u = (w e : Way) → vertical w ≡ not (vertical e) → (i j : ℕ) → i ≤ h → j ≤ h → v w e i j ≡ u w e i j

-- the directions of a rule cross
crossing : (k : Bool) → Every (λ x. vertical x.0 ≡ not (vertical x.1)) (ways_by k)
unfolding ways_by
crossing true = (refl, (refl, tt))
crossing false = (refl, (refl, (refl, (refl, (refl, (refl, (refl, (refl, tt))))))))

abbrev Agree₂ : ℕ → (ℕ → ℕ → ℕ) → (ℕ → ℕ → ℕ) → Type 0
Agree₂ h k l = (i j : ℕ) → i ≤ h → j ≤ h → k i j ≡ l i j

module _ (h : ℕ) (r : Rule) (k l : ℕ → ℕ → ℕ) (same : Agree₂ h k l) where
  edge_local : (i j : ℕ) → i < h → j ≤ h → edge r k i j ≡ edge r l i j
  unfolding edge
  edge_local i j a b = rw (same i j (omega arith) b, same (suc i) j a b)

  turns_local : (i j : ℕ) → i < h → j < h → turns r k i j ≡ turns r l i j
  unfolding turns
  turns_local i j a b = rw (edge_local i j a (omega arith), edge_local i (suc j) a b, same (suc i) j a (omega arith))

  reached_local : r.d ≤ h → r.ce ≤ h → reached r k ≡ reached r l
  unfolding reached
  reached_local a b =
      some_same r.d (λ i. edge r k i 0 || some r.ce (turns r k i)) (λ i. edge r l i 0 || some r.ce (turns r l i))
      (λ i x. rw (edge_local i 0 (omega arith) (omega arith), some_same r.ce (turns r k i) (turns r l i) (λ j y. turns_local i j (omega arith) (omega arith))))

-- a square's mark is decided within the rule's reach
pub forbids_local : (h : ℕ) (r : Rule) (v u : View) → Agree h v u → r.d ≤ h → r.ce ≤ h → forbids v r ≡ forbids u r
unfolding forbids ways
forbids_local h r v u same a b =
    ap (λ x. not (member r.allowed x) && some_of (ways r.fourway) (λ x. reached r (v x.0 x.1))) (same right up refl 0 0 (omega arith) (omega arith))
    ∙ ap (λ x. not (member r.allowed (u right up 0 0)) && x)
    (some_of_every (λ x. vertical x.0 ≡ not (vertical x.1)) (ways r.fourway) (λ x. reached r (v x.0 x.1)) (λ x. reached r (u x.0 x.1)) (crossing (eqb r.fourway 0))
    (λ x c. reached_local h r (v x.0 x.1) (u x.0 x.1) (same x.0 x.1 c) a b))
