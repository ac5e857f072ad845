-- Marking from each edge once is the same as the sweeps: a direction's edge is found at the later of its two squares, and where nothing differs there is none.
use Prim.Native.Nat.{ℕ, ◌+◌, ◌-◌, ◌*◌, ◌/◌, ◌%◌, ◌<◌, ◌≤◌, max}
use mathlib.Core.Bool.{Bool, true, false, not, ◌&&◌, ◌||◌, true≢false, and-false, or-false}
use mathlib.Core.List.{List}
use mathlib.Core.Path.{◌≡◌, refl, sym, ◌∙◌, ap}
use mathlib.Core.Logic.{⊎_elim}
use native.Mathlib.Omega.{arith}
use lib.ListN.{get_or}
use lib.Dec.{eqb, leb, ltb}
use borrow.Author.Tests.{eq-eqb, eqb-true, ne_eqb, not-false, leb-true, ltb-true, le-leb, lt-ltb, le-ltb, lt-leb}
use Rattle.plane.specs.Picture.{area, in_area}
use Rattle.plane.proofs.Basics.{lt_or_ge, and_both, and_left, and_right, is_false, is_true}
use Rattle.rules.specs.declared.rule.Rule.{Rule}
use Rattle.rules.specs.Words.{rule_at, Apart}
use Rattle.rules.specs.Forbid.{right, left, up, down}
use Rattle.rules.proofs.Window.{within}
use Rattle.rules.proofs.Searches.{some_at, some_has, some_none, or_left, or_right, or_cases, same_truth}
use Rattle.edges.specs.declared.turn.Turn.{Turn}
use Rattle.edges.specs.Edge.{Marked, Steps, edge_at, hit, goes, goes_hit, turn}
use Rattle.edges.specs.Near.{Ruled, flip_e, flip_w, hit_from, across, across_all, faces, edges_at, edges_to, edges_over, Forward, Between, Still, hits, swept, sweeps}
use Rattle.edges.proofs.Truths.{four1, four2, four3, four4, split4, split8}
use Rattle.edges.proofs.Marking.{keep, relabel, and_then, start, more, hit_none, goes_none}

-- ---- one direction
module _ (ks : List ℕ) (all : Bool) (t : Turn) (at : ℕ) (r : Rule) where
  -- at the rim, by either end of it or by both, and inside
  pub from_low : {m : List ℕ} → at - t.wm < 83 → Marked (hit_from ks all t at r) m m
  unfolding hit_from
  from_low l = keep (λ q. rw (lt-leb 83 (at - t.wm) l))

  pub from_high : {m : List ℕ} → 6641 ≤ at - t.wm → Marked (hit_from ks all t at r) m m
  unfolding hit_from
  from_high l = keep (λ q. rw (le-ltb (at - t.wm) 6641 l, and-false (leb 83 (at - t.wm))))

  pub from_rim : {m : List ℕ} → (83 ≤ at - t.wm → at - t.wm < 6641 → ⊥) → Marked (hit_from ks all t at r) m m
  from_rim out = ⊎_elim
      (λ (l : at - t.wm < 83). from_low l)
      (λ (l : 83 ≤ at - t.wm). ⊎_elim (λ (h : at - t.wm < 6641). absurd (out l h)) (λ (h : 6641 ≤ at - t.wm). from_high h) (lt_or_ge (at - t.wm) 6641))
      (lt_or_ge (at - t.wm) 83)

  here : 83 ≤ at - t.wm → at - t.wm < 6641 → (q : ℕ) → goes_hit ks all t (at - t.wm) r q ≡ hit_from ks all t at r q
  unfolding hit_from
  here a b q = rw (le-leb 83 (at - t.wm) a, lt-ltb (at - t.wm) 6641 b)

  pub from_here : {m m₁ : List ℕ} → 83 ≤ at - t.wm → at - t.wm < 6641 → Marked (goes_hit ks all t (at - t.wm) r) m m₁ → Marked (hit_from ks all t at r) m m₁
  from_here a b h = relabel h (here a b)

  -- where the rule has no edge, and where it lacks the direction
  from_none : edge_at ks r t (at - t.wm) ≡ false → (q : ℕ) → hit_from ks all t at r q ≡ false
  unfolding hit_from goes_hit
  from_none e q = rw (hit_none ks r t (at - t.wm) e q, and-false (goes all r), and-false (leb 83 (at - t.wm) && ltb (at - t.wm) 6641))

  from_lacking : goes all r ≡ false → (q : ℕ) → hit_from ks all t at r q ≡ false
  unfolding hit_from
  from_lacking e q = rw (goes_none ks r t (at - t.wm) all e q, and-false (leb 83 (at - t.wm) && ltb (at - t.wm) 6641))

  from_in : (q : ℕ) → hit_from ks all t at r q ≡ true → (83 ≤ at - t.wm) × (at - t.wm < 6641) × (goes_hit ks all t (at - t.wm) r q ≡ true)
  unfolding hit_from
  from_in q e =
      let i = and_left (leb 83 (at - t.wm) && ltb (at - t.wm) 6641) (goes_hit ks all t (at - t.wm) r q) e in (
        leb-true 83 (at - t.wm) (and_left (leb 83 (at - t.wm)) (ltb (at - t.wm) 6641) i),
        ltb-true (at - t.wm) 6641 (and_right (leb 83 (at - t.wm)) (ltb (at - t.wm) 6641) i),
        and_right (leb 83 (at - t.wm) && ltb (at - t.wm) 6641) (goes_hit ks all t (at - t.wm) r q) e,
      )

-- ---- a fourway rule, and a one-way rule
-- a fourway rule has each direction
each_way : (ks : List ℕ) (t : Turn) (at : ℕ) (r : Rule) {m m₁ : List ℕ} → (r.fourway ≡ 0 → ⊥) → Marked (hit_from ks true t at r) m m₁ → Marked (hit_from ks false t at r) m m₁
unfolding hit_from goes goes_hit
each_way ks t at r n a = relabel a (λ q. rw (ne_eqb r.fourway 0 n))

pub four_ways : (ks : List ℕ) (t : Turn) (at : ℕ) (r : Rule) {m m₁ m₂ m₃ m₄ : List ℕ} → (r.fourway ≡ 0 → ⊥)
    → Marked (hit_from ks true t at r) m m₁ → Marked (hit_from ks true (flip_e t) at r) m₁ m₂ → Marked (hit_from ks true (flip_w t) at r) m₂ m₃ → Marked (hit_from ks true (flip_w (flip_e t)) at r) m₃ m₄ → Marked (across ks t at r) m m₄
unfolding across
four_ways ks t at r n a b c d = and_then (and_then (and_then a (each_way ks (flip_e t) at r n b)) (each_way ks (flip_w t) at r n c)) (each_way ks (flip_w (flip_e t)) at r n d)

lacking : (r : Rule) → r.fourway ≡ 0 → goes false r ≡ false
unfolding goes
lacking r e = ap not (eq-eqb r.fourway 0 e)

-- of an edge's four directions it has the first only
pub one_way : (ks : List ℕ) (t : Turn) (at : ℕ) (r : Rule) {m m₁ : List ℕ} → r.fourway ≡ 0 → Marked (hit_from ks true t at r) m m₁ → Marked (across ks t at r) m m₁
unfolding across
one_way ks t at r e a = relabel a (λ q.
    rw (
      from_lacking ks false (flip_e t) at r (lacking r e) q,
      from_lacking ks false (flip_w t) at r (lacking r e) q,
      from_lacking ks false (flip_w (flip_e t)) at r (lacking r e) q,
      or-false (hit_from ks true t at r q),
      or-false (hit_from ks true t at r q),
      or-false (hit_from ks true t at r q),
    ))

-- ---- no edge of a rule
-- the rule's types do not stand at the edge in their order, and those of a fourway rule not in the other order
pub record Faceless (a b : ℕ) (r : Rule) : Type 0 where
  pub ahead : r.type2 ≡ a → r.type1 ≡ b → ⊥
  pub back : r.type2 ≡ b → r.type1 ≡ a → r.fourway ≡ 0

edge_types : (ks : List ℕ) (r : Rule) (t : Turn) (at : ℕ) → edge_at ks r t at ≡ true → (get_or ks at 0 ≡ r.type2) × (get_or ks (at + t.wm - t.wp) 0 ≡ r.type1)
unfolding edge_at
edge_types ks r t at e = (
  eqb-true (get_or ks at 0) r.type2 (and_left (eqb (get_or ks at 0) r.type2) (eqb (get_or ks (at + t.wm - t.wp) 0) r.type1) e),
  eqb-true (get_or ks (at + t.wm - t.wp) 0) r.type1 (and_right (eqb (get_or ks at 0) r.type2) (eqb (get_or ks (at + t.wm - t.wp) 0) r.type1) e),
)

module _ (ks : List ℕ) (t : Turn) (f : Forward t) (at : ℕ) (g : 82 ≤ at) (r : Rule) (n : Faceless (get_or ks at 0) (get_or ks (at - t.wp) 0) r) where
  ahead_none : (e : Turn) → e.wm ≡ t.wm → e.wp ≡ t.wp → edge_at ks r e (at - e.wm) ≡ false
  ahead_none e p q = is_false (edge_at ks r e (at - e.wm)) (λ z.
      let y = edge_types ks r e (at - e.wm) z in
      let k = f.back in
      let i : at - e.wm ≡ at = omega arith in
      let j : at - e.wm + e.wm - e.wp ≡ at - t.wp = omega arith in
      n.ahead (sym y.0 ∙ ap (λ m. get_or ks m 0) i) (sym y.1 ∙ ap (λ m. get_or ks m 0) j))

  back_none : (e : Turn) → e.wm ≡ t.wp → e.wp ≡ t.wm → (q : ℕ) → hit_from ks false e at r q ≡ false
  back_none e p o q = go (edge_at ks r e (at - e.wm)) refl
    where
      go : (b : Bool) → edge_at ks r e (at - e.wm) ≡ b → hit_from ks false e at r q ≡ false
      go false z = from_none ks false e at r z q
      go true z =
          let y = edge_types ks r e (at - e.wm) z in
          let k = f.back in
          let s = f.steps.wp in
          let i : at - e.wm ≡ at - t.wp = omega arith in
          let j : at - e.wm + e.wm - e.wp ≡ at = omega arith in
          from_lacking ks false e at r (lacking r (n.back (sym y.0 ∙ ap (λ m. get_or ks m 0) i) (sym y.1 ∙ ap (λ m. get_or ks m 0) j))) q

  pub across_none : (q : ℕ) → across ks t at r q ≡ false
  unfolding across
  across_none q =
      rw (
        from_none ks true t at r (ahead_none t refl refl) q,
        from_none ks false (flip_e t) at r (ahead_none (flip_e t) refl refl) q,
        back_none (flip_w t) refl refl q,
        back_none (flip_w (flip_e t)) refl refl q,
      )

faceless : (a b : ℕ) (r : Rule) → faces a b r ≡ false → Faceless a b r
faceless a b r e = record {
  ahead = λ p q. true≢false (sym (or_left (eqb r.type1 a && eqb r.type2 b && not (eqb r.fourway 0)) (and_both _ _ (eq-eqb r.type1 b q) (eq-eqb r.type2 a p))) ∙ e);
  back = λ p q. eqb-true r.fourway 0 (not-false (eqb r.fourway 0) (is_false (not (eqb r.fourway 0)) (λ z.
      true≢false (sym (or_right (eqb r.type1 b && eqb r.type2 a) (and_both _ _ (and_both _ _ (eq-eqb r.type1 a q) (eq-eqb r.type2 b p)) z)) ∙ e))));
}

same_kind : (a b : ℕ) (r : Rule) → a ≡ b → Apart r → Faceless a b r
same_kind a b r e n = record { ahead = λ p q. n (q ∙ sym e ∙ sym p); back = λ p q. absurd (n (q ∙ e ∙ sym p)) }

-- a rule without its types there marks nothing
pub other_pair : (ks : List ℕ) (t : Turn) (at : ℕ) (r : Rule) {a b : ℕ} {f : Bool} {m : List ℕ} → Steps t → 82 ≤ at → Between ks t at a b → f ≡ faces a b r → f ≡ false → Marked (across ks t at r) m m
other_pair ks t at r {a} {b} s g k e z = keep (across_none ks t (record { steps = s; back = k.back }) at g r (rw (k.here, k.before) at (faceless a b r (sym e ∙ z))))

-- where the two squares are of one type, no rule marks anything
pub one_type : (ks ws : List ℕ) (n : ℕ) (t : Turn) (at : ℕ) {a b : ℕ} {m : List ℕ} → Steps t → 82 ≤ at → Ruled ws n → t.wm ≡ 0 → a ≡ get_or ks at 0 → b ≡ get_or ks (at - t.wp) 0 → a ≡ b → Marked (across_all ks ws n t at) m m
unfolding across_all
one_type ks ws n t at s g ok z ea eb e =
    keep (λ q. some_none n (λ i. across ks t at (rule_at ws i) q)
    (λ i l. across_none ks t (record { steps = s; back = z }) at g (rule_at ws i) (same_kind (get_or ks at 0) (get_or ks (at - t.wp) 0) (rule_at ws i) (sym ea ∙ e ∙ eb) (ok.apart i l)) q))

-- so nothing is marked at a square of the type of both neighbours
pub no_edges : (ks ws : List ℕ) (n at : ℕ) {a b d : ℕ} {m : List ℕ} → 82 ≤ at → Ruled ws n → a ≡ get_or ks at 0 → b ≡ get_or ks (at - 1) 0 → d ≡ get_or ks (at - 82) 0 → b ≡ a → d ≡ a → Marked (edges_at ks ws n at) m m
unfolding edges_at
no_edges ks ws n at {a} {b} {d} g ok ea eb ed e f =
    and_then (one_type ks ws n (turn right up) at (omega arith) g ok refl ea eb (sym e)) (one_type ks ws n (turn up left) at (omega arith) g ok refl ea ed (sym f))

-- ---- one rule more, one index more, and one row more
pub pair_start : (ks ws : List ℕ) (t : Turn) (at : ℕ) {m : List ℕ} → Marked (across_all ks ws 0 t at) m m
unfolding across_all
pair_start ks ws t at = start (λ i q. across ks t at (rule_at ws i) q)

pub pair_more : (ks ws : List ℕ) (i : ℕ) (t : Turn) (at : ℕ) {m m₁ m₂ : List ℕ} → Marked (across_all ks ws i t at) m m₁ → Marked (across ks t at (rule_at ws i)) m₁ m₂ → Marked (across_all ks ws (i + 1) t at) m m₂
unfolding across_all
pair_more ks ws i t at a b = more (λ i q. across ks t at (rule_at ws i) q) i a b

pub edges_start : (ks ws : List ℕ) (n from : ℕ) {m : List ℕ} → Marked (edges_to ks ws n from 0) m m
unfolding edges_to
edges_start ks ws n from = start (λ k q. edges_at ks ws n (from + k) q)

pub edges_more : (ks ws : List ℕ) (n from k : ℕ) {m m₁ m₂ : List ℕ} → Marked (edges_to ks ws n from k) m m₁ → Marked (edges_at ks ws n (from + k)) m₁ m₂ → Marked (edges_to ks ws n from (k + 1)) m m₂
unfolding edges_to
edges_more ks ws n from k a b = more (λ k q. edges_at ks ws n (from + k) q) k a b

pub rows_start : (ks ws : List ℕ) (n from l : ℕ) {m : List ℕ} → Marked (edges_over ks ws n from l 0) m m
unfolding edges_over
rows_start ks ws n from l = start (λ j q. edges_to ks ws n (from + 82 * j) l q)

pub rows_more : (ks ws : List ℕ) (n from l j : ℕ) {m m₁ m₂ : List ℕ} → Marked (edges_over ks ws n from l j) m m₁ → Marked (edges_to ks ws n (from + 82 * j) l) m₁ m₂ → Marked (edges_over ks ws n from l (j + 1)) m m₂
unfolding edges_over
rows_more ks ws n from l j a b = more (λ j q. edges_to ks ws n (from + 82 * j) l q) j a b

-- one of a rule's four directions at an edge
module _ (ks : List ℕ) (t : Turn) (at : ℕ) (r : Rule) (q : ℕ) where
  across1 : hit_from ks true t at r q ≡ true → across ks t at r q ≡ true
  unfolding across
  across1 e = four1 (hit_from ks true t at r q) (hit_from ks false (flip_e t) at r q) (hit_from ks false (flip_w t) at r q) (hit_from ks false (flip_w (flip_e t)) at r q) e

  across2 : hit_from ks false (flip_e t) at r q ≡ true → across ks t at r q ≡ true
  unfolding across
  across2 e = four2 (hit_from ks true t at r q) (hit_from ks false (flip_e t) at r q) (hit_from ks false (flip_w t) at r q) (hit_from ks false (flip_w (flip_e t)) at r q) e

  across3 : hit_from ks false (flip_w t) at r q ≡ true → across ks t at r q ≡ true
  unfolding across
  across3 e = four3 (hit_from ks true t at r q) (hit_from ks false (flip_e t) at r q) (hit_from ks false (flip_w t) at r q) (hit_from ks false (flip_w (flip_e t)) at r q) e

  across4 : hit_from ks false (flip_w (flip_e t)) at r q ≡ true → across ks t at r q ≡ true
  unfolding across
  across4 e = four4 (hit_from ks true t at r q) (hit_from ks false (flip_e t) at r q) (hit_from ks false (flip_w t) at r q) (hit_from ks false (flip_w (flip_e t)) at r q) e

-- ---- every edge of the sweeps is found
-- column c of row r, counted from column lo of row y on
square_from : (lo y c r : ℕ) → lo ≤ c → y ≤ r → y * 82 + lo + 82 * (r - y) + (c - lo) ≡ r * 82 + c
square_from lo y c r a b = omega arith

module _ (ks ws : List ℕ) (n lo hi y : ℕ) (ok : Ruled ws n) (s : Still ks lo hi) (first : y ≡ max 1 lo) (q : ℕ) where
  -- in columns and rows lo up to hi
  abbrev inside : ℕ → Bool
  inside at = in_area (area lo lo hi hi) (at % 82) (at / 82)

  -- where a direction's edge is found: at the later of its two squares
  module _ (all : Bool) (t : Turn) where
    unfoldable Found : Type 0
    Found = (at : ℕ) × (83 ≤ at) × (inside at ≡ true) × (i : ℕ) × (i < n) × (hit_from ks all t at (rule_at ws i) q ≡ true)

    -- a direction's neighbours are alike outside
    abbrev Calm : Type 0
    Calm = (at : ℕ) → 83 ≤ at → at < 6723 → inside at ≡ false → get_or ks (at - t.wm) 0 ≡ get_or ks (at - t.wp) 0

    swept_found : Calm → t.wm ≤ 82 → swept ks ws n all t q ≡ true → Found
    unfolding swept hits goes_hit hit Found
    swept_found calm l e =
        let k = some_has 6558 (λ k. hits ks ws n all t (83 + k) q) e in
        let i = some_has n (λ i. goes_hit ks all t (83 + k.0) (rule_at ws i) q) k.2 in
        let at = 83 + k.0 + t.wm in
        let b : at - t.wm ≡ 83 + k.0 = omega arith in
        let r = rule_at ws i.0 in
        let h = and_right (goes all r) (hit ks r t (83 + k.0) q) i.2 in
        let y = edge_types ks r t (83 + k.0) (and_left (edge_at ks r t (83 + k.0)) _ h) in
        let differ : get_or ks (at - t.wm) 0 ≡ get_or ks (at - t.wp) 0 → ⊥ = (λ z. ok.apart i.0 i.1 (sym y.1 ∙ sym z ∙ ap (λ m. get_or ks m 0) b ∙ y.0)) in
        let m : at < 6723 = omega (arith, k.1) in
        let g : 83 ≤ at = omega arith in
        (at, g, is_true (inside at) (λ u. differ (calm at g m u)), i.0, i.1, sym (here ks all t at r (omega arith) (omega (arith, k.1)) q) ∙ ap (λ m. goes_hit ks all t m r q) b ∙ i.2)

  -- ---- the eight directions
  calm_right : (at : ℕ) → 83 ≤ at → at < 6723 → inside at ≡ false → get_or ks (at - 0) 0 ≡ get_or ks (at - 1) 0
  calm_right at a b o = let z : at - 0 ≡ at = omega arith in ap (λ m. get_or ks m 0) z ∙ sym (s.side at a b o)

  calm_left : (at : ℕ) → 83 ≤ at → at < 6723 → inside at ≡ false → get_or ks (at - 1) 0 ≡ get_or ks (at - 0) 0
  calm_left at a b o = sym (calm_right at a b o)

  calm_up : (at : ℕ) → 83 ≤ at → at < 6723 → inside at ≡ false → get_or ks (at - 0) 0 ≡ get_or ks (at - 82) 0
  calm_up at a b o = let z : at - 0 ≡ at = omega arith in ap (λ m. get_or ks m 0) z ∙ sym (s.below at a b o)

  calm_down : (at : ℕ) → 83 ≤ at → at < 6723 → inside at ≡ false → get_or ks (at - 82) 0 ≡ get_or ks (at - 0) 0
  calm_down at a b o = sym (calm_up at a b o)

  goal : Bool
  goal = edges_over ks ws n (y * 82 + lo) (hi - lo) (hi - y) q

  reach : (at : ℕ) → 83 ≤ at → inside at ≡ true → edges_at ks ws n at q ≡ true → goal ≡ true
  unfolding goal edges_over edges_to
  reach at g b e =
      let a = within (area lo lo hi hi) (at % 82) (at / 82) b in
      let r : y ≤ at / 82 = omega (arith, a.low) in
      let z : at / 82 * 82 + at % 82 ≡ at = omega arith in
      some_at (hi - y) (λ j. edges_to ks ws n (y * 82 + lo + 82 * j) (hi - lo) q) (at / 82 - y) (omega (arith, a.high))
      (some_at (hi - lo) (λ k. edges_at ks ws n (y * 82 + lo + 82 * (at / 82 - y) + k) q) (at % 82 - lo) (omega (arith, a.left_of, a.right_of))
      (ap (λ m. edges_at ks ws n m q) (square_from lo y (at % 82) (at / 82) a.left_of r ∙ z) ∙ e))

  reach_side : (at i : ℕ) → 83 ≤ at → inside at ≡ true → i < n → across ks (turn right up) at (rule_at ws i) q ≡ true → goal ≡ true
  unfolding edges_at across_all
  reach_side at i a b l e = reach at a b (or_left (across_all ks ws n (turn up left) at q) (some_at n (λ i. across ks (turn right up) at (rule_at ws i) q) i l e))

  reach_below : (at i : ℕ) → 83 ≤ at → inside at ≡ true → i < n → across ks (turn up left) at (rule_at ws i) q ≡ true → goal ≡ true
  unfolding edges_at across_all
  reach_below at i a b l e = reach at a b (or_right (across_all ks ws n (turn right up) at q) (some_at n (λ i. across ks (turn up left) at (rule_at ws i) q) i l e))

  to_edges : sweeps ks ws n q ≡ true → goal ≡ true
  unfolding sweeps Found
  to_edges e = split8
      (swept ks ws n true (turn right up) q) (swept ks ws n true (turn up left) q) (swept ks ws n false (turn right down) q) (swept ks ws n false (turn left up) q)
      (swept ks ws n false (turn left down) q) (swept ks ws n false (turn up right) q) (swept ks ws n false (turn down left) q) (swept ks ws n false (turn down right) q)
      (λ z. let f = swept_found true (turn right up) calm_right (omega arith) z in reach_side f.0 f.3 f.1 f.2 f.4 (across1 ks (turn right up) f.0 (rule_at ws f.3) q f.5))
      (λ z. let f = swept_found true (turn up left) calm_up (omega arith) z in reach_below f.0 f.3 f.1 f.2 f.4 (across1 ks (turn up left) f.0 (rule_at ws f.3) q f.5))
      (λ z. let f = swept_found false (turn right down) calm_right (omega arith) z in reach_side f.0 f.3 f.1 f.2 f.4 (across2 ks (turn right up) f.0 (rule_at ws f.3) q f.5))
      (λ z. let f = swept_found false (turn left up) calm_left (omega arith) z in reach_side f.0 f.3 f.1 f.2 f.4 (across3 ks (turn right up) f.0 (rule_at ws f.3) q f.5))
      (λ z. let f = swept_found false (turn left down) calm_left (omega arith) z in reach_side f.0 f.3 f.1 f.2 f.4 (across4 ks (turn right up) f.0 (rule_at ws f.3) q f.5))
      (λ z. let f = swept_found false (turn up right) calm_up (omega arith) z in reach_below f.0 f.3 f.1 f.2 f.4 (across2 ks (turn up left) f.0 (rule_at ws f.3) q f.5))
      (λ z. let f = swept_found false (turn down left) calm_down (omega arith) z in reach_below f.0 f.3 f.1 f.2 f.4 (across3 ks (turn up left) f.0 (rule_at ws f.3) q f.5))
      (λ z. let f = swept_found false (turn down right) calm_down (omega arith) z in reach_below f.0 f.3 f.1 f.2 f.4 (across4 ks (turn up left) f.0 (rule_at ws f.3) q f.5))
      e

  module _ (at i : ℕ) (l : i < n) where
    -- the sweep of a direction has what is found
    one_of : (all : Bool) (t : Turn) → hit_from ks all t at (rule_at ws i) q ≡ true → swept ks ws n all t q ≡ true
    unfolding swept hits
    one_of all t e =
        let h = from_in ks all t at (rule_at ws i) q e in
        let z : 83 + (at - t.wm - 83) ≡ at - t.wm = omega (arith, h.0) in
        some_at 6558 (λ k. hits ks ws n all t (83 + k) q) (at - t.wm - 83) (omega (arith, h.0, h.1))
        (some_at n (λ i. goes_hit ks all t (83 + (at - t.wm - 83)) (rule_at ws i) q) i l (ap (λ m. goes_hit ks all t m (rule_at ws i) q) z ∙ h.2))

    -- the eight, in the sweeps' order
    s₁₂ : Bool
    s₁₂ = swept ks ws n true (turn right up) q || swept ks ws n true (turn up left) q

    s₃₄₅ : Bool
    s₃₄₅ = s₁₂ || swept ks ws n false (turn right down) q || swept ks ws n false (turn left up) q || swept ks ws n false (turn left down) q

    from_side : across ks (turn right up) at (rule_at ws i) q ≡ true → sweeps ks ws n q ≡ true
    unfolding across sweeps s₁₂ s₃₄₅
    from_side e = split4
        (hit_from ks true (turn right up) at (rule_at ws i) q) (hit_from ks false (turn right down) at (rule_at ws i) q) (hit_from ks false (turn left up) at (rule_at ws i) q) (hit_from ks false (turn left down) at (rule_at ws i) q)
        (λ z. late (four1 s₁₂ (swept ks ws n false (turn right down) q) (swept ks ws n false (turn left up) q) (swept ks ws n false (turn left down) q) (or_left (swept ks ws n true (turn up left) q) (one_of true (turn right up) z))))
        (λ z. late (four2 s₁₂ (swept ks ws n false (turn right down) q) (swept ks ws n false (turn left up) q) (swept ks ws n false (turn left down) q) (one_of false (turn right down) z)))
        (λ z. late (four3 s₁₂ (swept ks ws n false (turn right down) q) (swept ks ws n false (turn left up) q) (swept ks ws n false (turn left down) q) (one_of false (turn left up) z)))
        (λ z. late (four4 s₁₂ (swept ks ws n false (turn right down) q) (swept ks ws n false (turn left up) q) (swept ks ws n false (turn left down) q) (one_of false (turn left down) z)))
        e
      where
        late : s₃₄₅ ≡ true → sweeps ks ws n q ≡ true
        late z = four1 s₃₄₅ (swept ks ws n false (turn up right) q) (swept ks ws n false (turn down left) q) (swept ks ws n false (turn down right) q) z

    from_below : across ks (turn up left) at (rule_at ws i) q ≡ true → sweeps ks ws n q ≡ true
    unfolding across sweeps s₁₂ s₃₄₅
    from_below e = split4
        (hit_from ks true (turn up left) at (rule_at ws i) q) (hit_from ks false (turn up right) at (rule_at ws i) q) (hit_from ks false (turn down left) at (rule_at ws i) q) (hit_from ks false (turn down right) at (rule_at ws i) q)
        (λ z. four1 s₃₄₅ (swept ks ws n false (turn up right) q) (swept ks ws n false (turn down left) q) (swept ks ws n false (turn down right) q)
        (four1 s₁₂ (swept ks ws n false (turn right down) q) (swept ks ws n false (turn left up) q) (swept ks ws n false (turn left down) q) (or_right (swept ks ws n true (turn right up) q) (one_of true (turn up left) z))))
        (λ z. four2 s₃₄₅ (swept ks ws n false (turn up right) q) (swept ks ws n false (turn down left) q) (swept ks ws n false (turn down right) q) (one_of false (turn up right) z))
        (λ z. four3 s₃₄₅ (swept ks ws n false (turn up right) q) (swept ks ws n false (turn down left) q) (swept ks ws n false (turn down right) q) (one_of false (turn down left) z))
        (λ z. four4 s₃₄₅ (swept ks ws n false (turn up right) q) (swept ks ws n false (turn down left) q) (swept ks ws n false (turn down right) q) (one_of false (turn down right) z))
        e

  from_edges : goal ≡ true → sweeps ks ws n q ≡ true
  unfolding goal edges_over edges_to edges_at across_all
  from_edges e =
      let j = some_has (hi - y) (λ j. edges_to ks ws n (y * 82 + lo + 82 * j) (hi - lo) q) e in
      let k = some_has (hi - lo) (λ k. edges_at ks ws n (y * 82 + lo + 82 * j.0 + k) q) j.2 in
      let at = y * 82 + lo + 82 * j.0 + k.0 in
      ⊎_elim
      (λ z. let i = some_has n (λ i. across ks (turn right up) at (rule_at ws i) q) z in from_side at i.0 i.1 i.2)
      (λ z. let i = some_has n (λ i. across ks (turn up left) at (rule_at ws i) q) z in from_below at i.0 i.1 i.2)
      (or_cases (across_all ks ws n (turn right up) at q) (across_all ks ws n (turn up left) at q) k.2)

  edges_sweep : edges_over ks ws n (y * 82 + lo) (hi - lo) (hi - y) q ≡ sweeps ks ws n q
  unfolding goal
  edges_sweep = same_truth goal (sweeps ks ws n q) from_edges to_edges

-- the marks of all edges are those of the sweeps
pub swept_all : (ks ws : List ℕ) (n lo hi : ℕ) {y : ℕ} {m m₁ : List ℕ} → Ruled ws n → Still ks lo hi → y ≡ max 1 lo → Marked (edges_over ks ws n (y * 82 + lo) (hi - lo) (hi - y)) m m₁ → Marked (sweeps ks ws n) m m₁
swept_all ks ws n lo hi {y} ok s first a = relabel a (edges_sweep ks ws n lo hi y ok s first)
