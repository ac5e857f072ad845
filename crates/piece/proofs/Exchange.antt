-- Marking from the edges is the same as asking each square: an edge at `at` marks q exactly if q sees that edge. So the sweeps mark what the rules forbid.
use Prim.Native.Nat.{ℕ, zero, suc, ◌+◌, ◌-◌, ◌*◌, ◌<◌, ◌≤◌}
use mathlib.Core.Bool.{Bool, true, false, not, ◌&&◌, ◌||◌, and_assoc, or-false, or_comm}
use mathlib.Core.List.{List, [], ◌∷◌}
use mathlib.Core.Path.{◌≡◌, refl, sym, ◌∙◌, ap, ap₂}
use mathlib.Core.Logic.{⊎_elim}
use native.Mathlib.Omega.{arith}
use native.Mathlib.Nat.{mul-le-mul_right, suc-mul}
use native.Mathlib.Numerals.{add-one}
use lib.ListN.{get_or}
use lib.Dec.{eqb}
use borrow.Author.Tests.{eq-eqb, eqb-true}
use Rattle.plane.specs.Picture.{joined}
use Rattle.plane.proofs.Basics.{and_both, and_left, and_right}
use Rattle.rules.specs.declared.rule.Rule.{Rule}
use Rattle.rules.specs.Some.{some, some_of}
use Rattle.rules.specs.Sets.{member}
use Rattle.rules.specs.Words.{rule_at, rules_of}
use Rattle.rules.specs.Forbid.{edge, turns, reached, Way, right, left, up, down, ways_by, ways, forbids}
use Rattle.rules.proofs.Searches.{some_at, some_has, or_left, or_right, or_cases, same_truth, some_of_cons, some_of_nil, some_or, some_same, some_suc, some_of_append}
use Rattle.edges.specs.declared.turn.Turn.{Turn}
use Rattle.edges.specs.Edge.{Steps, around, barred, one, deep, past, edge_at, turns_at, hit, goes, goes_hit, flat, turn}
use Rattle.edges.specs.Near.{Ruled, hits, swept, sweeps}

module _ (ks : List ℕ) (t : Turn) (q : ℕ) (r : Rule) where
  -- q sees the square `at` at i, j
  abbrev Sees : ℕ → ℕ → ℕ → Type 0
  Sees at i j = q + (i * t.wm + j * t.em) ≡ at + (i * t.wp + j * t.ep)

  seen : (at i j : ℕ) → Sees at i j → around ks q t i j ≡ get_or ks at 0
  unfolding around
  seen at i j e = ap (λ x. get_or ks x 0) (omega arith)

  seen_back : (at i j : ℕ) → Sees at i j → around ks q t (suc i) j ≡ get_or ks (at + t.wm - t.wp) 0
  unfolding around
  seen_back at i j e = ap (λ x. get_or ks x 0) (omega (arith, suc-mul i t.wm, suc-mul i t.wp))

  edge_is : (at i j : ℕ) → Sees at i j → edge r (around ks q t) i j ≡ edge_at ks r t at
  unfolding edge edge_at
  edge_is at i j e = ap₂ (λ x y. eqb x r.type2 && eqb y r.type1) (seen at i j e) (seen_back at i j e)

  turns_is : (at i j : ℕ) → t.em ≤ at → Sees at i (suc j) → turns r (around ks q t) i j ≡ (edge_at ks r t at && turns_at ks r t at)
  unfolding turns turns_at
  turns_is at i j l e =
      let next : Sees (at + t.ep - t.em) i j = omega (arith, suc-mul j t.em, suc-mul j t.ep) in
      and_assoc (edge r (around ks q t) i (suc j)) (not (edge r (around ks q t) i j)) (member r.corners (around ks q t (suc i) j))
      ∙ ap₂ (λ x y. x && y) (edge_is at i (suc j) e)
      (ap₂ (λ x y. not x && member r.corners y) (edge_is (at + t.ep - t.em) i j next) (seen_back (at + t.ep - t.em) i j next))

  -- what the edge at `at` marks sees that edge
  deep_reaches : (at : ℕ) → edge_at ks r t at ≡ true → deep ks r.allowed r.d t.wp t.wm at 0 q ≡ true → (barred ks r.allowed q && reached r (around ks q t)) ≡ true
  unfolding deep one reached
  deep_reaches at e h =
      let w = some_has r.d _ h in
      let i = w.0 in
      let s : Sees at i 0 = omega (arith, eqb-true (q + (0 + i * t.wm)) (at + i * t.wp) (and_left _ (barred ks r.allowed q) w.2)) in
      and_both _ _ (and_right (eqb (q + (0 + i * t.wm)) (at + i * t.wp)) (barred ks r.allowed q) w.2)
      (some_at r.d (λ i. edge r (around ks q t) i 0 || some r.ce (turns r (around ks q t) i)) i w.1 (or_left _ (edge_is at i 0 s ∙ e)))

  past_reaches : (at : ℕ) → t.em ≤ at → edge_at ks r t at ≡ true → turns_at ks r t at ≡ true → past ks r t at r.ce q ≡ true → (barred ks r.allowed q && reached r (around ks q t)) ≡ true
  unfolding past deep one reached
  past_reaches at l e f h =
      let v = some_has r.ce _ h in
      let j = v.0 in
      let w = some_has r.d _ v.2 in
      let i = w.0 in
      let x = and_left (eqb (q + ((j + 1) * t.em + i * t.wm)) (at + (j + 1) * t.ep + i * t.wp)) (barred ks r.allowed q) w.2 in
      let y = eqb-true (q + ((j + 1) * t.em + i * t.wm)) (at + (j + 1) * t.ep + i * t.wp) x in
      let s : Sees at i (suc j) = omega (arith, y, ap (λ n. n * t.em) (add-one j), ap (λ n. n * t.ep) (add-one j)) in
      and_both _ _ (and_right (eqb (q + ((j + 1) * t.em + i * t.wm)) (at + (j + 1) * t.ep + i * t.wp)) (barred ks r.allowed q) w.2)
      (some_at r.d (λ i. edge r (around ks q t) i 0 || some r.ce (turns r (around ks q t) i)) i w.1
      (or_right (edge r (around ks q t) i 0) (some_at r.ce (turns r (around ks q t) i) j v.1 (turns_is at i j l s ∙ and_both _ _ e f))))

  hit_reaches : (at : ℕ) → t.em ≤ at → hit ks r t at q ≡ true → (barred ks r.allowed q && reached r (around ks q t)) ≡ true
  unfolding hit
  hit_reaches at l h =
      let e = and_left (edge_at ks r t at) (deep ks r.allowed r.d t.wp t.wm at 0 q || turns_at ks r t at && past ks r t at r.ce q) h in
      let o = and_right (edge_at ks r t at) (deep ks r.allowed r.d t.wp t.wm at 0 q || turns_at ks r t at && past ks r t at r.ce q) h in
      ⊎_elim (λ d. deep_reaches at e d)
      (λ p. past_reaches at l e (and_left (turns_at ks r t at) (past ks r t at r.ce q) p) (and_right (turns_at ks r t at) (past ks r t at r.ce q) p))
      (or_cases (deep ks r.allowed r.d t.wp t.wm at 0 q) (turns_at ks r t at && past ks r t at r.ce q) o)

  -- and what sees an edge is marked by it
  module _ (st : Steps t) (lo : 1411 ≤ q) (hi : q ≤ 5312) (dd : r.d ≤ 16) (ce : r.ce ≤ 16) where
    abbrev Hit : Type 0
    Hit = (at : ℕ) × (83 ≤ at) × (at < 6641) × (hit ks r t at q ≡ true)

    -- the square that q sees at i, j is one of those swept
    sees : (i j : ℕ) → i ≤ 16 → j ≤ 16 → (at : ℕ) × (83 ≤ at) × (at < 6641) × Sees at i j
    sees i j a b =
        let p = mul-le-mul_right t.wp a in
        let m = mul-le-mul_right t.wm a in
        let u = mul-le-mul_right t.ep b in
        let d = mul-le-mul_right t.em b in
        (q + (i * t.wm + j * t.em) - (i * t.wp + j * t.ep), omega (arith, st), omega (arith, st), omega (arith, st))

    edge_hits : (i : ℕ) → i < r.d → barred ks r.allowed q ≡ true → edge r (around ks q t) i 0 ≡ true → Hit
    unfolding hit deep one
    edge_hits i l b e =
        let s = sees i 0 (omega arith) (omega arith) in (
          s.0,
          s.1,
          s.2,
          and_both _ _ (sym (edge_is s.0 i 0 s.3) ∙ e)
              (or_left _ (some_at r.d (λ i. one ks r.allowed (s.0 + i * t.wp) (0 + i * t.wm) q) i l (and_both _ _ (eq-eqb (q + (0 + i * t.wm)) (s.0 + i * t.wp) (omega (arith, s.3))) b))),
        )

    turns_hits : (i j : ℕ) → i < r.d → j < r.ce → barred ks r.allowed q ≡ true → turns r (around ks q t) i j ≡ true → Hit
    unfolding hit past deep one
    turns_hits i j l k b e =
        let s = sees i (suc j) (omega arith) (omega arith) in
        let at = s.0 in
        let f = sym (turns_is at i j (omega (arith, st.em, s.1)) s.3) ∙ e in
        let y : q + ((j + 1) * t.em + i * t.wm) ≡ at + (j + 1) * t.ep + i * t.wp = omega (arith, s.3, ap (λ n. n * t.em) (add-one j), ap (λ n. n * t.ep) (add-one j)) in (
          at,
          s.1,
          s.2,
          and_both _ _ (and_left (edge_at ks r t at) (turns_at ks r t at) f)
              (or_right (deep ks r.allowed r.d t.wp t.wm at 0 q)
              (and_both _ _ (and_right (edge_at ks r t at) (turns_at ks r t at) f)
              (some_at r.ce (λ j. deep ks r.allowed r.d t.wp t.wm (at + (j + 1) * t.ep) ((j + 1) * t.em) q) j k
              (some_at r.d (λ i. one ks r.allowed (at + (j + 1) * t.ep + i * t.wp) ((j + 1) * t.em + i * t.wm) q) i l
              (and_both _ _ (eq-eqb (q + ((j + 1) * t.em + i * t.wm)) (at + (j + 1) * t.ep + i * t.wp) y) b))))),
        )

    reached_hits : (barred ks r.allowed q && reached r (around ks q t)) ≡ true → Hit
    unfolding reached
    reached_hits h =
        let b = and_left (barred ks r.allowed q) (reached r (around ks q t)) h in
        let w = some_has r.d _ (and_right (barred ks r.allowed q) (reached r (around ks q t)) h) in
        let i = w.0 in
        ⊎_elim (λ e. edge_hits i w.1 b e)
        (λ f. let v = some_has r.ce (turns r (around ks q t) i) f in turns_hits i v.0 w.1 v.1 b v.2)
        (or_cases (edge r (around ks q t) i 0) (some r.ce (turns r (around ks q t) i)) w.2)

-- one direction, all the rules
module _ (ks ws : List ℕ) (n : ℕ) (ok : Ruled ws n) (q : ℕ) (lo : 1411 ≤ q) (hi : q ≤ 5312) where
  -- the rule forbids q in this direction
  unfoldable one_way : Bool → Turn → ℕ → Bool
  one_way all t i = goes all (rule_at ws i) && (barred ks (rule_at ws i).allowed q && reached (rule_at ws i) (around ks q t))

  swept_is : (all : Bool) (t : Turn) → Steps t → swept ks ws n all t q ≡ some n (one_way all t)
  unfolding swept hits goes_hit one_way
  swept_is all t st = same_truth (swept ks ws n all t q) (some n (one_way all t)) to from
    where
      to : swept ks ws n all t q ≡ true → some n (one_way all t) ≡ true
      to h =
          let v = some_has 6558 (λ k. hits ks ws n all t (83 + k) q) h in
          let w = some_has n (λ i. goes_hit ks all t (83 + v.0) (rule_at ws i) q) v.2 in
          let r = rule_at ws w.0 in
          some_at n (one_way all t) w.0 w.1
          (and_both _ _ (and_left (goes all r) (hit ks r t (83 + v.0) q) w.2)
          (hit_reaches ks t q r (83 + v.0) (omega (arith, st.em)) (and_right (goes all r) (hit ks r t (83 + v.0) q) w.2)))

      from : some n (one_way all t) ≡ true → swept ks ws n all t q ≡ true
      from h =
          let w = some_has n (one_way all t) h in
          let r = rule_at ws w.0 in
          let b = barred ks r.allowed q && reached r (around ks q t) in
          let x = reached_hits ks t q r st lo hi (ok.deep w.0 w.1) (ok.side w.0 w.1) (and_right (goes all r) b w.2) in
          let k = x.0 - 83 in
          let e : 83 + k ≡ x.0 = omega (arith, x.1) in
          some_at 6558 (λ k. hits ks ws n all t (83 + k) q) k (omega (arith, x.1, x.2))
          (some_at n (λ i. goes_hit ks all t (83 + k) (rule_at ws i) q) w.0 w.1
          (and_both _ _ (and_left (goes all r) b w.2) (ap (λ a. hit ks r t a q) e ∙ x.3)))

-- the eight directions together
chosen : Bool → Bool → Bool → Bool → Bool → Bool → Bool → Bool → Bool → Bool
chosen true r1 r2 r3 r4 r5 r6 r7 r8 = r1 || (r2 || false)
chosen false r1 r2 r3 r4 r5 r6 r7 r8 = r1 || (r2 || (r3 || (r4 || (r5 || (r6 || (r7 || (r8 || false)))))))

combine : (k b r1 r2 r3 r4 r5 r6 r7 r8 : Bool) → (true && (b && r1) || true && (b && r2) || not k && (b && r3) || not k && (b && r4) || not k && (b && r5) || not k && (b && r6) || not k && (b && r7) || not k && (b && r8)) ≡ (b && chosen k r1 r2 r3 r4 r5 r6 r7 r8)
unfolding chosen
combine true false r1 r2 r3 r4 r5 r6 r7 r8 = refl
combine false false r1 r2 r3 r4 r5 r6 r7 r8 = refl
combine true true true r2 r3 r4 r5 r6 r7 r8 = refl
combine true true false true r3 r4 r5 r6 r7 r8 = refl
combine true true false false r3 r4 r5 r6 r7 r8 = refl
combine false true true r2 r3 r4 r5 r6 r7 r8 = refl
combine false true false true r3 r4 r5 r6 r7 r8 = refl
combine false true false false true r4 r5 r6 r7 r8 = refl
combine false true false false false true r5 r6 r7 r8 = refl
combine false true false false false false true r6 r7 r8 = refl
combine false true false false false false false true r7 r8 = refl
combine false true false false false false false false true r8 = refl
combine false true false false false false false false false true = refl
combine false true false false false false false false false false = refl

chosen_is : (k : Bool) (R : Way × Way → Bool) → chosen k (R (right, up)) (R (up, left)) (R (right, down)) (R (left, up)) (R (left, down)) (R (up, right)) (R (down, left)) (R (down, right)) ≡ some_of (ways_by k) R
unfolding chosen ways_by
chosen_is true R = simp (some_of_cons, some_of_nil)
chosen_is false R = simp (some_of_cons, some_of_nil)

rules_some : (ws : List ℕ) (n : ℕ) (f : Rule → Bool) → some_of (rules_of ws n) f ≡ some n (λ i. f (rule_at ws i))
unfolding rules_of joined some some_of
rules_some ws zero f = refl
rules_some ws (suc n) f =
    some_of_append (rules_of ws n) (rule_at ws n ∷ []) f
    ∙ ap₂ (λ x y. x || y) (rules_some ws n f) (some_of_cons (rule_at ws n) [] f ∙ or-false (f (rule_at ws n)))
    ∙ or_comm (some n (λ i. f (rule_at ws i))) (f (rule_at ws n)) ∙ sym (some_suc n (λ i. f (rule_at ws i)))

or_some : (n : ℕ) {x y : Bool} (f g : ℕ → Bool) → x ≡ some n f → y ≡ some n g → (x || y) ≡ some n (λ i. f i || g i)
or_some n f g p e = ap₂ (λ a b. a || b) p e ∙ some_or n f g

forbids_flat : (ks : List ℕ) (q : ℕ) (r : Rule) → (barred ks r.allowed q && chosen (eqb r.fourway 0) (reached r (flat ks q right up)) (reached r (flat ks q up left)) (reached r (flat ks q right down)) (reached r (flat ks q left up)) (reached r (flat ks q left down)) (reached r (flat ks q up right)) (reached r (flat ks q down left)) (reached r (flat ks q down right))) ≡ forbids (flat ks q) r
unfolding forbids ways barred flat
forbids_flat ks q r =
    ap₂ (λ x y. not (member r.allowed x) && y) (sym (seen ks (turn right up) q r q 0 0 (omega arith)))
    (chosen_is (eqb r.fourway 0) (λ x. reached r (flat ks q x.0 x.1)))

-- what the sweeps mark is what the rules forbid
pub sweeps_is : (ks ws : List ℕ) (n : ℕ) → Ruled ws n → (q : ℕ) → 1411 ≤ q → q ≤ 5312 → sweeps ks ws n q ≡ some_of (rules_of ws n) (forbids (flat ks q))
unfolding sweeps one_way goes flat
sweeps_is ks ws n ok q lo hi =
    let O : Bool → Turn → ℕ → Bool = one_way ks ws n ok q lo hi in
    let S : (all : Bool) (t : Turn) → Steps t → swept ks ws n all t q ≡ some n (O all t) = swept_is ks ws n ok q lo hi in
    or_some n (λ i. O true (turn right up) i || O true (turn up left) i || O false (turn right down) i || O false (turn left up) i || O false (turn left down) i || O false (turn up right) i || O false (turn down left) i) (O false (turn down right))
    (or_some n (λ i. O true (turn right up) i || O true (turn up left) i || O false (turn right down) i || O false (turn left up) i || O false (turn left down) i || O false (turn up right) i) (O false (turn down left))
    (or_some n (λ i. O true (turn right up) i || O true (turn up left) i || O false (turn right down) i || O false (turn left up) i || O false (turn left down) i) (O false (turn up right))
    (or_some n (λ i. O true (turn right up) i || O true (turn up left) i || O false (turn right down) i || O false (turn left up) i) (O false (turn left down))
    (or_some n (λ i. O true (turn right up) i || O true (turn up left) i || O false (turn right down) i) (O false (turn left up))
    (or_some n (λ i. O true (turn right up) i || O true (turn up left) i) (O false (turn right down))
    (or_some n (O true (turn right up)) (O true (turn up left))
    (S true (turn right up) (omega arith))
    (S true (turn up left) (omega arith)))
    (S false (turn right down) (omega arith)))
    (S false (turn left up) (omega arith)))
    (S false (turn left down) (omega arith)))
    (S false (turn up right) (omega arith)))
    (S false (turn down left) (omega arith)))
    (S false (turn down right) (omega arith))
    ∙ some_same n (λ i. O true (turn right up) i || O true (turn up left) i || O false (turn right down) i || O false (turn left up) i || O false (turn left down) i || O false (turn up right) i || O false (turn down left) i || O false (turn down right) i) (λ i. forbids (flat ks q) (rule_at ws i))
    (λ i l. let r = rule_at ws i in combine (eqb r.fourway 0) (barred ks r.allowed q) (reached r (flat ks q right up)) (reached r (flat ks q up left)) (reached r (flat ks q right down)) (reached r (flat ks q left up)) (reached r (flat ks q left down)) (reached r (flat ks q up right)) (reached r (flat ks q down left)) (reached r (flat ks q down right)) ∙ forbids_flat ks q r)
    ∙ sym (rules_some ws n (forbids (flat ks q)))
