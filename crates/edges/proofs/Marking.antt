-- How marks add up: nothing marked, one marking after another, one turn of a loop more; and from them what the edge of a rule at an index marks.
use Prim.Native.Nat.{ℕ, ◌+◌, ◌-◌, ◌*◌, ◌<◌, ◌≤◌}
use mathlib.Core.Bool.{Bool, true, false, not, cond, ◌&&◌, ◌||◌, and-false, or-false, or_comm}
use mathlib.Core.List.{List}
use mathlib.Core.Path.{◌≡◌, refl, sym, ◌∙◌, ap}
use native.Mathlib.Omega.{arith}
use native.Mathlib.Numerals.{add-one}
use native.Mathlib.Decide.{ℕ_discrete}
use lib.ListN.{length, get_or, set, length-set}
use lib.Seq.{get_or-set_same, get_or-set_other}
use lib.Dec.{eqb}
use borrow.Author.Tests.{eq-eqb, ne_eqb}
use Rattle.rules.specs.declared.rule.Rule.{Rule}
use Rattle.rules.specs.Some.{some}
use Rattle.rules.specs.Sets.{member}
use Rattle.rules.proofs.Searches.{some_suc}
use Rattle.edges.specs.declared.turn.Turn.{Turn}
use Rattle.edges.specs.Edge.{Marked, one, barred, deep, past, edge_at, turns_at, hit, goes, goes_hit}

-- ---- markings
-- nothing is marked
keep_in : {P : ℕ → Bool} {m : List ℕ} → ((q : ℕ) → q < length m → P q ≡ false) → Marked P m m
keep_in {P} {m} none = record { long = refl; mark = λ q h. ap (λ b. cond b 1 (get_or m q 0)) (sym (none q h)) }

pub keep : {P : ℕ → Bool} {m : List ℕ} → ((q : ℕ) → P q ≡ false) → Marked P m m
keep none = keep_in (λ q h. none q)

cond_cond : (a b : Bool) (n : ℕ) → cond a 1 (cond b 1 n) ≡ cond (a || b) 1 n
cond_cond true b n = refl
cond_cond false b n = refl

-- one marking after another
then : {P Q R : ℕ → Bool} {m m₁ m₂ : List ℕ} → Marked P m m₁ → Marked Q m₁ m₂ → ((q : ℕ) → (Q q || P q) ≡ R q) → Marked R m m₂
then {P} {Q} {R} {m} {m₁} {m₂} a b same = record {
  long = b.long ∙ a.long;
  mark = λ q h. b.mark q (rw a.long h) ∙ ap (λ n. cond (Q q) 1 n) (a.mark q h) ∙ cond_cond (Q q) (P q) (get_or m q 0) ∙ ap (λ b. cond b 1 (get_or m q 0)) (same q);
}

pub and_then : {P Q : ℕ → Bool} {m m₁ m₂ : List ℕ} → Marked P m m₁ → Marked Q m₁ m₂ → Marked (λ q. P q || Q q) m m₂
and_then {P} {Q} a b = then a b (λ q. or_comm (Q q) (P q))

-- the same marks by another name
pub relabel : {P R : ℕ → Bool} {m m₁ : List ℕ} → Marked P m m₁ → ((q : ℕ) → P q ≡ R q) → Marked R m m₁
relabel {P} {R} {m} a same = record { long = a.long; mark = λ q h. a.mark q h ∙ ap (λ b. cond b 1 (get_or m q 0)) (same q) }

-- a loop's start, and its next turn
pub start : (P : ℕ → ℕ → Bool) {m : List ℕ} → Marked (λ q. some 0 (λ k. P k q)) m m
unfolding some
start P = keep (λ q. refl)

pub more : (P : ℕ → ℕ → Bool) (i : ℕ) {m m₁ m₂ : List ℕ} → Marked (λ q. some i (λ k. P k q)) m m₁ → Marked (P i) m₁ m₂ → Marked (λ q. some (i + 1) (λ k. P k q)) m m₂
more P i a b = rw (add-one i) (then a b (λ q. sym (some_suc i (λ k. P k q))))

-- ---- one square
module _ (ks : List ℕ) (allowed x y : ℕ) where
  one_far : (q : ℕ) → (q + y ≡ x → ⊥) → one ks allowed x y q ≡ false
  unfolding one
  one_far q ne = ap (λ b. b && barred ks allowed q) (ne_eqb (q + y) x ne)

  -- off the picture, or of an allowed type; and of another
  pub one_none : {m : List ℕ} → length m ≡ 6724 → (y ≤ x → x - y < 6724 → member allowed (get_or ks (x - y) 0) ≡ true) → Marked (one ks allowed x y) m m
  unfolding one barred
  one_none {m} sized free = keep_in (λ q h. at q h (ℕ_discrete (q + y) x))
    where
      at : (q : ℕ) → q < length m → Dec (q + y ≡ x) → one ks allowed x y q ≡ false
      at q h (yes e) = let p : q ≡ x - y = omega arith in ap (λ z. eqb (q + y) x && barred ks allowed z) p ∙ ap (λ b. eqb (q + y) x && not b) (free (omega arith) (omega (arith, sized))) ∙ and-false (eqb (q + y) x)
      at q h (no ne) = one_far q ne

  pub one_set : {b : Bool} {m : List ℕ} → length m ≡ 6724 → y ≤ x → x - y < 6724 → b ≡ member allowed (get_or ks (x - y) 0) → b ≡ false → Marked (one ks allowed x y) m (set m (x - y) 1)
  unfolding one barred
  one_set {b} {m} sized l h e f = record { long = length-set m (x - y) 1; mark = λ q g. at q (ℕ_discrete (q + y) x) }
    where
      bars : barred ks allowed (x - y) ≡ true
      bars = ap not (sym e ∙ f)

      at : (q : ℕ) → Dec (q + y ≡ x) → get_or (set m (x - y) 1) q 0 ≡ cond (one ks allowed x y q) 1 (get_or m q 0)
      at q (yes e) =
          let p : q ≡ x - y = omega arith in
          rw (eq-eqb (q + y) x e, p, bars) (get_or-set_same m (x - y) 1 0 (omega (arith, sized)))
      at q (no ne) = rw (one_far q ne) (get_or-set_other m (x - y) q 1 0 (λ e. ne (omega arith)))

-- ---- squares behind an edge, and past its end
pub deep_start : (ks : List ℕ) (allowed plus minus x y : ℕ) {m : List ℕ} → Marked (deep ks allowed 0 plus minus x y) m m
unfolding deep
deep_start ks allowed plus minus x y = start (λ k q. one ks allowed (x + k * plus) (y + k * minus) q)

pub deep_more : (ks : List ℕ) (allowed i plus minus x y : ℕ) {m m₁ m₂ : List ℕ} → Marked (deep ks allowed i plus minus x y) m m₁ → Marked (one ks allowed (x + i * plus) (y + i * minus)) m₁ m₂ → Marked (deep ks allowed (i + 1) plus minus x y) m m₂
unfolding deep
deep_more ks allowed i plus minus x y a b = more (λ k q. one ks allowed (x + k * plus) (y + k * minus) q) i a b

-- 0 steps to the side
pub deep_here : (ks : List ℕ) (allowed d p n at ep em : ℕ) {m m₁ : List ℕ} → Marked (deep ks allowed d p n (at + 0 * ep) (0 * em)) m m₁ → Marked (deep ks allowed d p n at 0) m m₁
deep_here ks allowed d p n at ep em a = let e : at + 0 * ep ≡ at = omega arith in let f : 0 * em ≡ 0 = omega arith in rw (e, f) at a

module _ (ks : List ℕ) (r : Rule) (t : Turn) (at : ℕ) where
  pub past_start : {m : List ℕ} → Marked (past ks r t at 0) m m
  unfolding past
  past_start = start (λ j q. deep ks r.allowed r.d t.wp t.wm (at + (j + 1) * t.ep) ((j + 1) * t.em) q)

  pub past_more : (j : ℕ) {m m₁ m₂ : List ℕ} → Marked (past ks r t at j) m m₁ → Marked (deep ks r.allowed r.d t.wp t.wm (at + (j + 1) * t.ep) ((j + 1) * t.em)) m₁ m₂ → Marked (past ks r t at (j + 1)) m m₂
  unfolding past
  past_more j a b = more (λ j q. deep ks r.allowed r.d t.wp t.wm (at + (j + 1) * t.ep) ((j + 1) * t.em) q) j a b

  -- ---- what the edge at an index marks, by the tests' answers
  pub hit_none : edge_at ks r t at ≡ false → (q : ℕ) → hit ks r t at q ≡ false
  unfolding hit
  hit_none e q = rw e

  pub no_edge : {b : Bool} {m : List ℕ} → b ≡ edge_at ks r t at → b ≡ false → Marked (hit ks r t at) m m
  no_edge {b} e f = keep (hit_none (sym e ∙ f))

  pub straight : {b c : Bool} {m m₁ : List ℕ} → b ≡ edge_at ks r t at → b ≡ true → c ≡ turns_at ks r t at → c ≡ false
      → Marked (deep ks r.allowed r.d t.wp t.wm at 0) m m₁ → Marked (hit ks r t at) m m₁
  unfolding hit
  straight {b} {c} e f g h a = relabel a (λ q. rw (sym e ∙ f, sym g ∙ h) (sym (or-false _)))

  pub turned : {b c : Bool} {m m₁ m₂ : List ℕ} → b ≡ edge_at ks r t at → b ≡ true → c ≡ turns_at ks r t at → c ≡ true
      → Marked (deep ks r.allowed r.d t.wp t.wm at 0) m m₁ → Marked (past ks r t at r.ce) m₁ m₂ → Marked (hit ks r t at) m m₂
  unfolding hit
  turned {b} {c} e f g h a p = relabel (and_then a p) (λ q. rw (sym e ∙ f, sym g ∙ h))

  -- ---- for a rule that lacks the direction, and one that has it
  pub goes_none : (all : Bool) → goes all r ≡ false → (q : ℕ) → goes_hit ks all t at r q ≡ false
  unfolding goes_hit
  goes_none all e q = rw e

  pub goes_on : (all : Bool) {m m₁ : List ℕ} → goes all r ≡ true → Marked (hit ks r t at) m m₁ → Marked (goes_hit ks all t at r) m m₁
  unfolding goes_hit
  goes_on all e a = relabel a (λ q. rw e)
