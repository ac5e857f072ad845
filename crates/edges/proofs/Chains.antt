-- The rules by cells: one rule more, and going from one rule of a cell to the next passes only rules that have no edge there.
use Prim.Native.Nat.{ℕ, ◌+◌, ◌-◌, ◌<◌, ◌≤◌, min, max}
use native.Mathlib.Omega.{arith}
use native.Mathlib.Decide.{ℕ_discrete}
use mathlib.Core.Bool.{Bool, false, true≢false}
use mathlib.Core.List.{List}
use mathlib.Core.Logic.{⊎_elim}
use mathlib.Core.Path.{◌≡◌, refl, sym, ◌∙◌, ap}
use lib.ListN.{length, get_or, set, replicate, length-set, length-replicate, get_or-replicate}
use lib.Seq.{get_or-set_same, get_or-set_other}
use Rattle.plane.proofs.Basics.{lt_or_ge}
use Rattle.rules.specs.declared.rule.Rule.{Rule}
use Rattle.rules.specs.Some.{some}
use Rattle.rules.specs.Words.{rule_at}
use Rattle.rules.proofs.Searches.{same_truth, some_at, some_has}
use Rattle.edges.specs.declared.cells.Chains.{Chains}
use Rattle.edges.specs.declared.turn.Turn.{Turn}
use Rattle.edges.specs.Chains.{cell, cell_at, NextOf, Chained, Linked}
use Rattle.edges.specs.Edge.{Marked, Steps}
use Rattle.edges.specs.Near.{across, across_all, Between}
use Rattle.edges.proofs.Edges.{Faceless, across_none, pair_start, pair_more}
use Rattle.edges.proofs.Marking.{relabel}

-- ---- cells
pub cell_small : (a b : ℕ) → cell a b < 256
unfolding cell
cell_small a b = omega arith

-- either of the two types may come first
cell_turned : (a b : ℕ) → cell b a ≡ cell a b
unfolding cell
cell_turned a b = let e : min b a ≡ min a b = omega arith in let f : max b a ≡ max a b = omega arith in rw (e, f)

-- a rule of another cell does not have the two types
other_cell : (a b : ℕ) (r : Rule) → (cell r.type1 r.type2 ≡ cell a b → ⊥) → Faceless a b r
other_cell a b r n = record {
  ahead = λ e f. n ((λ i. cell (f i) (e i)) ∙ cell_turned a b);
  back = λ e f. absurd (n (λ i. cell (f i) (e i)));
}

-- ---- making the chains
pub chains_none : (ws : List ℕ) (n : ℕ) → n ≤ 512 → Chained ws n n (record { first = replicate 256 65535; next = replicate 512 65535 })
chains_none ws n u = record {
  cells = length-replicate {A = ℕ} 256 65535;
  places = length-replicate {A = ℕ} 512 65535;
  first = λ k l. let e = get_or-replicate {A = ℕ} 256 k 65535 0 l in record { low = omega (arith, e); own = λ o. absurd (omega (arith, e)); none = λ j a b c. absurd (omega arith) };
  next = λ j a b. absurd (omega arith);
}

pub chains_more : {ws : List ℕ} {c d : Chains} {n i : ℕ} → i < n → n ≤ 512 → Chained ws n (i + 1) c → Linked ws i c d → Chained ws n i d
chains_more {ws} {c} {d} {n} {i} u few C e = record {
  cells = ap length e.first ∙ (length-set c.first k i ∙ C.cells);
  places = ap length e.next ∙ (length-set c.next i (get_or c.first k 0) ∙ C.places);
  first = λ j l. rw e.first (first j l (ℕ_discrete j k));
  next = λ j a b. rw e.next (next j a b (ℕ_discrete j i));
}
  where
    k : ℕ
    k = cell_at ws i

    small : k < 256
    small = cell_small (rule_at ws i).type1 (rule_at ws i).type2

    first : (j : ℕ) → j < 256 → Dec (j ≡ k) → NextOf ws n j i (get_or (set c.first k i) j 0)
    first j l (yes f) = rw (f, get_or-set_same c.first k i 0 (omega (arith, small, C.cells))) (record { low = omega arith; own = λ o. refl; none = λ j a b. absurd (omega arith) })
    first j l (no f) = rw (get_or-set_other c.first k j i 0 f) (let N = C.first j l in record {
      low = omega (arith, N.low);
      own = N.own;
      none = λ m a b o h. ⊎_elim (λ (v : i < m). N.none m (omega arith) b o h) (λ (v : m ≤ i). let g : m ≡ i = omega arith in f (sym h ∙ ap (cell_at ws) g)) (lt_or_ge i m);
    })

    next : (j : ℕ) → i ≤ j → j < n → Dec (j ≡ i) → NextOf ws n (cell_at ws j) (j + 1) (get_or (set c.next i (get_or c.first k 0)) j 0)
    next j a b (yes f) = rw (f, get_or-set_same c.next i (get_or c.first k 0) 0 (omega (arith, C.places))) (C.first k small)
    next j a b (no f) = rw (get_or-set_other c.next i j (get_or c.first k 0) 0 f) (C.next j (omega (arith, f)) b)

-- the same from the rule after
pub chains_down : {ws : List ℕ} {c d : Chains} {n j : ℕ} → 0 < j → j ≤ n → n ≤ 512 → Chained ws n j c → Linked ws (j - 1) c d → Chained ws n (j - 1) d
chains_down {j = j} u v few C e = let f : j ≡ j - 1 + 1 = omega arith in chains_more (omega arith) few (rw f at C) e

-- ---- going along a chain
-- where it begins, and where it goes on
module _ {ws : List ℕ} {c : Chains} {n : ℕ} (C : Chained ws n 0 c) where
  pub first_of : {k r : ℕ} (a b : ℕ) → k ≡ cell a b → r ≡ get_or c.first k 0 → NextOf ws n (cell a b) 0 r
  first_of a b e f = rw (f, e) (C.first (cell a b) (cell_small a b))

  pub next_of : {r : ℕ} (i : ℕ) → i < n → r ≡ get_or c.next i 0 → NextOf ws n (cell_at ws i) (i + 1) r
  next_of i u f = rw f (C.next i (omega arith) u)

-- rules that mark nothing are passed
pair_skip : (ks ws : List ℕ) (i l : ℕ) (t : Turn) (at : ℕ) {m m₁ : List ℕ} → i ≤ l → ((j : ℕ) → i ≤ j → j < l → (q : ℕ) → across ks t at (rule_at ws j) q ≡ false)
    → Marked (across_all ks ws i t at) m m₁ → Marked (across_all ks ws l t at) m m₁
unfolding across_all
pair_skip ks ws i l t at u none M = relabel M (λ q.
    let f : ℕ → Bool = λ j. across ks t at (rule_at ws j) q in
    same_truth (some i f) (some l f)
    (λ e. let h = some_has i f e in some_at l f h.0 (omega (arith, h.1)) h.2)
    (λ e. let h = some_has l f e in
    ⊎_elim (λ (v : h.0 < i). some_at i f h.0 v h.2) (λ (v : i ≤ h.0). absurd (true≢false (sym h.2 ∙ none h.0 v h.1 q))) (lt_or_ge h.0 i)))

module _ (ks ws : List ℕ) (n : ℕ) (t : Turn) (at : ℕ) {a b : ℕ} (s : Steps t) (g : 82 ≤ at) (k : Between ks t at a b) where
  -- a rule of another cell marks nothing
  not_here : (j : ℕ) → (cell_at ws j ≡ cell a b → ⊥) → (q : ℕ) → across ks t at (rule_at ws j) q ≡ false
  not_here j o = across_none ks t (record { steps = s; back = k.back }) at g (rule_at ws j) (rw (k.here, k.before) at (other_cell a b (rule_at ws j) o))

  -- up to the first of the cell
  pub chain_start : {r : ℕ} {m : List ℕ} → NextOf ws n (cell a b) 0 r → Marked (across_all ks ws (min r n) t at) m m
  chain_start {r} N = pair_skip ks ws 0 (min r n) t at (omega arith) (λ j u v. not_here j (N.none j u (omega arith) (omega arith))) (pair_start ks ws t at)

  -- one of the cell, and up to the next
  pub chain_more : {i r : ℕ} {m m₁ m₂ : List ℕ} → i < n → cell_at ws i ≡ cell a b → NextOf ws n (cell_at ws i) (i + 1) r
      → Marked (across_all ks ws (min i n) t at) m m₁ → Marked (across ks t at (rule_at ws i)) m₁ m₂ → Marked (across_all ks ws (min r n) t at) m m₂
  chain_more {i} {r} u e N M H =
      let o : min i n ≡ i = omega arith in
      pair_skip ks ws (i + 1) (min r n) t at (omega (arith, N.low)) (λ j v w. not_here j (λ h. N.none j v (omega arith) (omega arith) (h ∙ sym e)))
      (pair_more ks ws i t at (rw o at M) H)
