-- A test of all numbers of a range: what it tells where each call tells whether a fact holds.
use Prim.Native.Nat.{ℕ, ◌+◌, ◌-◌, ◌≤◌, ◌<◌}
use native.Mathlib.Omega.{arith}
use mathlib.Core.Bool.{Bool, true, false}
use mathlib.Core.Path.{◌≡◌, refl, ◌∙◌, subst}
use mathlib.Core.List.{List}
use denote.Param.Members.{Mut}
use lib.ListN.{length, get_or}
use Rattle.std.specs.Prelude.{Option}
use Rattle.std.specs.declared.ops.Range.{Range}
use Rattle.std.specs.Bool.{MatchBool}
use Rattle.std.specs.Fn.{Called}
use Rattle.std.specs.Iterator.{YieldsThen}
use Rattle.std.specs.List.{FoldsTo, range_with_len, AllWithin, HoldsAt}
use Rattle.std.specs.Option.{MatchOption}
use Rattle.std.proofs.iter.Yields.{nat_range_steps}
use Rattle.std.proofs.lemmas.Iterator.{cases_from_all, YieldsList-from_range}
use Rattle.std.proofs.lemmas.List.FromFn.{length-range_with_len, get_or-range_with_len}
use Rattle.plane.specs.Words.{Tells}

pub tells_all : {F : Type 0} {g : Mut F (ℕ × Unit {0}) Bool} {s : Range ℕ} (u : Range ℕ) (f : F) (r : Bool) (a b : ℕ) (Yes No : ℕ → Type 0) (P Q : Type 0)
    → (xs : List ℕ) × (o : Option ℕ) × (j : F) × YieldsThen nat_range_steps s xs o u × FoldsTo (λ p x q. Called g p (x, tt) true q) f xs j × MatchOption o (r ≡ true) (λ x. (r ≡ false) × ((h : F) × Called g j (x, tt) false h))
    → s ≡ record { start = a; end = b }
    → ((x : ℕ) (q : F) → Called g f (x, tt) true q → (q ≡ f) × Yes x)
    → ((x : ℕ) (q : F) → Called g f (x, tt) false q → No x)
    → (((i : ℕ) → a ≤ i → i < b → Yes i) → P)
    → ((i : ℕ) → a ≤ i → i < b → No i → Q → ⊥)
    → Tells r P Q
tells_all {F} {g} {s} u f r a b Yes No P Q ran from at_true at_false every some =
    go r (cases_from_all u f r Yes No ran (YieldsList-from_range a b (b - a) from refl) at_true at_false)
  where
    item : (k : ℕ) → k < b - a → get_or (range_with_len a (b - a)) k 0 ≡ a + k
    item k u = get_or-range_with_len a (b - a) k 0 u

    go : (r : Bool) → MatchBool r (AllWithin Yes (range_with_len a (b - a)) 0 (length (range_with_len a (b - a)))) ((k : ℕ) × (k < length (range_with_len a (b - a))) × HoldsAt No (range_with_len a (b - a)) k) → Tells r P Q
    go true h = every (λ i u v. let e : a + (i - a) ≡ i = omega arith in
        subst Yes (item (i - a) (omega arith) ∙ e) (h (i - a) 0 (omega arith) (omega (arith, length-range_with_len a (b - a)))))
    go false h = let u : h.0 < b - a = omega (arith, h.1, length-range_with_len a (b - a)) in
        some (a + h.0) (omega arith) (omega arith) (subst No (item h.0 u) (h.2 0))
