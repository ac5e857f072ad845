-- A macro within its ranges makes rules within theirs.
use Prim.Native.Nat.{ℕ, zero, suc, ◌/◌, ◌^◌, ◌≤◌, ◌<◌}
use mathlib.Core.Bool.{Bool, true, false, not, cond, ◌&&◌, ◌||◌}
use mathlib.Core.List.{List, [], ◌∷◌}
use mathlib.Core.Path.{◌≡◌, refl, sym, ◌∙◌, ap}
use mathlib.Core.Logic.{◌⊎◌, inl, inr, ⊎_elim}
use native.Mathlib.Omega.{arith}
use native.Mathlib.Nat.{div-eq_of_lt}
use lib.Dec.{eqb, leb}
use borrow.Author.Tests.{leb-true, le-leb, lt-ltb, eq-eqb, eqb-true, eqb-false, ne_eqb, not-true}
use Rattle.plane.specs.Picture.{joined}
use Rattle.plane.proofs.Basics.{and_left, and_right, tf}
use Rattle.rules.specs.declared.rule.Rule.{Rule}
use Rattle.macros.specs.declared.pairs.Made.{Made}
use Rattle.macros.specs.Macros.{made, cell, row, row_if, rows, width, width_sound, taken, second, half_spacing, spacing, spacing_sound}
use Rattle.rules.specs.Sets.{member, within, others, both, disjoint}
use Rattle.rules.specs.Some.{Every, some}
use Rattle.rules.specs.Words.{sound}
use Rattle.macros.proofs.Counts.{width_below}
use Rattle.rules.proofs.Searches.{every_append, or_cases, or_left, some_false}
use Rattle.rules.proofs.Sets.{others_member, others_below, sum_member}
use Rattle.macros.proofs.Spaces.{Spaceable, spaceable, taken_both, taken_one}
use Rattle.desk.proofs.RuleLists.{SoundFor}

-- ---- every rule that is made
joined_every : (P : Rule → Type 0) (n : ℕ) (f : ℕ → List Rule) → ((i : ℕ) → i < n → Every P (f i)) → Every P (joined n f)
unfolding joined
joined_every P zero f h = tt
joined_every P (suc n) f h = every_append P (joined n f) (f n) (joined_every P n f (λ i l. h i (omega arith))) (h n (omega arith))

cond_every : (P : Rule → Type 0) (b : Bool) (l : List Rule) → (b ≡ true → Every P l) → Every P (cond b l [])
cond_every P true l h = h refl
cond_every P false l h = tt

module _ (t first second : ℕ) (m : Made) (P : Rule → Type 0) (each : (a b : ℕ) → a < t → b < t → member first a ≡ true → member second b ≡ true → P (made m a b)) where
  rows_every : Every P (rows t t first second m)
  unfolding rows row_if row cell
  rows_every =
      joined_every P t (row_if t first second m) (λ a u. cond_every P (member first a) (row t second m a) (λ e.
      joined_every P t (cell second m a) (λ b v. cond_every P (member second b) (made m a b ∷ []) (λ f. (each a b u v e f, tt)))))

-- ---- one of them
below_within : (t s : ℕ) → s < 2 ^ t → within t s ≡ true
unfolding within
below_within t s h = eq-eqb (s / 2 ^ t) 0 (div-eq_of_lt h)

made_sound : (t : ℕ) (m : Made) (a b : ℕ) → a < t → b < t → (a ≡ b → ⊥) → 1 ≤ m.d → m.d ≤ 16 → m.allowed < 2 ^ t → m.corners < 2 ^ t → sound t (made m a b) ≡ true
unfolding sound made
made_sound t m a b u v n one most p q =
    rw (lt-ltb a t u, lt-ltb b t v, ne_eqb a b n, le-leb 1 m.d one, le-leb m.d 16 most, below_within t m.allowed p, below_within t m.corners q)

-- a type of a set is none of the others
apart : (t S a b : ℕ) → S < 2 ^ t → a < t → member S a ≡ true → member (others t S) b ≡ true → a ≡ b → ⊥
apart t S a b l u e f q =
    let g = others_member t S a l u in
    tf (sym f ∙ ap (member (others t S)) (sym q) ∙ g ∙ ap not e)

-- ---- width
width_deep : (t s d : ℕ) → width_sound t s d ≡ true → (1 ≤ d) × (d ≤ 16)
unfolding width_sound
width_deep t s d e = (
  leb-true 1 d (and_right (within t s && not (eqb s 0)) (leb 1 d) (and_left (within t s && not (eqb s 0) && leb 1 d) (leb d 16) e)),
  leb-true d 16 (and_right (within t s && not (eqb s 0) && leb 1 d) (leb d 16) e),
)

pub width_made : (t s d reason : ℕ) → width_sound t s d ≡ true → Every (SoundFor t) (width t s d reason)
unfolding width
width_made t s d reason ok =
    let l = width_below t s d ok in
    let r = width_deep t s d ok in
    rows_every t (others t s) s (record { d = d; allowed = s; corners = s; reason = reason }) (SoundFor t)
    (λ a b u v e f. made_sound t (record { d = d; allowed = s; corners = s; reason = reason }) a b u v (λ q. apart t s b a l v f e (sym q)) r.0 r.1 l l)

-- ---- spacing
-- the ranges of a spacing macro, one by one
record SpacingRange (t a b d touch : ℕ) : Type 0 where
  least : 1 ≤ d
  most : d ≤ 16
  sets : Spaceable t a b touch
  sums : (a ≡ b) ⊎ ((i : ℕ) → i < t → both a b i ≡ false)

spacing_range : (t a b d touch : ℕ) → spacing_sound t a b d touch ≡ true → SpacingRange t a b d touch
unfolding spacing_sound disjoint
spacing_range t a b d touch ok = record {
  least = leb-true 1 d (and_left (leb 1 d) (leb d 16) deep);
  most = leb-true d 16 (and_right (leb 1 d) (leb d 16) deep);
  sets = spaceable t a b d touch ok;
  sums =
      ⊎_elim (λ e. inl (eqb-true a b e)) (λ e. inr (some_false t (both a b) (not-true (some t (both a b)) e)))
      (or_cases (eqb a b) (not (some t (both a b))) (and_right (within t a && within t b && not (eqb a 0) && not (eqb b 0) && (leb 1 d && leb d 16 && leb touch 1)) (eqb a b || not (some t (both a b))) ok));
}
  where
    deep : (leb 1 d && leb d 16) ≡ true
    deep =
        and_left (leb 1 d && leb d 16) (leb touch 1)
        (and_right (within t a && within t b && not (eqb a 0) && not (eqb b 0)) (leb 1 d && leb d 16 && leb touch 1)
        (and_left (within t a && within t b && not (eqb a 0) && not (eqb b 0) && (leb 1 d && leb d 16 && leb touch 1)) (eqb a b || not (some t (both a b))) ok))

-- a type of A is among the types that a spacing rule takes out
taken_member : (t a b touch i : ℕ) → (a ≡ b) ⊎ ((j : ℕ) → j < t → both a b j ≡ false) → i < t → member a i ≡ true → member (taken a b touch) i ≡ true
taken_member t a b touch i s u e = go (eqb touch 1 && not (eqb a b)) refl s
  where
    go : (x : Bool) → (eqb touch 1 && not (eqb a b)) ≡ x → (a ≡ b) ⊎ ((j : ℕ) → j < t → both a b j ≡ false) → member (taken a b touch) i ≡ true
    go true f (inl q) = absurd (eqb-false a b (not-true (eqb a b) (and_right (eqb touch 1) (not (eqb a b)) f)) q)
    go true f (inr n) = ap (λ (k : ℕ). member k i) (taken_both a b touch f) ∙ (sum_member t a b i n u ∙ or_left (member b i) e)
    go false f s = ap (λ (k : ℕ). member k i) (taken_one a b touch f) ∙ e

half_made : (t a b d touch reason : ℕ) → 1 ≤ d → d ≤ 16 → taken a b touch < 2 ^ t → (a ≡ b) ⊎ ((j : ℕ) → j < t → both a b j ≡ false) → Every (SoundFor t) (half_spacing t a b d touch reason)
unfolding half_spacing second
half_made t a b d touch reason one most l s =
    rows_every t a (second t a b touch) (record { d = d; allowed = others t b; corners = second t a b touch; reason = reason }) (SoundFor t)
    (λ x y u v e f.
    made_sound t (record { d = d; allowed = others t b; corners = second t a b touch; reason = reason }) x y u v
    (apart t (taken a b touch) x y l u (taken_member t a b touch x s u e) f) one most (others_below t b) (others_below t (taken a b touch)))

both_turned : (a b i : ℕ) → both a b i ≡ false → both b a i ≡ false
unfolding both
both_turned a b i e = go (member a i) (member b i) e
  where
    go : (x y : Bool) → (x && y) ≡ false → (y && x) ≡ false
    go true true e = e
    go true false e = refl
    go false true e = refl
    go false false e = refl

pub spacing_made : (t a b d touch reason : ℕ) → spacing_sound t a b d touch ≡ true → Every (SoundFor t) (spacing t a b d touch reason)
unfolding spacing
spacing_made t a b d touch reason ok =
    let r = spacing_range t a b d touch ok in
    every_append (SoundFor t) (half_spacing t a b d touch reason) (cond (eqb a b) [] (half_spacing t b a d touch reason))
    (half_made t a b d touch reason r.least r.most r.sets.first_taken r.sums)
    (turned (eqb a b) (half_made t b a d touch reason r.least r.most r.sets.second_taken (⊎_elim (λ (q : a ≡ b). inl (sym q)) (λ n. inr (λ j u. both_turned a b j (n j u))) r.sums)))
  where
    turned : (x : Bool) → Every (SoundFor t) (half_spacing t b a d touch reason) → Every (SoundFor t) (cond x [] (half_spacing t b a d touch reason))
    turned true h = tt
    turned false h = h
