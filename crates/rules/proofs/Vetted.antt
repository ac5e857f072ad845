-- What the test of a list finds, what a sound rule promises, and how far the rules of a list reach.
use Prim.Native.Nat.{ℕ, zero, suc, ◌+◌, ◌<◌, ◌≤◌, max}
use mathlib.Core.Bool.{Bool, true, false, not, cond, ◌&&◌}
use mathlib.Core.List.{List, [], ◌∷◌}
use mathlib.Core.Logic.{inl, inr, ⊎_elim}
use mathlib.Core.Path.{◌≡◌, refl, sym, ◌∙◌, ap}
use native.Mathlib.Omega.{arith}
use native.Mathlib.Numerals.{add-one}
use native.Mathlib.Nat.{eq-or-lt_of_le, le_of_suc-le-suc}
use lib.ListN.{length}
use lib.Dec.{eqb, leb, ltb}
use borrow.Author.Tests.{ltb-true, ltb-false, lt-ltb, le-ltb, leb-true, eqb-false, not-true}
use Rattle.plane.specs.Picture.{joined}
use Rattle.plane.proofs.Basics.{and_left, and_right, lt_or_ge, tf}
use Rattle.plane.proofs.Runs.{Extent, extent_is}
use Rattle.plane.proofs.Lowests.{AllHold, all_hold}
use Rattle.rules.specs.declared.rule.Rule.{Rule}
use Rattle.std.specs.Prelude.{Result, Ok, Err}
use Rattle.std.specs.Result.{MatchResult, IsErrAnd}
use Rattle.std.proofs.lemmas.Result.{err_from_is_err_and}
use Rattle.rules.specs.declared.list.ListError.{ListError}
use Rattle.rules.specs.declared.list.ListError.TheVariants.{BadRule}
use Rattle.rules.specs.Answers.{list_number, list_place}
use Rattle.rules.specs.Some.{Every}
use Rattle.rules.specs.Sets.{within}
use Rattle.rules.specs.Words.{rule_at, rules_of, sound, sound_at, reach, halo_of, Reaches, Apart}
use Rattle.rules.specs.Vetting.{ListLength, KindsIn, AllSound, lowest_bad, vetted, ListVetted, list_tests, ListTested}
use Rattle.rules.proofs.Searches.{every_append}

-- ---- the lowest bad rule
module _ (ws : List ℕ) (used t : ℕ) where
  pub lowest : Extent (sound_at ws t) 0 used (lowest_bad ws used t)
  unfolding lowest_bad
  lowest = extent_is (sound_at ws t) 0 used

  -- the first that fails is the lowest
  lowest_is : (i : ℕ) → i ≤ used → ((j : ℕ) → j < i → sound_at ws t j ≡ true) → (i < used → sound_at ws t i ≡ false) → lowest_bad ws used t ≡ i
  lowest_is i u pass fail =
      ⊎_elim
      (λ (l : lowest_bad ws used t < i). tf (sym (pass (lowest_bad ws used t) l) ∙ lowest.fail (omega arith)))
      (λ (l : i ≤ lowest_bad ws used t). ⊎_elim
      (λ (m : i < lowest_bad ws used t). tf (sym (lowest.pass i (omega arith) m) ∙ fail (omega (arith, lowest.to))))
      (λ (m : lowest_bad ws used t ≤ i). omega arith) (lt_or_ge i (lowest_bad ws used t)))
      (lt_or_ge (lowest_bad ws used t) i)

  -- a loop that stops at a bad rule, and one that does not
  pub vetted_bad : (i : ℕ) → i < used → ((j : ℕ) → j < i → sound_at ws t j ≡ true) → sound_at ws t i ≡ false → Err i ≡ vetted ws used t
  unfolding vetted
  vetted_bad i u pass fail = rw (lowest_is i (omega arith) pass (λ _. fail), lt-ltb i used u)

  pub vetted_sound : AllSound ws used t → Ok (tt {0}) ≡ vetted ws used t
  unfolding vetted
  vetted_sound pass = rw (lowest_is used (omega arith) pass (λ l. absurd (omega arith)), le-ltb used used (omega arith))

  -- and what its answer tells
  pub all_sound : vetted ws used t ≡ Ok (tt {0}) → AllSound ws used t
  unfolding vetted
  all_sound e i l = go (ltb (lowest_bad ws used t) used) refl e
    where
      go : (b : Bool) → ltb (lowest_bad ws used t) used ≡ b → cond b (Err (lowest_bad ws used t)) (Ok (tt {0})) ≡ Ok (tt {0}) → sound_at ws t i ≡ true
      go true f e = let z : ◌≡◌ {A = ℕ} 0 1 = cc in absurd (omega arith)
      go false f e = lowest.pass i (omega arith) (omega (arith, ltb-false (lowest_bad ws used t) used f))

  pub bad_lowest : (i : ℕ) → vetted ws used t ≡ Err i → (i ≡ lowest_bad ws used t) × (AllSound ws used t → ⊥)
  unfolding vetted
  bad_lowest i e = go (ltb (lowest_bad ws used t) used) refl e
    where
      go : (b : Bool) → ltb (lowest_bad ws used t) used ≡ b → cond b (Err (lowest_bad ws used t)) (Ok (tt {0})) ≡ Err i → (i ≡ lowest_bad ws used t) × (AllSound ws used t → ⊥)
      go true f e =
          let l = ltb-true (lowest_bad ws used t) used f in
          let m : i ≡ lowest_bad ws used t = cc in
          (m, λ s. tf (sym (s (lowest_bad ws used t) l) ∙ lowest.fail (omega arith)))
      go false f e = let z : ◌≡◌ {A = ℕ} 0 1 = cc in absurd (omega arith)

  -- ---- the test of a list
  pub list_bad : (i : ℕ) → ListLength (length ws) used → KindsIn t → vetted ws used t ≡ Err i → ListVetted ws used t 4 i
  list_bad i L K e = let b = bad_lowest i e in record { number = inr (L, inr (K, inl (b.1, refl))); lowest = b.0 }

  pub list_sound : ListLength (length ws) used → KindsIn t → vetted ws used t ≡ Ok (tt {0}) → ListVetted ws used t 0 0
  list_sound L K e = record { number = inr (L, inr (K, inr (all_sound e, refl))); lowest = refl }

  -- where neither speaks against it, the rules' test decides
  pub list_vetted : (v : Result (Unit {0}) ℕ) (r : Result (Unit {0}) ListError) → ListTested (length ws) used t 0 → v ≡ vetted ws used t → MatchResult v (λ x. r ≡ Ok x) (λ i. IsErrAnd r (λ e. e ≡ BadRule i)) → ListVetted ws used t (list_number r) (list_place r)
  list_vetted v r p e m = go v (all_hold 0 (list_tests (length ws) used t) (omega arith, (omega arith, tt)) p.number) e m
    where
      go : (v : Result (Unit {0}) ℕ) → AllHold (list_tests (length ws) used t) → v ≡ vetted ws used t → MatchResult v (λ x. r ≡ Ok x) (λ i. IsErrAnd r (λ e. e ≡ BadRule i)) → ListVetted ws used t (list_number r) (list_place r)
      go (Ok x) h e m = rw m (list_sound h.0 h.1.0 (sym e))
      go (Err i) h e m = let f = err_from_is_err_and r m in rw (f.1, f.2) (list_bad i h.0 h.1.0 (sym e))

-- one rule more is sound
pub sound_more : (ws : List ℕ) (t i : ℕ) → AllSound ws i t → sound_at ws t i ≡ true → AllSound ws (i + 1) t
sound_more ws t i pass e j l = ⊎_elim (λ (m : j < i). pass j m) (λ (m : i ≤ j). let q : i ≡ j = omega arith in ap (sound_at ws t) (sym q) ∙ e) (lt_or_ge j i)

-- ---- a sound rule
module _ (t : ℕ) (r : Rule) (ok : sound t r ≡ true) where
  types : Bool
  types = ltb r.type1 t && ltb r.type2 t && not (eqb r.type1 r.type2)

  sizes : Bool
  sizes = leb 1 r.d && leb r.d 16 && leb r.ce 16 && leb r.fourway 1

  sound_sizes : sizes ≡ true
  unfolding sound types sizes
  sound_sizes = and_right types sizes (and_left (types && sizes) (within t r.allowed && within t r.corners) ok)

  pub sound_apart : Apart r
  unfolding sound types sizes
  sound_apart =
      eqb-false r.type1 r.type2
      (not-true (eqb r.type1 r.type2)
      (and_right (ltb r.type1 t && ltb r.type2 t) (not (eqb r.type1 r.type2))
      (and_left types sizes (and_left (types && sizes) (within t r.allowed && within t r.corners) ok))))

  pub sound_deep : r.d ≤ 16
  unfolding sizes
  sound_deep =
      leb-true r.d 16
      (and_right (leb 1 r.d) (leb r.d 16)
      (and_left (leb 1 r.d && leb r.d 16) (leb r.ce 16) (and_left (leb 1 r.d && leb r.d 16 && leb r.ce 16) (leb r.fourway 1) sound_sizes)))

  pub sound_side : r.ce ≤ 16
  unfolding sizes
  sound_side =
      leb-true r.ce 16
      (and_right (leb 1 r.d && leb r.d 16) (leb r.ce 16) (and_left (leb 1 r.d && leb r.d 16 && leb r.ce 16) (leb r.fourway 1) sound_sizes))

-- ---- every rule of a list
pub every_rule : (P : Rule → Type 0) (ws : List ℕ) (n : ℕ) → ((i : ℕ) → i < n → P (rule_at ws i)) → Every P (rules_of ws n)
unfolding rules_of joined
every_rule P ws zero h = tt
every_rule P ws (suc n) h = every_append P (rules_of ws n) (rule_at ws n ∷ []) (every_rule P ws n (λ i l. h i (omega arith))) (h n (omega arith), tt)

-- a sound list's rules have two types
pub all_apart : (ws : List ℕ) (n t : ℕ) → AllSound ws n t → Every Apart (rules_of ws n)
unfolding sound_at
all_apart ws n t ok = every_rule Apart ws n (λ i l. sound_apart t (rule_at ws i) (ok i l))

-- ---- the halo
pub halo_more : (ws : List ℕ) (i : ℕ) → halo_of ws (i + 1) ≡ max (halo_of ws i) (reach (rule_at ws i))
unfolding halo_of
halo_more ws i = rw add-one

halo_covers : (ws : List ℕ) (n i : ℕ) → i < n → reach (rule_at ws i) ≤ halo_of ws n
unfolding halo_of
halo_covers ws zero i l = absurd (omega arith)
halo_covers ws (suc n) i l = ⊎_elim (λ e. rw e (omega arith)) (λ m. let h = halo_covers ws n i m in omega arith) (eq-or-lt_of_le (le_of_suc-le-suc l))

-- no rule reaches farther than the halo
pub halo_reaches : (ws : List ℕ) (n : ℕ) → Every (Reaches (halo_of ws n)) (rules_of ws n)
unfolding reach
halo_reaches ws n = every_rule (Reaches (halo_of ws n)) ws n (λ i l. let h = halo_covers ws n i l in (omega arith, omega arith))

-- a sound list's rules reach no farther than 16
pub halo_small : (ws : List ℕ) (n t : ℕ) → AllSound ws n t → halo_of ws n ≤ 16
unfolding halo_of reach sound_at
halo_small ws zero t ok = omega arith
halo_small ws (suc n) t ok =
    let a = halo_small ws n t (λ i l. ok i (omega arith)) in
    let s = ok n (omega arith) in
    omega (arith, a, sound_deep t (rule_at ws n) s, sound_side t (rule_at ws n) s)
