-- The rules of a list of words: rules put behind the used ones follow them, the words behind the used rules do not matter, and the halo is that of the rules.
use Prim.Native.Nat.{ℕ, zero, suc, ◌+◌, ◌*◌, ◌<◌, ◌≤◌, max}
use mathlib.Core.Bool.{true}
use mathlib.Core.List.{List, [], ◌∷◌, ◌++◌, append_assoc, append-nil}
use mathlib.Core.Path.{◌≡◌, refl, sym, ◌∙◌, ap, ap₂, subst}
use mathlib.Core.Logic.{⊎_elim}
use native.Mathlib.Omega.{arith}
use native.Mathlib.Nat.{add-suc, add-zero, eq-or-lt_of_le, le_of_suc-le-suc}
use lib.ListN.{length, get_or, take, drop, length-append, get_or-append}
use lib.Seq.{sets, sets-eq, get_or-drop, get_or-take, length-take-le, drop_at}
use Rattle.plane.specs.Picture.{joined}
use Rattle.rules.specs.declared.rule.Rule.{Rule}
use Rattle.macros.specs.Expansion.{appended}
use Rattle.rules.specs.Some.{Every}
use Rattle.rules.specs.Vetting.{AllSound}
use Rattle.rules.specs.Words.{rule_at, rules_of, rule_words, words_of, sound, sound_at, reach, halo_of}
use Rattle.rules.proofs.Searches.{every_append}
use Rattle.rules.proofs.Vetted.{every_rule}
use Rattle.desk.specs.Model.{halo}

-- ---- how many they are
pub rules_length : (ws : List ℕ) (n : ℕ) → length (rules_of ws n) ≡ n
unfolding rules_of joined
rules_length ws zero = refl
rules_length ws (suc n) = let e = rules_length ws n in let f = length-append (rules_of ws n) (rule_at ws n ∷ []) in omega arith

-- ---- the same words, and words further on
rule_same : (ws vs : List ℕ) (i : ℕ) → ((j : ℕ) → j < 8 * i + 8 → get_or ws j 0 ≡ get_or vs j 0) → rule_at ws i ≡ rule_at vs i
unfolding rule_at
rule_same ws vs i h =
    rw (
      h (8 * i) (omega arith),
      h (8 * i + 1) (omega arith),
      h (8 * i + 2) (omega arith),
      h (8 * i + 3) (omega arith),
      h (8 * i + 4) (omega arith),
      h (8 * i + 5) (omega arith),
      h (8 * i + 6) (omega arith),
      h (8 * i + 7) (omega arith),
    )

rules_same : (ws vs : List ℕ) (n : ℕ) → ((j : ℕ) → j < 8 * n → get_or ws j 0 ≡ get_or vs j 0) → rules_of ws n ≡ rules_of vs n
unfolding rules_of joined
rules_same ws vs zero h = refl
rules_same ws vs (suc n) h = ap₂ (λ (rs : List Rule) (r : Rule). rs ++ (r ∷ [])) (rules_same ws vs n (λ j l. h j (omega arith))) (rule_same ws vs n (λ j l. h j (omega arith)))

rule_behind : (ws : List ℕ) (a b : ℕ) → rule_at ws (a + b) ≡ rule_at (drop (8 * a) ws) b
unfolding rule_at
rule_behind ws a b =
    let e : (k : ℕ) → get_or ws (8 * (a + b) + k) 0 ≡ get_or (drop (8 * a) ws) (8 * b + k) 0 =
    λ k. ap (λ (n : ℕ). get_or ws n 0) (omega arith) ∙ sym (get_or-drop (8 * a) ws (8 * b + k) 0) in
    let f : get_or ws (8 * (a + b)) 0 ≡ get_or (drop (8 * a) ws) (8 * b) 0 = ap (λ (n : ℕ). get_or ws n 0) (omega arith) ∙ sym (get_or-drop (8 * a) ws (8 * b) 0) in
    rw (f, e 1, e 2, e 3, e 4, e 5, e 6, e 7)

rules_behind : (ws : List ℕ) (a b : ℕ) → rules_of ws (a + b) ≡ rules_of ws a ++ rules_of (drop (8 * a) ws) b
unfolding rules_of joined
rules_behind ws a zero = ap (rules_of ws) (add-zero a) ∙ sym (append-nil (rules_of ws a))
rules_behind ws a (suc b) =
    ap (rules_of ws) (add-suc a b)
    ∙ (ap₂ (λ (rs : List Rule) (r : Rule). rs ++ (r ∷ [])) (rules_behind ws a b) (rule_behind ws a b)
    ∙ append_assoc (rules_of ws a) (rules_of (drop (8 * a) ws) b) (rule_at (drop (8 * a) ws) b ∷ []))

-- ---- rules written as words read back
rules_front : (rs : List Rule) (ys : List ℕ) → rules_of (words_of rs ++ ys) (length rs) ≡ rs
unfolding rules_of joined words_of rule_words rule_at
rules_front [] ys = refl
rules_front (r ∷ rs) ys =
    let n : suc (length rs) ≡ 1 + length rs = omega arith in
    ap (rules_of (words_of (r ∷ rs) ++ ys)) n
    ∙ (rules_behind (words_of (r ∷ rs) ++ ys) 1 (length rs) ∙ ap (λ (ss : List Rule). r ∷ ss) (rules_front rs ys))

-- ---- rules put behind the used ones
module _ (ws : List ℕ) (used : ℕ) (rs : List Rule) (fits : 8 * used ≤ length ws) where
  front_long : length (take (8 * used) ws) ≡ 8 * used
  front_long = length-take-le (8 * used) ws fits

  -- the used rules stay
  pub appended_stay : rules_of (appended ws used rs).words used ≡ rules_of ws used
  appended_stay =
      rules_same (appended ws used rs).words ws used
      (λ j l. get_or-append (take (8 * used) ws) (words_of rs ++ drop (8 * (used + length rs)) ws) 0 j (omega (arith, front_long)) ∙ get_or-take (8 * used) ws j 0 l)

  -- and the new ones follow
  pub appended_rules : rules_of (appended ws used rs).words (used + length rs) ≡ rules_of ws used ++ rs
  appended_rules =
      rules_behind (appended ws used rs).words used (length rs)
      ∙ ap₂ (λ (a b : List Rule). a ++ b) appended_stay
      (ap (λ (l : List ℕ). rules_of l (length rs)) (drop_at (take (8 * used) ws) (words_of rs ++ drop (8 * (used + length rs)) ws) (8 * used) front_long)
      ∙ rules_front rs (drop (8 * (used + length rs)) ws))

-- one rule stored in place
pub put_appended : (ws : List ℕ) (used : ℕ) (r : Rule) → 8 * used + 8 ≤ length ws → sets ws (8 * used) (rule_words r) ≡ (appended ws used (r ∷ [])).words
unfolding words_of rule_words
put_appended ws used r h =
    let n : 8 * used + 8 ≡ 8 * (used + 1) = omega arith in
    sets-eq (rule_words r) ws (8 * used) (omega arith)
    ∙ (append_assoc (take (8 * used) ws) (rule_words r) (drop (8 * used + 8) ws) ∙ ap (λ (k : ℕ). take (8 * used) ws ++ (rule_words r ++ drop k ws)) n)

-- ---- sound lists
every_at : (P : Rule → Type 0) (l m : List Rule) → Every P (l ++ m) → Every P l × Every P m
every_at P [] m e = (tt, e)
every_at P (r ∷ l) m e = let d = every_at P l m e.1 in ((e.0, d.0), d.1)

rule_every : (P : Rule → Type 0) (ws : List ℕ) (n : ℕ) → Every P (rules_of ws n) → (i : ℕ) → i < n → P (rule_at ws i)
unfolding rules_of joined
rule_every P ws zero e i l = absurd (omega arith)
rule_every P ws (suc n) e i l =
    let d = every_at P (rules_of ws n) (rule_at ws n ∷ []) e in
    ⊎_elim (λ (q : i ≡ n). subst (λ (j : ℕ). P (rule_at ws j)) (sym q) d.1.0) (λ (m : i < n). rule_every P ws n d.0 i m) (eq-or-lt_of_le (le_of_suc-le-suc l))

-- a rule is within its ranges for t types
abbrev pub SoundFor : ℕ → Rule → Type 0
SoundFor t r = sound t r ≡ true

-- the list vs has the rules of ws and the sound rules rs
pub sound_with : (ws vs : List ℕ) (used n t : ℕ) (rs : List Rule) → rules_of vs n ≡ rules_of ws used ++ rs → Every (SoundFor t) rs → AllSound ws used t → AllSound vs n t
unfolding sound_at
sound_with ws vs used n t rs e E A i l =
    rule_every (SoundFor t) vs n (subst (λ (x : List Rule). Every (SoundFor t) x) (sym e) (every_append (SoundFor t) (rules_of ws used) rs (every_rule (SoundFor t) ws used A) E)) i l

-- ---- the halo
halo_last : (rs : List Rule) (r : Rule) → halo (rs ++ (r ∷ [])) ≡ max (halo rs) (reach r)
unfolding halo
halo_last [] r = omega arith
halo_last (q ∷ rs) r = let e = halo_last rs r in omega (arith, e)

pub halo_is : (ws : List ℕ) (n : ℕ) → halo_of ws n ≡ halo (rules_of ws n)
unfolding halo_of rules_of joined halo
halo_is ws zero = refl
halo_is ws (suc n) = ap (λ (k : ℕ). max k (reach (rule_at ws n))) (halo_is ws n) ∙ sym (halo_last (rules_of ws n) (rule_at ws n))
