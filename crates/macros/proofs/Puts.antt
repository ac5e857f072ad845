-- How rules that are written one after the other add up.
use Prim.Native.Nat.{ℕ, zero, suc, ◌+◌, ◌-◌, ◌*◌, ◌<◌, ◌≤◌}
use mathlib.Core.Bool.{true, false, cond}
use mathlib.Core.List.{List, [], ◌∷◌, ◌++◌, append_assoc}
use mathlib.Core.Path.{◌≡◌, refl, sym, ◌∙◌, ap, ap₂, subst}
use mathlib.Core.Logic.{⊎_elim}
use native.Mathlib.Omega.{arith}
use native.Mathlib.Numerals.{add-one}
use native.Mathlib.Nat.{add-suc, suc-add, add-zero, eq-or-lt_of_le, le_of_suc-le-suc}
use lib.ListN.{length, set, length-append}
use lib.Seq.{sets, length-sets, sets-eq, drop-drop}
use borrow.Rule.Slice.PartMut.{put_mid}
use Rattle.plane.specs.Picture.{joined}
use Rattle.rules.specs.declared.rule.Rule.{Rule}
use Rattle.macros.specs.declared.pairs.Made.{Made}
use Rattle.rules.specs.Sets.{member}
use Rattle.rules.specs.Words.{rule_words, words_of}
use Rattle.macros.specs.Macros.{cell, made, row, row_if}
use Rattle.macros.specs.Expansion.{Put}

-- ---- words
pub words_length : (rs : List Rule) → length (words_of rs) ≡ 8 * length rs
unfolding words_of rule_words
words_length [] = refl
words_length (r ∷ rs) = let e = words_length rs in omega arith

words_append : (rs ss : List Rule) → words_of (rs ++ ss) ≡ words_of rs ++ words_of ss
unfolding words_of
words_append [] ss = refl
words_append (r ∷ rs) ss = ap (λ l. rule_words r ++ l) (words_append rs ss) ∙ sym (append_assoc (rule_words r) (words_of rs) (words_of ss))

sets_append : (vs ws l : List ℕ) (i : ℕ) → sets l i (vs ++ ws) ≡ sets (sets l i vs) (i + length vs) ws
sets_append [] ws l i = ap (λ n. sets l n ws) (sym (add-zero i))
sets_append (v ∷ vs) ws l i = sets_append vs ws (set l i v) (suc i) ∙ ap (λ n. sets (sets (set l i v) (suc i) vs) n ws) (suc-add i (length vs) ∙ sym (add-suc i (length vs)))

-- eight words in the place of the rule's
pub put_words : (l ws : List ℕ) (n : ℕ) → length ws ≡ 8 → 8 * n + 8 ≤ length l → put_mid (8 * n) (8 * n + 8 - 8 * n) l ws ≡ sets l (8 * n) ws
put_words l ws n e h =
    let f : 8 * n + 8 - 8 * n ≡ length ws = omega arith in
    rw (f, drop-drop, ← append_assoc) (sym (sets-eq ws l (8 * n) (omega arith)))

-- ---- writing
pub put_none : (n : ℕ) (l : List ℕ) → Put n n [] l l
unfolding words_of
put_none n l = record { next = sym (add-zero n); words = refl }

put_one : (n : ℕ) (r : Rule) (l : List ℕ) → Put n (n + 1) (r ∷ []) l (sets l (8 * n) (rule_words r))
unfolding words_of rule_words
put_one n r l = record { next = refl; words = refl }

pub put_then : {n k r : ℕ} {rs ss : List Rule} {l l₁ l₂ : List ℕ} → Put n k rs l l₁ → Put k r ss l₁ l₂ → Put n r (rs ++ ss) l l₂
put_then {n} {k} {r} {rs} {ss} {l} {l₁} {l₂} a b = record {
  next = let x = a.next in let y = b.next in let z = length-append rs ss in omega arith;
  words =
      let x = a.next in
      let y = words_length rs in
      let e : 8 * k ≡ 8 * n + length (words_of rs) = omega arith in
      b.words ∙ ap₂ (λ m i. sets m i (words_of ss)) a.words e
      ∙ sym (sets_append (words_of rs) (words_of ss) l (8 * n)) ∙ ap (λ ws. sets l (8 * n) ws) (sym (words_append rs ss));
}

-- the same rules, written otherwise
pub put_as : {n r : ℕ} {rs ss : List Rule} {l l' : List ℕ} → rs ≡ ss → Put n r ss l l' → Put n r rs l l'
put_as {n} {r} {rs} {ss} {l} {l'} e p = subst (λ (x : List Rule). Put n r x l l') (sym e) p

-- a loop's next turn
pub put_more : (f : ℕ → List Rule) (i : ℕ) {n k r : ℕ} {l l₁ l₂ : List ℕ} → Put n k (joined i f) l l₁ → Put k r (f i) l₁ l₂ → Put n r (joined (i + 1) f) l l₂
unfolding joined
put_more f i a b = rw (add-one i) (put_then a b)

pub put_start : (f : ℕ → List Rule) (n : ℕ) (l : List ℕ) → Put n n (joined 0 f) l l
unfolding joined
put_start f n l = put_none n l

pub put_length : {n r : ℕ} {rs : List Rule} {l l' : List ℕ} → Put n r rs l l' → length l' ≡ length l
put_length {n} {r} {rs} {l} p = ap length p.words ∙ length-sets l (8 * n) (words_of rs)

-- what has been joined is no longer than the whole
joined_le : (f : ℕ → List Rule) (i n : ℕ) → i ≤ n → length (joined i f) ≤ length (joined n f)
unfolding joined
joined_le f i zero l = let e : i ≡ 0 = omega arith in rw e (omega arith)
joined_le f i (suc n) l =
    ⊎_elim (λ e. rw e (omega arith)) (λ m. let e = length-append (joined n f) (f n) in let h = joined_le f i n (le_of_suc-le-suc m) in omega arith) (eq-or-lt_of_le l)

-- in a loop over i below n: there is room for the next turn where there is room for the whole
pub turn_room : (f : ℕ → List Rule) (i n : ℕ) {at k : ℕ} {l l' : List ℕ} → i < n → 8 * (at + length (joined n f)) ≤ length l → Put at k (joined i f) l l' → 8 * (k + length (f i)) ≤ length l'
unfolding joined
turn_room f i n {at} {k} {l} {l'} u room p =
    let e = length-append (joined i f) (f i) in
    let h = joined_le f (suc i) n u in
    let x = p.next in
    let y = put_length p in
    omega arith

-- ---- the rule of a pair, if type 2 is in the set
module _ (second : ℕ) (m : Made) (a b : ℕ) where
  cell_is : member second b ≡ true → cell second m a b ≡ made m a b ∷ []
  unfolding cell
  cell_is e = ap (λ x. cond x (made m a b ∷ []) []) e

  pub cell_room : (n : ℕ) (l : List ℕ) → member second b ≡ true → 8 * (n + length (cell second m a b)) ≤ length l → 8 * n + 8 ≤ length l
  cell_room n l e h = let x = ap length (cell_is e) in omega (arith, x)

  pub cell_put : {n : ℕ} {l l' : List ℕ} → member second b ≡ true → l' ≡ sets l (8 * n) (rule_words (made m a b)) → Put n (n + 1) (cell second m a b) l l'
  cell_put {n} {l} {l'} e w = put_as (cell_is e) (subst (λ (x : List ℕ). Put n (n + 1) (made m a b ∷ []) l x) (sym w) (put_one n (made m a b) l))

  pub cell_skip : (n : ℕ) (l : List ℕ) → member second b ≡ false → Put n n (cell second m a b) l l
  unfolding cell
  cell_skip n l e = put_as (ap (λ x. cond x (made m a b ∷ []) []) e) (put_none n l)

-- ---- the rules of a type 1, if it is in the set
module _ (t first second : ℕ) (m : Made) (a : ℕ) where
  pub row_is : member first a ≡ true → row_if t first second m a ≡ row t second m a
  unfolding row_if
  row_is e = ap (λ x. cond x (row t second m a) []) e

  pub row_skip : (n : ℕ) (l : List ℕ) → member first a ≡ false → Put n n (row_if t first second m a) l l
  unfolding row_if
  row_skip n l e = put_as (ap (λ x. cond x (row t second m a) []) e) (put_none n l)
