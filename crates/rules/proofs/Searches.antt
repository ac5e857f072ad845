-- Laws of bounded search, for loops (one number more), for witnesses (to and from), and for tests that agree.
use Prim.Native.Nat.{ℕ, zero, suc, ◌<◌}
use mathlib.Core.Bool.{Bool, true, false, ◌||◌, false≢true, true≢false, or-true, or_assoc}
use mathlib.Core.List.{List, [], ◌∷◌, ◌++◌}
use mathlib.Core.Path.{◌≡◌, refl, sym, ◌∙◌, ap, ap₂}
use mathlib.Core.Logic.{◌⊎◌, inl, inr, ⊎_elim}
use native.Mathlib.Omega.{arith}
use native.Mathlib.Nat.{eq-or-lt_of_le, le_of_suc-le-suc, not-suc-le-zero}
use Rattle.rules.specs.Some.{some, some_of, Every}

-- ---- truth values
pub or_left : {a : Bool} (b : Bool) → a ≡ true → (a || b) ≡ true
or_left b p = ap (λ x. x || b) p

pub or_right : (a : Bool) {b : Bool} → b ≡ true → (a || b) ≡ true
or_right a p = ap (λ x. a || x) p ∙ or-true a

pub or_cases : (a b : Bool) → (a || b) ≡ true → (a ≡ true) ⊎ (b ≡ true)
or_cases true b e = inl refl
or_cases false b e = inr e

-- two truth values are the same where each gives the other
pub same_truth : (a b : Bool) → (a ≡ true → b ≡ true) → (b ≡ true → a ≡ true) → a ≡ b
same_truth true b f g = sym (f refl)
same_truth false true f g = g refl
same_truth false false f g = refl

-- ---- numbers below a bound
pub some_suc : (n : ℕ) (f : ℕ → Bool) → some (suc n) f ≡ (f n || some n f)
unfolding some
some_suc n f = refl

-- found, from a witness
pub some_at : (n : ℕ) (f : ℕ → Bool) (i : ℕ) → i < n → f i ≡ true → some n f ≡ true
unfolding some
some_at zero f i h e = absurd (not-suc-le-zero h)
some_at (suc n) f i h e =
    ⊎_elim (λ q. or_left (some n f) (ap f (sym q) ∙ e)) (λ l. or_right (f n) (some_at n f i l e)) (eq-or-lt_of_le (le_of_suc-le-suc h))

-- a witness, from what is found
pub some_has : (n : ℕ) (f : ℕ → Bool) → some n f ≡ true → (i : ℕ) × (i < n) × (f i ≡ true)
unfolding some
some_has zero f e = absurd (false≢true e)
some_has (suc n) f e = ⊎_elim (λ p. (n, omega arith, p)) (λ p. let w = some_has n f p in (w.0, omega arith, w.2)) (or_cases (f n) (some n f) e)

-- nothing found: each fails
pub some_false : (n : ℕ) (f : ℕ → Bool) → some n f ≡ false → (i : ℕ) → i < n → f i ≡ false
some_false n f e i l = go (f i) refl
  where
    go : (b : Bool) → f i ≡ b → f i ≡ false
    go true p = absurd (true≢false (sym (some_at n f i l p) ∙ e))
    go false p = p

pub some_none : (n : ℕ) (f : ℕ → Bool) → ((i : ℕ) → i < n → f i ≡ false) → some n f ≡ false
unfolding some
some_none zero f h = refl
some_none (suc n) f h = ap (λ b. b || some n f) (h n (omega arith)) ∙ some_none n f (λ i l. h i (omega arith))

-- the same answers below the bound give the same search
pub some_same : (n : ℕ) (f g : ℕ → Bool) → ((i : ℕ) → i < n → f i ≡ g i) → some n f ≡ some n g
unfolding some
some_same zero f g h = refl
some_same (suc n) f g h = ap₂ (λ a b. a || b) (h n (omega arith)) (some_same n f g (λ i l. h i (omega arith)))

-- two searches are one
pub some_or : (n : ℕ) (f g : ℕ → Bool) → (some n f || some n g) ≡ some n (λ i. f i || g i)
some_or n f g = same_truth (some n f || some n g) (some n (λ i. f i || g i)) to from
  where
    to : (some n f || some n g) ≡ true → some n (λ i. f i || g i) ≡ true
    to h = ⊎_elim
        (λ p. let w = some_has n f p in some_at n (λ i. f i || g i) w.0 w.1 (or_left (g w.0) w.2))
        (λ p. let w = some_has n g p in some_at n (λ i. f i || g i) w.0 w.1 (or_right (f w.0) w.2))
        (or_cases (some n f) (some n g) h)

    from : some n (λ i. f i || g i) ≡ true → (some n f || some n g) ≡ true
    from h = let w = some_has n (λ i. f i || g i) h in ⊎_elim
        (λ p. or_left (some n g) (some_at n f w.0 w.1 p))
        (λ p. or_right (some n f) (some_at n g w.0 w.1 p))
        (or_cases (f w.0) (g w.0) w.2)

-- ---- entries of a list
pub some_of_nil : {A : Type 0} (f : A → Bool) → some_of [] f ≡ false
unfolding some_of
some_of_nil f = refl

pub some_of_cons : {A : Type 0} (a : A) (l : List A) (f : A → Bool) → some_of (a ∷ l) f ≡ (f a || some_of l f)
unfolding some_of
some_of_cons a l f = refl

pub some_of_append : {A : Type 0} (l m : List A) (f : A → Bool) → some_of (l ++ m) f ≡ (some_of l f || some_of m f)
unfolding some_of
some_of_append [] m f = refl
some_of_append (a ∷ l) m f = ap (λ b. f a || b) (some_of_append l m f) ∙ sym (or_assoc (f a) (some_of l f) (some_of m f))

-- tests that agree on the entries with a property
pub some_of_every : {A : Type 0} (P : A → Type 0) (l : List A) (f g : A → Bool) → Every P l → ((a : A) → P a → f a ≡ g a) → some_of l f ≡ some_of l g
unfolding some_of
some_of_every P [] f g e h = refl
some_of_every P (a ∷ l) f g e h = ap₂ (λ x y. x || y) (h a e.0) (some_of_every P l f g e.1 h)

pub some_of_same : {A : Type 0} (l : List A) (f g : A → Bool) → ((a : A) → f a ≡ g a) → some_of l f ≡ some_of l g
unfolding some_of
some_of_same [] f g h = refl
some_of_same (a ∷ l) f g h = ap₂ (λ x y. x || y) (h a) (some_of_same l f g h)

-- a test that fails on the entries with a property
pub some_of_none : {A : Type 0} (P : A → Type 0) (l : List A) (f : A → Bool) → Every P l → ((a : A) → P a → f a ≡ false) → some_of l f ≡ false
unfolding some_of
some_of_none P [] f e h = refl
some_of_none P (a ∷ l) f e h = ap₂ (λ x y. x || y) (h a e.0) (some_of_none P l f e.1 h)

-- what holds of each holds of every entry
pub every_all : {A : Type 0} (P : A → Type 0) (l : List A) → ((a : A) → P a) → Every P l
every_all P [] h = tt
every_all P (a ∷ l) h = (h a, every_all P l h)

pub every_append : {A : Type 0} (P : A → Type 0) (l m : List A) → Every P l → Every P m → Every P (l ++ m)
every_append P [] m a b = b
every_append P (r ∷ l) m a b = (a.0, every_append P l m a.1 b)
