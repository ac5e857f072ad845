-- Counting squares: tiles hit an area as often as they share squares with it. So tiles that cover the window overlap nowhere exactly if their areas add up to the window's.
use Prim.Native.Nat.{ℕ, zero, suc, ◌+◌, ◌-◌, ◌*◌, ◌≤◌, ◌<◌, min, max}
use native.Mathlib.Numerals.{add-one}
use native.Mathlib.Omega.{arith}
use native.Mathlib.Nat.{mul_comm, mul-add, zero-add, zero-mul, mul-zero}
use mathlib.Core.Bool.{Bool, true, false, cond, ◌&&◌}
use mathlib.Core.Path.{◌≡◌, refl, sym, ◌∙◌, ap}
use mathlib.Core.Logic.{⊎_elim}
use mathlib.Core.List.{List}
use lib.Dec.{eqb, leb, ltb}
use lib.ListN.{length, length-append}
use borrow.Author.Tests.{eq-eqb, ne_eqb, le-leb, lt-ltb, lt-leb, le-ltb}
use Rattle.plane.specs.declared.tile.Tile.{Tile}
use Rattle.plane.specs.Strips.{Box, Holds}
use Rattle.plane.specs.Picture.{joined, sum_to}
use Rattle.plane.proofs.Basics.{lt_or_ge, eq_or_ne, and_both}

pub sum_eq : (n : ℕ) (f g : ℕ → ℕ) → ((i : ℕ) → i < n → f i ≡ g i) → sum_to n f ≡ sum_to n g
unfolding sum_to
sum_eq zero f g e = refl
sum_eq (suc n) f g e = omega (arith, sum_eq n f g (λ i u. e i (omega arith)), e n (omega arith))

pub sum_add : (n : ℕ) (f g : ℕ → ℕ) → sum_to n (λ i. f i + g i) ≡ sum_to n f + sum_to n g
unfolding sum_to
sum_add zero f g = refl
sum_add (suc n) f g = omega (arith, sum_add n f g)

-- a loop adds the next term
pub sum_more : (f : ℕ → ℕ) (i : ℕ) {s v : ℕ} → s ≡ sum_to i f → v ≡ f i → s + v ≡ sum_to (i + 1) f
unfolding sum_to
sum_more f i p q = rw (add-one i) (omega arith)

sum_zero : (n : ℕ) → sum_to n (λ i. 0) ≡ 0
unfolding sum_to
sum_zero zero = refl
sum_zero (suc n) = omega (arith, sum_zero n)

sum_ones : (n : ℕ) → sum_to n (λ i. 1) ≡ n
unfolding sum_to
sum_ones zero = refl
sum_ones (suc n) = omega (arith, sum_ones n)

sum_const : (n k : ℕ) → sum_to n (λ i. k) ≡ k * n
unfolding sum_to
sum_const zero k = sym (mul-zero k)
sum_const (suc n) k = rw (sum_const n k) (sym (native.Mathlib.Nat.mul-suc k n))

sum_mul : (n k : ℕ) (f : ℕ → ℕ) → sum_to n (λ i. k * f i) ≡ k * sum_to n f
unfolding sum_to
sum_mul zero k f = sym (mul-zero k)
sum_mul (suc n) k f = rw (sum_mul n k f) (sym (mul-add k (sum_to n f) (f n)))

pub sum_swap : (n m : ℕ) (f : ℕ → ℕ → ℕ) → sum_to n (λ i. sum_to m (λ j. f i j)) ≡ sum_to m (λ j. sum_to n (λ i. f i j))
unfolding sum_to
sum_swap zero m f = sym (sum_zero m)
sum_swap (suc n) m f = rw (sum_swap n m f) (sym (sum_add m (λ j. sum_to n (λ i. f i j)) (λ j. f n j)))

pub sum_le : (n : ℕ) (f g : ℕ → ℕ) → ((i : ℕ) → i < n → f i ≤ g i) → sum_to n f ≤ sum_to n g
unfolding sum_to
sum_le zero f g h = omega arith
sum_le (suc n) f g h = omega (arith, sum_le n f g (λ i u. h i (omega arith)), h n (omega arith))

-- terms that are no smaller, with the same sum, are the same
pub sum_tight : (n : ℕ) (f g : ℕ → ℕ) → ((i : ℕ) → i < n → f i ≤ g i) → sum_to n g ≤ sum_to n f → (i : ℕ) → i < n → g i ≤ f i
unfolding sum_to
sum_tight zero f g h e i u = absurd (omega arith)
sum_tight (suc n) f g h e i u =
    let h' : (j : ℕ) → j < n → f j ≤ g j = λ j v. h j (omega arith) in
    ⊎_elim
    (λ (v : i < n). sum_tight n f g h' (omega (arith, h n (omega arith))) i v)
    (λ (v : n ≤ i). let q : i ≡ n = omega arith in rw q (omega (arith, sum_le n f g h')))
    (lt_or_ge i n)

-- a sum of zeros, and back
pub sum_none : (n : ℕ) (f : ℕ → ℕ) → ((i : ℕ) → i < n → f i ≡ 0) → sum_to n f ≡ 0
sum_none n f e = sum_eq n f (λ i. 0) e ∙ sum_zero n

pub none_of : (n : ℕ) (f : ℕ → ℕ) → sum_to n f ≡ 0 → (i : ℕ) → i < n → f i ≡ 0
none_of n f e i u = omega (arith, sum_tight n (λ j. 0) f (λ j v. omega arith) (omega (arith, e, sum_zero n)) i u)

-- terms that are no more than two others together
pub sum_split : (n : ℕ) (f g k : ℕ → ℕ) → ((i : ℕ) → i < n → f i ≤ g i + k i) → sum_to n f ≤ sum_to n g + sum_to n k
sum_split n f g k h = omega (arith, sum_le n f (λ i. g i + k i) h, sum_add n g k)

-- one term lower, the others the same
pub sum_less : (n : ℕ) (f g : ℕ → ℕ) (a : ℕ) → a < n → f a + 1 ≡ g a → ((i : ℕ) → i < n → (i ≡ a → ⊥) → f i ≡ g i) → sum_to n f + 1 ≡ sum_to n g
unfolding sum_to
sum_less zero f g a l e h = absurd (omega arith)
sum_less (suc n) f g a l e h = ⊎_elim
    (λ (p : n ≡ a). let y : f n + 1 ≡ g n = ap (λ z. f z + 1) p ∙ e ∙ ap g (sym p) in
    omega (arith, sum_eq n f g (λ i m. h i (omega arith) (λ z. omega arith)), y))
    (λ (q : n ≡ a → ⊥). omega (arith, sum_less n f g a (omega (arith, q)) e (λ i j z. h i (omega arith) z), h n (omega arith) q))
    (eq_or_ne n a)

-- two neighbours larger by no more than k together, the others no larger
pub sum_pair : (n : ℕ) (f g : ℕ → ℕ) (a k : ℕ) → ((i : ℕ) → (i ≡ a → ⊥) → (i ≡ suc a → ⊥) → f i ≤ g i) → f a ≤ g a + k → f a + f (suc a) ≤ g a + g (suc a) + k → sum_to n f ≤ sum_to n g + k
unfolding sum_to
sum_pair zero f g a k h u v = omega arith
sum_pair (suc n) f g a k h u v = ⊎_elim
    (λ (p : n ≡ a). rw p (omega (arith, first)))
    (λ (q : n ≡ a → ⊥). ⊎_elim
    (λ (p : n ≡ suc a). rw p (omega (arith, first)))
    (λ (r : n ≡ suc a → ⊥). omega (arith, sum_pair n f g a k h u v, h n q r))
    (eq_or_ne n (suc a)))
    (eq_or_ne n a)
  where
    first : sum_to a f ≤ sum_to a g
    first = sum_le a f g (λ i l. h i (λ e. omega arith) (λ e. omega arith))

sum_one : (n : ℕ) (f : ℕ → ℕ) (i : ℕ) → i < n → f i ≤ sum_to n f
unfolding sum_to
sum_one zero f i u = absurd (omega arith)
sum_one (suc n) f i u = ⊎_elim (λ (v : i < n). omega (arith, sum_one n f i v)) (λ (v : n ≤ i). let q : i ≡ n = omega arith in rw q (omega arith)) (lt_or_ge i n)

sum_two : (n : ℕ) (f : ℕ → ℕ) (i j : ℕ) → i < j → j < n → f i + f j ≤ sum_to n f
unfolding sum_to
sum_two zero f i j u v = absurd (omega arith)
sum_two (suc n) f i j u v = ⊎_elim (λ (s : j < n). omega (arith, sum_two n f i j u s)) (λ (s : n ≤ j). let q : j ≡ n = omega arith in rw q (omega (arith, sum_one n f i (omega arith)))) (lt_or_ge j n)

-- all terms but one are zero
sum_single : (n : ℕ) (f : ℕ → ℕ) (j : ℕ) → j < n → ((i : ℕ) → i < n → (i ≡ j → ⊥) → f i ≡ 0) → sum_to n f ≡ f j
unfolding sum_to
sum_single zero f j u z = absurd (omega arith)
sum_single (suc n) f j u z =
    ⊎_elim
    (λ (v : j < n). omega (arith, sum_single n f j v (λ i a. z i (omega arith)), z n (omega arith) (λ e. omega arith)))
    (λ (v : n ≤ j). let q : j ≡ n = omega arith in rw q (omega (arith, sum_eq n f (λ i. 0) (λ i a. z i (omega arith) (λ e. omega arith)), sum_zero n)))
    (lt_or_ge j n)

-- the numbers that are a
pub sum_at : (n a : ℕ) → sum_to n (λ i. cond (eqb i a) 1 0) ≤ 1
sum_at n a = ⊎_elim
    (λ (l : a < n). omega (arith, sum_single n (λ i. cond (eqb i a) 1 0) a l (λ i u ne. other i ne), ap {B = ℕ} (λ b. cond b 1 0) (eq-eqb a a refl)))
    (λ (l : n ≤ a). omega (arith, sum_none n (λ i. cond (eqb i a) 1 0) (λ i u. other i (λ e. omega arith))))
    (lt_or_ge a n)
  where
    other : (i : ℕ) → (i ≡ a → ⊥) → ◌≡◌ {A = ℕ} (cond (eqb i a) 1 0) 0
    other i ne = rw (ne_eqb i a ne)

-- ---- the squares of a tile
within : ℕ → ℕ → ℕ → ℕ
within l r x = cond (leb l x && ltb x r) 1 0

within_in : (l r x : ℕ) → l ≤ x → x < r → within l r x ≡ 1
unfolding within
within_in l r x a b = rw (and_both (leb l x) (ltb x r) (le-leb l x a) (lt-ltb x r b))

within_left : (l r x : ℕ) → x < l → within l r x ≡ 0
unfolding within
within_left l r x a = rw (lt-leb l x a)

within_right : (l r x : ℕ) → r ≤ x → within l r x ≡ 0
unfolding within
within_right l r x a = rw (le-ltb x r a) (go (leb l x))
  where
    go : (b : Bool) → ◌≡◌ {A = ℕ} (cond (b && false) 1 0) 0
    go true = refl
    go false = refl

-- the n numbers from x on
sum_within : (l r x n : ℕ) → sum_to n (λ i. within l r (x + i)) ≡ min r (x + n) - max l x
unfolding sum_to
sum_within l r x zero = omega arith
sum_within l r x (suc n) =
    let ih = sum_within l r x n in
    ⊎_elim
    (λ (a : x + n < l). omega (arith, within_left l r (x + n) a))
    (λ (a : l ≤ x + n). ⊎_elim (λ (b : x + n < r). omega (arith, within_in l r (x + n) a b)) (λ (b : r ≤ x + n). omega (arith, within_right l r (x + n) b)) (lt_or_ge (x + n) r))
    (lt_or_ge (x + n) l)

hit : Tile → ℕ → ℕ → ℕ
hit t x y = within t.bottom t.top y * within t.left t.right x

hit_held : (t : Tile) (x y : ℕ) → Holds t x y → hit t x y ≡ 1
unfolding hit
hit_held t x y h = rw (within_in t.bottom t.top y h.from_bottom h.to_top, within_in t.left t.right x h.from_left h.to_right)

held_hit : (t : Tile) (x y : ℕ) → 0 < hit t x y → Holds t x y
unfolding hit
held_hit t x y p =
    let b = within t.bottom t.top y in
    let a = within t.left t.right x in
    let no_b : (b ≡ 0 → ⊥) = λ e. omega (arith, ap (λ (n : ℕ). n * a) e, zero-mul a) in
    let no_a : (a ≡ 0 → ⊥) = λ e. omega (arith, ap (λ (n : ℕ). b * n) e, mul-zero b) in
    record {
      from_left = ⊎_elim (λ (u : x < t.left). absurd (no_a (within_left _ _ x u))) (λ u. u) (lt_or_ge x t.left);
      to_right = ⊎_elim (λ u. u) (λ (u : t.right ≤ x). absurd (no_a (within_right _ _ x u))) (lt_or_ge x t.right);
      from_bottom = ⊎_elim (λ (u : y < t.bottom). absurd (no_b (within_left _ _ y u))) (λ u. u) (lt_or_ge y t.bottom);
      to_top = ⊎_elim (λ u. u) (λ (u : t.top ≤ y). absurd (no_b (within_right _ _ y u))) (lt_or_ge y t.top);
    }

missed : (t : Tile) (x y : ℕ) → (Holds t x y → ⊥) → hit t x y ≡ 0
missed t x y off = ⊎_elim (λ (u : 0 < hit t x y). absurd (off (held_hit t x y u))) (λ u. omega arith) (lt_or_ge 0 (hit t x y))

-- the squares that a tile shares with an area, w by h from (x,y) on
squares : (t : Tile) (x y w h : ℕ) → sum_to h (λ j. sum_to w (λ i. hit t (x + i) (y + j))) ≡ (min t.right (x + w) - max t.left x) * (min t.top (y + h) - max t.bottom y)
unfolding hit
squares t x y w h =
    let a = sum_within t.left t.right x w in
    let b = sum_within t.bottom t.top y h in
    let m = min t.right (x + w) - max t.left x in
    sum_eq h _ (λ j. m * within t.bottom t.top (y + j))
    (λ j u.
    let k = within t.bottom t.top (y + j) in
    sum_mul w k (λ i. within t.left t.right (x + i)) ∙ (ap (λ (n : ℕ). k * n) a ∙ mul_comm k m))
    ∙ (sum_mul h m (λ j. within t.bottom t.top (y + j)) ∙ ap (λ (n : ℕ). m * n) b)

-- ---- n tiles, of which some count
module _ (n : ℕ) (f : ℕ → Tile) (b : ℕ → Bool) where
  -- how many of those that count hold a square
  pub hits : ℕ → ℕ → ℕ
  hits x y = sum_to n (λ i. cond (b i) (hit (f i) x y) 0)

  -- over an area the hits are the squares that the tiles share with it
  pub all_hits : (x y w h : ℕ) → sum_to h (λ j. sum_to w (λ i. hits (x + i) (y + j))) ≡ sum_to n (λ k. cond (b k) ((min (f k).right (x + w) - max (f k).left x) * (min (f k).top (y + h) - max (f k).bottom y)) 0)
  unfolding hits
  all_hits x y w h =
      sum_eq h _ (λ j. sum_to n (λ k. sum_to w (λ i. cond (b k) (hit (f k) (x + i) (y + j)) 0))) (λ j u. sum_swap w n (λ i k. cond (b k) (hit (f k) (x + i) (y + j)) 0))
      ∙ (sum_swap h n (λ j k. sum_to w (λ i. cond (b k) (hit (f k) (x + i) (y + j)) 0))
      ∙ sum_eq n _ _ (λ k u. counted k (b k)))
    where
      counted : (k : ℕ) (c : Bool) → sum_to h (λ j. sum_to w (λ i. cond c (hit (f k) (x + i) (y + j)) 0)) ≡ cond c ((min (f k).right (x + w) - max (f k).left x) * (min (f k).top (y + h) - max (f k).bottom y)) 0
      counted k true = squares (f k) x y w h
      counted k false = sum_eq h _ (λ j. 0) (λ j u. sum_zero w) ∙ sum_zero h

  -- a square that one tile holds is hit once if that tile counts
  pub one_hit : (j x y : ℕ) → j < n → Holds (f j) x y → ((i : ℕ) → i < n → Holds (f i) x y → i ≡ j) → hits x y ≡ cond (b j) 1 0
  unfolding hits
  one_hit j x y u a one =
      sum_single n (λ i. cond (b i) (hit (f i) x y) 0) j u (λ i v ne. none (b i) (missed (f i) x y (λ q. ne (one i v q))))
      ∙ ap (λ (m : ℕ). cond (b j) m 0) (hit_held (f j) x y a)
    where
      none : (c : Bool) {m : ℕ} → m ≡ 0 → cond c m 0 ≡ 0
      none true e = e
      none false e = refl

-- ---- n tiles in a window
module _ (w h n : ℕ) (f : ℕ → Tile) (bx : (i : ℕ) → i < n → Box w h (f i)) where
  -- how many tiles hold a square
  held : ℕ → ℕ → ℕ
  held = hits n f (λ i. true)

  all_held : sum_to h (λ y. sum_to w (λ x. held x y)) ≡ sum_to n (λ i. ((f i).right - (f i).left) * ((f i).top - (f i).bottom))
  unfolding held
  all_held =
      (simp zero-add at (all_hits n f (λ i. true) 0 0 w h))
      ∙ sum_eq n _ _
      (λ i u.
      let c = bx i u in
      let a : min (f i).right w - max (f i).left 0 ≡ (f i).right - (f i).left = omega arith in
      let b : min (f i).top h - max (f i).bottom 0 ≡ (f i).top - (f i).bottom = omega arith in
      λ q. a q * b q)

  full : sum_to h (λ y. sum_to w (λ x. 1)) ≡ w * h
  full = sum_eq h _ (λ y. w) (λ y u. sum_ones w) ∙ sum_const h w

  module _ (cover : (x y : ℕ) → x < w → y < h → (i : ℕ) × (i < n) × Holds (f i) x y) where
    some_hit : (x y : ℕ) → x < w → y < h → 1 ≤ held x y
    unfolding held hits
    some_hit x y a b = let c = cover x y a b in omega (arith, sum_one n (λ i. hit (f i) x y) c.0 c.1, hit_held (f c.0) x y c.2)

    -- the areas add up to the window's: no square is held twice
    pub no_overlap : sum_to n (λ i. ((f i).right - (f i).left) * ((f i).top - (f i).bottom)) ≡ w * h → (i j x y : ℕ) → i < j → j < n → Holds (f i) x y → Holds (f j) x y → ⊥
    unfolding held hits
    no_overlap e i j x y u v a b =
        let hx : x < w = omega (arith, a.to_right, (bx i (omega arith)).inside) in
        let hy : y < h = omega (arith, a.to_top, (bx i (omega arith)).under) in
        let rows = sum_tight h (λ z. sum_to w (λ x. 1)) (λ z. sum_to w (λ x. held x z)) (λ z q. sum_le w (λ x. 1) (λ x. held x z) (λ x r. some_hit x z r q)) (omega (arith, all_held, full)) y hy in
        let here = sum_tight w (λ x. 1) (λ x. held x y) (λ x r. some_hit x y r hy) rows x hx in
        omega (arith, sum_two n (λ i. hit (f i) x y) i j u v, hit_held (f i) x y a, hit_held (f j) x y b)

    -- no square is held twice: the areas add up
    pub adds_up : ((i j x y : ℕ) → i < n → j < n → Holds (f i) x y → Holds (f j) x y → i ≡ j) → sum_to n (λ i. ((f i).right - (f i).left) * ((f i).top - (f i).bottom)) ≡ w * h
    unfolding held
    adds_up one = sym all_held ∙ (sum_eq h _ (λ y. sum_to w (λ x. 1)) (λ y b. sum_eq w _ (λ x. 1) (λ x a. single x y a b)) ∙ full)
      where
        single : (x y : ℕ) → x < w → y < h → held x y ≡ 1
        single x y a b = let c = cover x y a b in one_hit n f (λ i. true) c.0 x y c.1 c.2 (λ i u q. one i c.0 x y u c.1 q c.2)

-- ---- lists joined: their lengths add up
pub length_joined : {A : Type 0} (n : ℕ) (f : ℕ → List A) → length (joined n f) ≡ sum_to n (λ i. length (f i))
unfolding joined sum_to
length_joined zero f = refl
length_joined (suc n) f = length-append (joined n f) (f n) ∙ ap (λ x. x + length (f n)) (length_joined n f)
