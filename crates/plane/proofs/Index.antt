-- Lists of tiles by index: length, members, order, the first that holds a square.
use Prim.Native.Nat.{ℕ, zero, suc, ◌+◌, ◌-◌, ◌≤◌, ◌<◌}
use native.Mathlib.Omega.{arith}
use mathlib.Core.Bool.{true, false}
use mathlib.Core.Path.{◌≡◌, refl, sym, ◌∙◌, ap}
use mathlib.Core.Logic.{◌⊎◌, inl, inr, ⊎_elim}
use mathlib.Core.List.Memᴰ
use mathlib.Core.List.{List, [], ◌∷◌, ◌++◌, Memᴰ}
use lib.ListN.{length, get_or, length-append, get_or-append}
use lib.Seq.{get_or-append-add, ext_get_or}
use lib.Dec.{leb, ltb}
use borrow.Author.Tests.{ltb-true, leb-true, le-leb, lt-ltb}
use Rattle.plane.specs.declared.tile.Tile.{Tile}
use Rattle.plane.specs.Picture.{joined, holds, number_from}
use Rattle.plane.specs.Strips.{Holds, Precedes, Ordered}
use Rattle.plane.specs.Words.{up_to, kind_in}
use Rattle.plane.proofs.Basics.{bool_cases, tf, lt_or_ge, and_left, and_right, and_both}
use Rattle.plane.proofs.Lists.{joined_mem, mem_joined, ordered_joined}

abbrev pub no_tile : Tile
no_tile = record { left = 0; bottom = 0; right = 0; top = 0; kind = 0 }

abbrev pub nth : List Tile → ℕ → Tile
nth ts i = get_or ts i no_tile

pub length_up_to : (n : ℕ) (f : ℕ → Tile) → length (up_to n f) ≡ n
unfolding up_to joined
length_up_to zero f = refl
length_up_to (suc n) f = simp length-append (omega (arith, length_up_to n f))

pub nth_up_to : (n : ℕ) (f : ℕ → Tile) (i : ℕ) → i < n → nth (up_to n f) i ≡ f i
unfolding up_to joined
nth_up_to zero f i h = absurd (omega arith)
nth_up_to (suc n) f i h =
    ⊎_elim
    (λ (u : i < n). get_or-append (up_to n f) (f n ∷ []) no_tile i (omega (arith, length_up_to n f)) ∙ nth_up_to n f i u)
    (λ (u : n ≤ i). let e : i ≡ length (up_to n f) + 0 = omega (arith, length_up_to n f) in
    let q : i ≡ n = omega arith in
    ap (nth (up_to (suc n) f)) e ∙ (get_or-append-add (up_to n f) (f n ∷ []) 0 no_tile ∙ ap f (sym q)))
    (lt_or_ge i n)

pub up_to_mem : {t : Tile} (n : ℕ) (f : ℕ → Tile) → Memᴰ t (up_to n f) → (i : ℕ) × (i < n) × (t ≡ f i)
unfolding up_to
up_to_mem n f m = let r = joined_mem n (λ i. f i ∷ []) m in (r.0, r.1, Memᴰ.eq_of_singleton r.2)

pub mem_up_to : (n : ℕ) (f : ℕ → Tile) (i : ℕ) → i < n → Memᴰ (f i) (up_to n f)
unfolding up_to
mem_up_to n f i h = mem_joined n (λ i. f i ∷ []) i h (Memᴰ.head refl)

-- a list is its members by number
pub as_up_to : (ts : List Tile) → up_to (length ts) (nth ts) ≡ ts
as_up_to ts = ext_get_or no_tile (up_to (length ts) (nth ts)) ts (length_up_to (length ts) (nth ts)) (λ i h. nth_up_to (length ts) (nth ts) i (omega (arith, length_up_to (length ts) (nth ts))))

-- tiles by number, of which the first m are one list and the rest another
pub up_to_append : (m n : ℕ) (f g h : ℕ → Tile) → ((i : ℕ) → i < m → f i ≡ g i) → ((i : ℕ) → i < n → f (m + i) ≡ h i) → up_to (m + n) f ≡ up_to m g ++ up_to n h
up_to_append m n f g h a b = ext_get_or no_tile (up_to (m + n) f) (up_to m g ++ up_to n h) (length_up_to (m + n) f ∙ sym l) (λ i u. nth_up_to (m + n) f i (omega (arith, length_up_to (m + n) f)) ∙ go i (omega (arith, length_up_to (m + n) f)))
  where
    l : length (up_to m g ++ up_to n h) ≡ m + n
    l = length-append (up_to m g) (up_to n h) ∙ omega (arith, length_up_to m g, length_up_to n h)

    go : (i : ℕ) → i < m + n → f i ≡ nth (up_to m g ++ up_to n h) i
    go i u = ⊎_elim
        (λ (v : i < m). a i v ∙ sym (get_or-append (up_to m g) (up_to n h) no_tile i (omega (arith, length_up_to m g)) ∙ nth_up_to m g i v))
        (λ (v : m ≤ i).
        let d : i ≡ m + (i - m) = omega arith in
        let e : i ≡ length (up_to m g) + (i - m) = omega (arith, length_up_to m g) in
        ap f d ∙ (b (i - m) (omega arith) ∙ sym (ap (nth (up_to m g ++ up_to n h)) e ∙ (get_or-append-add (up_to m g) (up_to n h) (i - m) no_tile ∙ nth_up_to n h (i - m) (omega arith)))))
        (lt_or_ge i m)

pub mem_nth : {t : Tile} (ts : List Tile) → Memᴰ t ts → (i : ℕ) × (i < length ts) × (t ≡ nth ts i)
mem_nth ts m = up_to_mem (length ts) (nth ts) (rw (← as_up_to ts) at m)

pub nth_mem : (ts : List Tile) (i : ℕ) → i < length ts → Memᴰ (nth ts i) ts
nth_mem [] i h = absurd (omega arith)
nth_mem (t ∷ ts) zero h = Memᴰ.head refl
nth_mem (t ∷ ts) (suc i) h = Memᴰ.tail (nth_mem ts i (omega arith))

pub ordered_nth : (ts : List Tile) → Ordered ts → (i j : ℕ) → i < j → j < length ts → Precedes (nth ts i) (nth ts j)
ordered_nth [] o i j u v = absurd (omega arith)
ordered_nth (t ∷ ts) o i zero u v = absurd (omega arith)
ordered_nth (t ∷ ts) o zero (suc j) u v = o.0 (nth ts j) (nth_mem ts j (omega arith))
ordered_nth (t ∷ ts) o (suc i) (suc j) u v = ordered_nth ts o.1 i j (omega arith) (omega arith)

pub precedes_trans : (a b c : Tile) → Precedes a b → Precedes b c → Precedes a c
precedes_trans a b c p q =
    ⊎_elim (λ u. ⊎_elim (λ v. inl (omega arith)) (λ v. inl (omega arith)) q) (λ u. ⊎_elim (λ v. inl (omega arith)) (λ v. inr (omega arith)) q) p

pub later : (n : ℕ) (f : ℕ → Tile) → ((i : ℕ) → suc i < n → Precedes (f i) (f (suc i))) → (i j : ℕ) → i < j → j < n → Precedes (f i) (f j)
later n f h i zero u v = absurd (omega arith)
later n f h i (suc j) u v =
    ⊎_elim (λ (s : i < j). precedes_trans (f i) (f j) (f (suc j)) (later n f h i j s (omega arith)) (h j v))
    (λ (s : j ≤ i). let e : i ≡ j = omega arith in rw e (h j v)) (lt_or_ge i j)

pub ordered_up_to : (n : ℕ) (f : ℕ → Tile) → ((i : ℕ) → suc i < n → Precedes (f i) (f (suc i))) → Ordered (up_to n f)
unfolding up_to
ordered_up_to n f h =
    ordered_joined n (λ i. f i ∷ []) (λ i u. (λ t m. absurd (Memᴰ.not-nil m), tt))
    (λ i j a b u v ma mb. let ea = Memᴰ.eq_of_singleton ma in let eb = Memᴰ.eq_of_singleton mb in rw (ea, eb) (later n f h i j u v))

-- ---- the test on a square
pub holds_true : (t : Tile) (x y : ℕ) → holds t x y ≡ true → Holds t x y
unfolding holds
holds_true t x y e =
    let e₁ = and_right (leb t.left x) _ e in
    let e₂ = and_right (ltb x t.right) _ e₁ in
    record {
      from_left = leb-true _ _ (and_left (leb t.left x) _ e);
      to_right = ltb-true _ _ (and_left (ltb x t.right) _ e₁);
      from_bottom = leb-true _ _ (and_left (leb t.bottom y) _ e₂);
      to_top = ltb-true _ _ (and_right (leb t.bottom y) _ e₂);
    }

pub true_holds : (t : Tile) (x y : ℕ) → Holds t x y → holds t x y ≡ true
unfolding holds
true_holds t x y h =
    and_both _ _ (le-leb _ _ h.from_left) (and_both _ _ (lt-ltb _ _ h.to_right) (and_both _ _ (le-leb _ _ h.from_bottom) (lt-ltb _ _ h.to_top)))

pub holds_dec : (t : Tile) (x y : ℕ) → Holds t x y ⊎ (Holds t x y → ⊥)
holds_dec t x y = ⊎_elim (λ e. inl (holds_true t x y e)) (λ e. inr (λ h. tf (sym (true_holds t x y h) ∙ e))) (bool_cases (holds t x y))

holds_false : (t : Tile) (x y : ℕ) → (Holds t x y → ⊥) → holds t x y ≡ false
holds_false t x y h = ⊎_elim (λ e. absurd (h (holds_true t x y e))) (λ e. e) (bool_cases (holds t x y))

-- ---- the first that holds a square
pub number_first : (m : ℕ) (ts : List Tile) (x y i : ℕ) → i < length ts → Holds (nth ts i) x y → ((j : ℕ) → j < i → Holds (nth ts j) x y → ⊥) → number_from m ts x y ≡ m + i
unfolding number_from
number_first m [] x y i h a f = absurd (omega arith)
number_first m (t ∷ ts) x y zero h a f = rw (true_holds t x y a, number_from) (omega arith)
number_first m (t ∷ ts) x y (suc i) h a f =
    rw (holds_false t x y (f 0 (omega arith)), number_from) (number_first (suc m) ts x y i (omega arith) a (λ j u. f (suc j) (omega arith)) ∙ omega arith)

pub number_none : (m : ℕ) (ts : List Tile) (x y : ℕ) → ((j : ℕ) → j < length ts → Holds (nth ts j) x y → ⊥) → number_from m ts x y ≡ 65535
unfolding number_from
number_none m [] x y f = refl
number_none m (t ∷ ts) x y f = rw (holds_false t x y (f 0 (omega arith)), number_from) (number_none (suc m) ts x y (λ j u. f (suc j) (omega arith)))

pub kind_first : (ts : List Tile) (x y i : ℕ) → i < length ts → Holds (nth ts i) x y → ((j : ℕ) → j < i → Holds (nth ts j) x y → ⊥) → kind_in ts x y ≡ (nth ts i).kind
unfolding kind_in
kind_first [] x y i h a f = absurd (omega arith)
kind_first (t ∷ ts) x y zero h a f = rw (true_holds t x y a, kind_in)
kind_first (t ∷ ts) x y (suc i) h a f =
    rw (holds_false t x y (f 0 (omega arith)), kind_in) (kind_first ts x y i (omega arith) a (λ j u. f (suc j) (omega arith)))

pub kind_none : (ts : List Tile) (x y : ℕ) → ((j : ℕ) → j < length ts → Holds (nth ts j) x y → ⊥) → kind_in ts x y ≡ 0
unfolding kind_in
kind_none [] x y f = refl
kind_none (t ∷ ts) x y f = rw (holds_false t x y (f 0 (omega arith)), kind_in) (kind_none ts x y (λ j u. f (suc j) (omega arith)))
