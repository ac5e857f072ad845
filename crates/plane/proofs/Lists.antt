-- Joined lists, and ordered lists of tiles: membership, length and order.
use Prim.Native.Nat.{ℕ, zero, suc, ◌*◌, ◌≤◌, ◌<◌}
use native.Mathlib.Omega.{arith}
use native.Mathlib.Nat.{suc-mul}
use mathlib.Core.Path.{◌≡◌, refl, sym, ◌∙◌}
use mathlib.Core.Logic.{⊎_elim}
use mathlib.Core.List.Memᴰ
use mathlib.Core.List.{List, [], ◌∷◌, ◌++◌, Memᴰ}
use lib.ListN.{length, length-append}
use Rattle.plane.specs.Picture.{joined}
use Rattle.plane.specs.declared.tile.Tile.{Tile}
use Rattle.plane.specs.Strips.{Precedes, Ordered}
use Rattle.plane.proofs.Basics.{lt_or_ge}

pub joined_mem : {A : Type 0} {a : A} (n : ℕ) (f : ℕ → List A) → Memᴰ a (joined n f) → (i : ℕ) × (i < n) × Memᴰ a (f i)
unfolding joined
joined_mem zero f m = absurd (Memᴰ.not-nil m)
joined_mem {A} {a} (suc n) f m =
    ⊎_elim
    (λ u. let r = joined_mem {A = A} {a = a} n f u in (r.0, omega (arith, r.1), r.2))
    (λ u. (n, omega arith, u))
    (Memᴰ.append_cases (joined n f) m)

pub mem_joined : {A : Type 0} {a : A} (n : ℕ) (f : ℕ → List A) (i : ℕ) → i < n → Memᴰ a (f i) → Memᴰ a (joined n f)
unfolding joined
mem_joined zero f i h m = absurd (omega arith)
mem_joined {A} {a} (suc n) f i h m =
    ⊎_elim
    (λ (u : i < n). Memᴰ.append_left (f n) (mem_joined n f i u m))
    (λ (u : n ≤ i). let e : i ≡ n = omega arith in Memᴰ.append_right (joined n f) (rw e at m))
    (lt_or_ge i n)

-- n lists of at most c entries
pub joined_few : {A : Type 0} (n : ℕ) (f : ℕ → List A) (c : ℕ) → ((i : ℕ) → length (f i) ≤ c) → length (joined n f) ≤ n * c
unfolding joined
joined_few zero f c e = omega arith
joined_few (suc n) f c e = omega (arith, length-append (joined n f) (f n), joined_few n f c e, e n, suc-mul n c)

pub ordered_append : (s t : List Tile) → Ordered s → Ordered t → ((a b : Tile) → Memᴰ a s → Memᴰ b t → Precedes a b) → Ordered (s ++ t)
ordered_append [] t os ot h = ot
ordered_append (a ∷ s) t os ot h = (
  λ u m. ⊎_elim (λ v. os.0 u v) (λ v. h a u (Memᴰ.head refl) v) (Memᴰ.append_cases s m),
  ordered_append s t os.1 ot (λ c d mc md. h c d (Memᴰ.tail mc) md),
)

pub ordered_joined : (n : ℕ) (f : ℕ → List Tile) → ((i : ℕ) → i < n → Ordered (f i)) → ((i j : ℕ) (a b : Tile) → i < j → j < n → Memᴰ a (f i) → Memᴰ b (f j) → Precedes a b) → Ordered (joined n f)
unfolding joined
ordered_joined zero f o h = tt
ordered_joined (suc n) f o h =
    ordered_append (joined n f) (f n) (ordered_joined n f (λ i u. o i (omega arith)) (λ i j a b u v. h i j a b u (omega arith))) (o n (omega arith))
    (λ a b ma mb. let r = joined_mem n f ma in h r.0 n a b r.1 (omega arith) r.2 mb)

pub precedes_not : (a b : Tile) → Precedes a b → Precedes b a → ⊥
precedes_not a b p q =
    ⊎_elim (λ u. ⊎_elim (λ v. omega arith) (λ v. omega arith) q) (λ u. ⊎_elim (λ v. omega arith) (λ v. omega arith) q) p

pub precedes_irrefl : (a b : Tile) → a ≡ b → Precedes a b → ⊥
precedes_irrefl a b e p = precedes_not a a (rw (← e) at p) (rw (← e) at p)

-- two ordered lists with the same members are one
pub ordered_same : (s t : List Tile) → Ordered s → Ordered t → ((a : Tile) → Memᴰ a s → Memᴰ a t) → ((a : Tile) → Memᴰ a t → Memᴰ a s) → s ≡ t
ordered_same [] [] os ot f g = refl
ordered_same [] (b ∷ t) os ot f g = absurd (Memᴰ.not-nil (g b (Memᴰ.head refl)))
ordered_same (a ∷ s) [] os ot f g = absurd (Memᴰ.not-nil (f a (Memᴰ.head refl)))
ordered_same (a ∷ s) (b ∷ t) os ot f g =
    let e : a ≡ b = ⊎_elim (λ u. u) (λ u. ⊎_elim (λ v. sym v) (λ v. absurd (precedes_not a b (os.0 b v) (ot.0 a u))) (Memᴰ.cases_cons (g b (Memᴰ.head refl)))) (Memᴰ.cases_cons (f a (Memᴰ.head refl))) in
    let r : s ≡ t = ordered_same s t os.1 ot.1
    (λ c m. ⊎_elim (λ (u : c ≡ b). absurd (precedes_irrefl a c (e ∙ sym u) (os.0 c m))) (λ u. u) (Memᴰ.cases_cons (f c (Memᴰ.tail m))))
    (λ c m. ⊎_elim (λ (u : c ≡ a). absurd (precedes_irrefl b c (sym e ∙ sym u) (ot.0 c m))) (λ u. u) (Memᴰ.cases_cons (g c (Memᴰ.tail m)))) in
    λ i. e i ∷ r i
