-- The place of a tile among the first n, by halves; a tile put there; what is known of a square by the tile under it; and the answer of a test.
use Prim.Native.Nat.{ℕ, ◌+◌, ◌-◌, ◌≤◌, ◌<◌}
use native.Mathlib.Omega.{arith}
use mathlib.Core.Bool.{Bool, false}
use mathlib.Core.Path.{◌≡◌, refl, sym, ◌∙◌, subst}
use mathlib.Core.Logic.{◌⊎◌, inl, inr, ⊎_elim}
use mathlib.Core.List.{List}
use Rattle.std.specs.Prelude.{Option, Some, None}
use Rattle.plane.specs.declared.tile.Tile.{Tile}
use Rattle.plane.specs.Strips.{Holds, Precedes}
use Rattle.plane.specs.Words.{Says, tile_of}
use Rattle.slots.specs.Slots.{Fresh, Holder, InOrderTo, Past, PlaceOf, PutTile, ShiftedUp, Sorted, Sought, Under, WithTile}
use Rattle.plane.proofs.Basics.{lt_or_ge}
use Rattle.plane.proofs.Index.{precedes_trans}

-- order between tiles that are equal to others
precedes_at : {a a' b b' : Tile} → a ≡ a' → b ≡ b' → Precedes a' b' → Precedes a b
precedes_at {a} {a'} {b} {b'} e f p = subst (λ (u : Tile). Precedes u b) (sym e) (subst (λ (u : Tile). Precedes a' u) (sym f) p)

-- ---- a tile put between those before it and the others, moved up
module _ {ws us vs : List ℕ} {n r : ℕ} {t : Tile} (P : PlaceOf ws n t r) (O : InOrderTo ws n) (F : Fresh ws n t) (S : ShiftedUp ws us r n) (Q : PutTile us vs r t) where
  low : (j : ℕ) → j < r → tile_of vs j ≡ tile_of ws j
  low j u = Q.old j (λ e. omega arith) ∙ S.kept j (omega arith)

  high : (i j : ℕ) → i ≡ j + 1 → r ≤ j → j < n → tile_of vs i ≡ tile_of ws j
  high i j e u v = Q.old i (λ q. omega arith) ∙ rw e (S.moved j u v)

  ahead : (j : ℕ) → r ≤ j → j < n → Precedes t (tile_of ws j)
  ahead j u v =
      let b : Precedes t (tile_of ws r) = ⊎_elim (λ p. absurd (P.after (omega arith) p)) (λ p. p) (F r (omega arith)) in
      ⊎_elim (λ (o : r < j). precedes_trans t (tile_of ws r) (tile_of ws j) b (O r j o v)) (λ (o : j ≤ r). let e : j ≡ r = omega arith in subst (λ (m : ℕ). Precedes t (tile_of ws m)) (sym e) b) (lt_or_ge r j)

  at_place : (j : ℕ) → j ≡ r → tile_of vs j ≡ t
  at_place j e = subst (λ (m : ℕ). tile_of vs m ≡ t) (sym e) Q.new

  -- which of the three a number is
  part : (j : ℕ) → j < n + 1 → (j < r) ⊎ ((j ≡ r) ⊎ (r < j))
  part j u = ⊎_elim (λ (o : j < r). inl o) (λ (o : r ≤ j). ⊎_elim (λ (p : r < j). inr (inr p)) (λ (p : j ≤ r). inr (inl (omega arith))) (lt_or_ge r j)) (lt_or_ge j r)

  in_order : InOrderTo vs (n + 1)
  in_order i j u v = ⊎_elim
      (λ (a : i < r). ⊎_elim
      (λ (b : j < r). precedes_at (low i a) (low j b) (O i j u (omega (arith, P.most))))
      (λ o. ⊎_elim
      (λ (b : j ≡ r). precedes_at (low i a) (at_place j b) (P.lower i a))
      (λ (b : r < j). precedes_at (low i a) (high j (j - 1) (omega arith) (omega arith) (omega arith)) (O i (j - 1) (omega arith) (omega arith))) o)
      (part j v))
      (λ o. ⊎_elim
      (λ (a : i ≡ r). precedes_at (at_place i a) (high j (j - 1) (omega arith) (omega arith) (omega arith)) (ahead (j - 1) (omega arith) (omega arith)))
      (λ (a : r < i). precedes_at (high i (i - 1) (omega arith) (omega arith) (omega arith)) (high j (j - 1) (omega arith) (omega arith) (omega arith)) (O (i - 1) (j - 1) (omega arith) (omega arith))) o)
      (part i (omega arith))

  pub with_tile : WithTile ws vs n t
  with_tile = record {
    long = Q.long ∙ S.long;
    order = in_order;
    new = (r, omega (arith, P.most), Q.new);
    old = λ i u. ⊎_elim (λ (o : i < r). (i, omega arith, low i o)) (λ (o : r ≤ i). (i + 1, omega arith, high (i + 1) i refl o u)) (lt_or_ge i r);
    only = λ j u. ⊎_elim (λ (o : j < r). inr (j, omega (arith, P.most), sym (low j o)))
        (λ p. ⊎_elim (λ (o : j ≡ r). inl (at_place j o)) (λ (o : r < j). inr (j - 1, omega arith, sym (high j (j - 1) (omega arith) (omega arith) (omega arith)))) p) (part j u);
  }

-- ---- the place of t by halves: the tiles below i come before it, and tile j does not
pub record PlaceIn (ws : List ℕ) (n : ℕ) (t : Tile) (i j : ℕ) : Type 0 where
  pub fits : i ≤ j
  pub most : j ≤ n
  pub lower : (k : ℕ) → k < i → Precedes (tile_of ws k) t
  pub after : j < n → Precedes (tile_of ws j) t → ⊥

-- where the middle tile comes before t
pub place_up : {ws : List ℕ} {n : ℕ} {t : Tile} {i j m : ℕ} → InOrderTo ws n → PlaceIn ws n t i j → m < j → Precedes (tile_of ws m) t → PlaceIn ws n t (m + 1) j
place_up {ws} {n} {t} {i} {j} {m} O P u p = record {
  fits = omega arith;
  most = P.most;
  lower = λ k v. ⊎_elim (λ (o : k < m). precedes_trans (tile_of ws k) (tile_of ws m) t (O k m o (omega (arith, P.most))) p) (λ (o : m ≤ k). let e : k ≡ m = omega arith in subst (λ (z : ℕ). Precedes (tile_of ws z) t) (sym e) p) (lt_or_ge k m);
  after = P.after;
}

-- ---- tiles that come after (x,y), which s marks, do not hold it: so those before s are all that need be asked
module _ (ws : List ℕ) {n p : ℕ} (x y : ℕ) {s : Tile} (O : InOrderTo ws n) (e : Past x y s) (P : PlaceOf ws n s p) where
  early : (j : ℕ) → Holds (tile_of ws j) x y → Precedes (tile_of ws j) s
  early j H = ⊎_elim (λ (a : (tile_of ws j).bottom < y). inl (omega (arith, e.bottom))) (λ (a : y ≤ (tile_of ws j).bottom). inr (omega (arith, H, e.bottom), omega (arith, H, e.left))) (lt_or_ge (tile_of ws j).bottom y)

  pub first_too : (j : ℕ) → j < n → p ≤ j → Precedes (tile_of ws j) s → Precedes (tile_of ws p) s
  first_too j o a q = ⊎_elim (λ (b : p < j). precedes_trans (tile_of ws p) (tile_of ws j) s (O p j b o) q) (λ (b : j ≤ p). let e : p ≡ j = omega arith in subst (λ (z : ℕ). Precedes (tile_of ws z) s) (sym e) q) (lt_or_ge p j)

  pub low_free : ((j : ℕ) → j < p → Holds (tile_of ws j) x y → ⊥) → Sought ws 0 n x y None
  low_free f j _ o H = ⊎_elim (λ (a : j < p). f j a H) (λ (a : p ≤ j). P.after (omega arith) (first_too j o a (early j H))) (lt_or_ge j p)

  pub low_back : (r : Option ℕ) → Sought ws 0 p x y r → Sought ws 0 n x y r
  low_back (Some r) B = (omega (arith, P.most, B.0), B.1)
  low_back None B = low_free (λ j a. B j (omega arith) a)

-- where tile k holds the square under (x,y), a tile that holds (x,y) is k or begins at y, and then it is the last before s
module _ {ws : List ℕ} {n p j : ℕ} (x y : ℕ) {s : Tile} (S : Sorted ws n) (e : Past x y s) (P : PlaceOf ws n s p) (last : p ≡ j + 1) where
  beside : (m : ℕ) → m < j → Holds (tile_of ws m) x y → y ≤ (tile_of ws m).bottom → m ≡ j
  beside m u H v =
      let o : j < n = omega (arith, P.most) in
      let C = S.some j o in
      ⊎_elim (λ (a : (tile_of ws m).bottom < (tile_of ws j).bottom). ⊎_elim (λ (b : (tile_of ws j).bottom < s.bottom). absurd (omega (arith, H, e.bottom))) (λ b. absurd (omega (arith, H, e.bottom, b.0))) (P.lower j (omega arith)))
      (λ a. ⊎_elim (λ (b : (tile_of ws j).bottom < s.bottom). absurd (omega (arith, H, e.bottom, a.0)))
      (λ b. S.one m j (tile_of ws j).left (tile_of ws j).bottom (omega arith) o (omega (arith, H, C, a.0, a.1, b.0, b.1, e.left, e.bottom)) C) (P.lower j (omega arith)))
      (S.order m j u o)

  pub low_under : {k : ℕ} → (Holder ws n j x y → ⊥) → (Holder ws n k x y → ⊥) → Under ws n k x y → Sought ws 0 n x y None
  low_under {k} f g K = low_free ws x y S.order e P each
    where
      high : (m : ℕ) → m < p → Holds (tile_of ws m) x y → y ≤ (tile_of ws m).bottom → ⊥
      high m u H v = ⊎_elim (λ (a : m < j). let q = beside m a H v in omega arith) (λ (a : j ≤ m). let q : m ≡ j = omega arith in f (record { counted = omega (arith, P.most); held = subst (λ (z : ℕ). Holds (tile_of ws z) x y) q H })) (lt_or_ge m j)

      each : (m : ℕ) → m < p → Holds (tile_of ws m) x y → ⊥
      each m u H = ⊎_elim
          (λ (a : (tile_of ws m).bottom < y). let q = S.one m k x (y - 1) (omega (arith, P.most)) K.holder.counted (omega (arith, H, K.some)) K.holder.held in g (record { counted = K.holder.counted; held = subst (λ (z : ℕ). Holds (tile_of ws z) x y) q H }))
          (λ (a : y ≤ (tile_of ws m).bottom). high m u H a)
          (lt_or_ge (tile_of ws m).bottom y)

-- ---- the answer of a test, at a tile that was read
pub said_no_lem : (P : Tile → Type 0) {s t : Tile} {b : Bool} → Says b (P s) → s ≡ t → b ≡ false → P t → ⊥
said_no_lem P {s} {t} {b} h e f p = (rw f at h) (subst P (sym e) p)
