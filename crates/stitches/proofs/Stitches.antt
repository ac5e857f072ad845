-- The stitches: the number of the tile that holds a square, the four stores of a tile, one tile more, and guesses, which leave the tiles as they are.
use Prim.Native.Nat.{ℕ, zero, suc, ◌+◌, ◌-◌, ◌*◌, ◌≤◌, ◌<◌}
use native.Mathlib.Omega.{arith}
use mathlib.Core.Path.{◌≡◌, refl, sym, ◌∙◌, ap, ap₂, subst, fun_ext}
use mathlib.Core.Logic.{◌⊎◌, inl, inr, ⊎_elim}
use mathlib.Core.List.{List}
use Rattle.std.specs.Prelude.{Option, Some, None}
use lib.ListN.{get_or}
use Rattle.plane.specs.declared.tile.Tile.{Tile}
use Rattle.plane.specs.Picture.{before, tile_words}
use Rattle.plane.specs.Strips.{Box, Holds}
use Rattle.plane.specs.Words.{tile_of, up_to, word}
use Rattle.shared.specs.declared.shared.Links.{Links}
use Rattle.stitches.specs.Stitch.{Ends, Leads, StitchTo, LinksOf, PutLinks, SameTiles, StitchedTo, Tight, number_in, tiles_to, word_of}
use Rattle.plane.proofs.Basics.{lt_or_ge}
use Rattle.plane.proofs.Index.{length_up_to, nth, nth_up_to, number_first, number_none}
use Rattle.slots.proofs.Stores.{tile_agree}

-- ---- the number of a tile that holds a square
module _ (ws : List ℕ) (n x y : ℕ) where
  down : (j : ℕ) → j < n → Holds (nth (tiles_to ws n) j) x y → Holds (tile_of ws j) x y
  down j u h = subst (λ (t : Tile). Holds t x y) (nth_up_to n (tile_of ws) j u) h

  number_found : (r : ℕ) → r < n → Holds (tile_of ws r) x y → ((j : ℕ) → j < r → Holds (tile_of ws j) x y → ⊥) → r ≡ number_in ws n x y
  number_found r u h f = sym (number_first 0 (tiles_to ws n) x y r (omega (arith, length_up_to n (tile_of ws))) (subst (λ (t : Tile). Holds t x y) (sym (nth_up_to n (tile_of ws) r u)) h) (λ j v k. f j v (down j (omega arith) k)) ∙ omega arith)

  number_miss : ((j : ℕ) → j < n → Holds (tile_of ws j) x y → ⊥) → 65535 ≡ number_in ws n x y
  number_miss f = sym (number_none 0 (tiles_to ws n) x y (λ j v h. let o : j < n = omega (arith, length_up_to n (tile_of ws)) in f j o (down j o h)))

-- in a tight list of tiles any that holds is the first that holds
module _ {ws : List ℕ} {n w h x y : ℕ} (T : Tight ws n w h) where
  pub number_hit : {r : ℕ} → r < n → Holds (tile_of ws r) x y → r ≡ number_in ws n x y
  number_hit {r} u H = number_found ws n x y r u H (λ j v J. let e = T.one j r x y (omega arith) u J H in omega arith)

  pub number_out : (w ≤ x) ⊎ (h ≤ y) → 65535 ≡ number_in ws n x y
  number_out o = number_miss ws n x y (λ j u J. ⊎_elim (λ v. omega (arith, T.box j u)) (λ v. omega (arith, T.box j u)) o)

-- ---- the square before
pub before_some : (y : ℕ) (g : ℕ → ℕ) → 0 < y → g (y - 1) ≡ before y g
unfolding before
before_some zero g h = absurd (omega arith)
before_some (suc y) g h = ap g (omega arith)

pub before_none : (y : ℕ) (g : ℕ → ℕ) → y ≤ 0 → 65535 ≡ before y g
unfolding before
before_none zero g h = refl
before_none (suc y) g h = absurd (omega arith)

-- the four numbers are the four words
pub links_are : (ws : List ℕ) (n : ℕ) (t : Tile) (l : Links ℕ) → l.lb ≡ before t.bottom (λ z. number_in ws n t.left z) → l.bl ≡ before t.left (λ z. number_in ws n z t.bottom)
    → l.tr ≡ number_in ws n t.right (t.top - 1) → l.rt ≡ number_in ws n (t.right - 1) t.top → LinksOf ws n t l
unfolding tile_words
links_are ws n t l a b c d = record { lb = a; bl = b; tr = c; rt = d }

-- ---- the word of a stitch that is looked for, by where it leads
module _ {ws : List ℕ} {n w h : ℕ} (T : Tight ws n w h) where
  word_in : (x y : ℕ) {r : ℕ} → StitchTo ws n (Some (x, y)) r → r ≡ number_in ws n x y
  word_in x y (inl H) = number_hit T H.0 H.1
  word_in x y (inr M) = M.0 ∙ number_miss ws n x y M.1

  word_at : (x y : ℕ) {s : ℕ × ℕ} {r : ℕ} → s.0 ≡ x → s.1 ≡ y → StitchTo ws n (Some s) r → r ≡ number_in ws n x y
  word_at x y {s} p q S = word_in s.0 s.1 S ∙ ap₂ (number_in ws n) p q

  pub to_before : (m x y : ℕ) (g : ℕ → ℕ) (e : Option (ℕ × ℕ)) {r : ℕ} → number_in ws n x y ≡ g (m - 1) → Leads 0 m x y e → StitchTo ws n e r → r ≡ before m g
  to_before m x y g (Some s) q L S = word_at x y L.1 L.2 S ∙ (q ∙ before_some m g L.0)
  to_before m x y g None q L S = S ∙ before_none m g L

  pub to_after : {m k : ℕ} (x y : ℕ) → (k ≤ m → 65535 ≡ number_in ws n x y) → (e : Option (ℕ × ℕ)) {r : ℕ} → Leads m k x y e → StitchTo ws n e r → r ≡ number_in ws n x y
  to_after x y f (Some s) L S = word_at x y L.1 L.2 S
  to_after x y f None L S = S ∙ f L

  -- the four
  pub links_to : {t : Tile} {e : Links (Option (ℕ × ℕ))} {l : Links ℕ} → Ends w h t e → StitchTo ws n e.lb l.lb → StitchTo ws n e.bl l.bl → StitchTo ws n e.tr l.tr → StitchTo ws n e.rt l.rt → LinksOf ws n t l
  links_to {t} {e} {l} E a b c d = links_are ws n t l
      (to_before t.bottom t.left (t.bottom - 1) (λ z. number_in ws n t.left z) e.lb refl E.lb a)
      (to_before t.left (t.left - 1) t.bottom (λ z. number_in ws n z t.bottom) e.bl refl E.bl b)
      (to_after t.right (t.top - 1) (λ u. number_out T (inl u)) e.tr E.tr c)
      (to_after (t.right - 1) t.top (λ u. number_out T (inr u)) e.rt E.rt d)

-- ---- one tile more
module _ {ws us vs : List ℕ} {n i : ℕ} {t : Tile} {l : Links ℕ} (S : StitchedTo ws n us i) (L : LinksOf us n t l) (e : t ≡ tile_of us i) (P : PutLinks us vs i l) where
  same_tiles : tiles_to us n ≡ tiles_to ws n
  same_tiles = ap (up_to n) (fun_ext S.tile)

  word_same : (k : ℕ) → word_of us n t k ≡ word_of ws n (tile_of ws i) k
  word_same k = ap₂ (λ (ts : List Tile) (u : Tile). get_or (tile_words ts u) k 0) same_tiles (e ∙ S.tile i)

  tile_same : (j : ℕ) → tile_of vs j ≡ tile_of ws j
  tile_same j = tile_agree vs us j j (λ k u. P.old (4 + 9 * j + k) (⊎_elim (λ (v : i < j). inr (omega arith)) (λ (v : j ≤ i). inl (omega arith)) (lt_or_ge i j))) ∙ S.tile j

  here : (k : ℕ) → k < 9 → word vs i k ≡ word_of ws n (tile_of ws i) k
  unfolding tile_words
  here zero u = ap (λ (z : Tile). z.left) (tile_same i)
  here (suc zero) u = ap (λ (z : Tile). z.bottom) (tile_same i)
  here (suc (suc zero)) u = ap (λ (z : Tile). z.right) (tile_same i)
  here (suc (suc (suc zero))) u = ap (λ (z : Tile). z.top) (tile_same i)
  here (suc (suc (suc (suc zero)))) u = ap (λ (z : Tile). z.kind) (tile_same i)
  here (suc (suc (suc (suc (suc zero))))) u = P.lb ∙ (L.lb ∙ word_same 5)
  here (suc (suc (suc (suc (suc (suc zero)))))) u = P.bl ∙ (L.bl ∙ word_same 6)
  here (suc (suc (suc (suc (suc (suc (suc zero))))))) u = P.tr ∙ (L.tr ∙ word_same 7)
  here (suc (suc (suc (suc (suc (suc (suc (suc zero)))))))) u = P.rt ∙ (L.rt ∙ word_same 8)
  here (suc (suc (suc (suc (suc (suc (suc (suc (suc k))))))))) u = absurd (omega arith)

  pub stitched_more : StitchedTo ws n vs (i + 1)
  stitched_more = record {
    long = P.long ∙ S.long;
    tile = tile_same;
    done = λ j k u v. ⊎_elim
        (λ (o : j < i). P.old (4 + 9 * j + k) (inl (omega arith)) ∙ S.done j k o v)
        (λ (o : i ≤ j). let q : j ≡ i = omega arith in subst (λ (m : ℕ). word vs m k ≡ word_of ws n (tile_of ws m) k) (sym q) (here k v))
        (lt_or_ge j i);
  }

-- while stitches are set the tiles stay: they have a span, and are tight
pub some_span : {ws us : List ℕ} {n w h i : ℕ} {t : Tile} → Tight ws n w h → i < n → StitchedTo ws n us i → t ≡ tile_of us i → (0 < t.right) × (0 < t.top)
some_span {i = i} T u S e = subst (λ (z : Tile). (0 < z.right) × (0 < z.top)) (sym (e ∙ S.tile i)) (omega (arith, T.box i u))

pub tight_still : {ws us : List ℕ} {n w h i : ℕ} → Tight ws n w h → StitchedTo ws n us i → Tight us n w h
tight_still {ws} {us} {n} {w} {h} T S = record {
  box = λ j u. subst (λ (t : Tile). Box w h t) (sym (S.tile j)) (T.box j u);
  one = λ i j x y u v a b. T.one i j x y u v (subst (λ (t : Tile). Holds t x y) (S.tile i) a) (subst (λ (t : Tile). Holds t x y) (S.tile j) b);
}

-- ---- guesses: tiles stay, and no more is said
-- stitches from guesses
pub stitched_from : {ws vs : List ℕ} (n : ℕ) → SameTiles ws vs → StitchedTo ws n vs 0
stitched_from n S = record { long = S.long; tile = S.tile; done = λ j k u. absurd (omega arith) }
