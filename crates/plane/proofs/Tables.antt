-- The words of a table, one by one.
use Prim.Native.Nat.{ℕ, zero, suc, ◌+◌, ◌-◌, ◌*◌, ◌/◌, ◌%◌, ◌≤◌, ◌<◌}
use native.Mathlib.Omega.{arith}
use mathlib.Core.Path.{◌≡◌, refl, sym, ◌∙◌}
use mathlib.Core.Logic.{⊎_elim}
use mathlib.Core.List.{List, [], ◌∷◌, ◌++◌, map, append_assoc}
use lib.ListN.{length, get_or, replicate, length-append, length-replicate, get_or-replicate, get_or-append, get_or-eq_default}
use lib.Seq.{get_or-append-add, ext_get_or}
use Rattle.plane.specs.declared.tile.Tile.{Tile}
use Rattle.plane.specs.Picture.{concat, tile_words, written}
use Rattle.plane.specs.Words.{count, width, height, kinds, word}
use Rattle.plane.proofs.Basics.{lt_or_ge}
use Rattle.plane.proofs.Index.{nth}

module _ (g : Tile → List ℕ) (nine : (t : Tile) → length (g t) ≡ 9) where
  length_blocks : (ts : List Tile) → length (concat (map g ts)) ≡ 9 * length ts
  unfolding concat
  length_blocks [] = refl
  length_blocks (t ∷ ts) = simp length-append (omega (arith, nine t, length_blocks ts))

  block : (ts : List Tile) (rest : List ℕ) (i j : ℕ) → i < length ts → j < 9 → get_or (concat (map g ts) ++ rest) (9 * i + j) 0 ≡ get_or (g (nth ts i)) j 0
  unfolding concat
  block [] rest i j u v = absurd (omega arith)
  block (t ∷ ts) rest zero j u v =
      let e : 9 * zero + j ≡ j = omega arith in
      rw (append_assoc, e) (get_or-append (g t) (concat (map g ts) ++ rest) 0 j (omega (arith, nine t)))
  block (t ∷ ts) rest (suc i) j u v =
      let e : 9 * suc i + j ≡ length (g t) + (9 * i + j) = omega (arith, nine t) in
      rw (append_assoc, e) (get_or-append-add (g t) (concat (map g ts) ++ rest) (9 * i + j) 0 ∙ block ts rest i j (omega arith) v)

words_nine : (ts : List Tile) (t : Tile) → length (tile_words ts t) ≡ 9
unfolding tile_words
words_nine ts t = refl

module _ (c w h k : ℕ) (ts : List Tile) where
  pub written_length : length ts ≤ c → length (written c w h k ts) ≡ 4 + 9 * c
  unfolding written
  written_length u = simp (length-append, length-replicate) (omega (arith, length_blocks (tile_words ts) (words_nine ts) ts))

  pub written_count : count (written c w h k ts) ≡ length ts
  unfolding written
  written_count = refl

  pub written_width : width (written c w h k ts) ≡ w
  unfolding written
  written_width = refl

  pub written_height : height (written c w h k ts) ≡ h
  unfolding written
  written_height = refl

  pub written_kinds : kinds (written c w h k ts) ≡ k
  unfolding written
  written_kinds = refl

  pub written_word : (i j : ℕ) → i < length ts → j < 9 → word (written c w h k ts) i j ≡ get_or (tile_words ts (nth ts i)) j 0
  unfolding written
  written_word i j u v =
      let e : 4 + 9 * i + j ≡ suc (suc (suc (suc (9 * i + j)))) = omega arith in
      rw e (block (tile_words ts) (words_nine ts) ts (replicate (9 * (c - length ts)) 0) i j u v)

  zeros : (n m : ℕ) → ◌≡◌ {A = ℕ} (get_or (replicate n 0) m 0) 0
  zeros n m = ⊎_elim (λ u. get_or-replicate n m 0 0 u) (λ u. get_or-eq_default (replicate n 0) 0 (omega (arith, length-replicate {A = ℕ} n 0))) (lt_or_ge m n)

  pub written_rest : (m : ℕ) → 4 + 9 * length ts ≤ m → get_or (written c w h k ts) m 0 ≡ 0
  unfolding written
  written_rest m u =
      let b = concat (map (tile_words ts) ts) in
      let d = length_blocks (tile_words ts) (words_nine ts) ts in
      let e : m ≡ suc (suc (suc (suc (length b + (m - (4 + 9 * length ts)))))) = omega arith in
      rw e (get_or-append-add b (replicate (9 * (c - length ts)) 0) (m - (4 + 9 * length ts)) 0 ∙ zeros (9 * (c - length ts)) (m - (4 + 9 * length ts)))

  -- which word a number names
  place : (m : ℕ) → 4 ≤ m → (i : ℕ) × (j : ℕ) × (j < 9) × (m ≡ 4 + 9 * i + j)
  place m u = ((m - 4) / 9, (m - 4) % 9, omega arith, omega arith)

  -- words that are as they should be make the table
  pub written_is : (ws : List ℕ) → length ts ≤ c → length ws ≡ 4 + 9 * c → count ws ≡ length ts → width ws ≡ w → height ws ≡ h → kinds ws ≡ k
      → ((i j : ℕ) → i < length ts → j < 9 → word ws i j ≡ get_or (tile_words ts (nth ts i)) j 0)
      → ((m : ℕ) → 4 + 9 * length ts ≤ m → get_or ws m 0 ≡ 0)
      → ws ≡ written c w h k ts
  written_is ws r n e₀ e₁ e₂ e₃ f z = ext_get_or 0 ws (written c w h k ts) (n ∙ sym (written_length r)) (λ m u. go m)
    where
      big : (m : ℕ) → 4 ≤ m → get_or ws m 0 ≡ get_or (written c w h k ts) m 0
      big m u =
          ⊎_elim
          (λ (v : m < 4 + 9 * length ts). let q = place m u in
          let s = q.3 in
          let a : q.0 < length ts = omega (arith, q.2) in
          rw s (f q.0 q.1 a q.2 ∙ sym (written_word q.0 q.1 a q.2)))
          (λ v. z m v ∙ sym (written_rest m v)) (lt_or_ge m (4 + 9 * length ts))

      go : (m : ℕ) → get_or ws m 0 ≡ get_or (written c w h k ts) m 0
      go zero = e₀ ∙ sym written_count
      go (suc zero) = e₁ ∙ sym written_width
      go (suc (suc zero)) = e₂ ∙ sym written_height
      go (suc (suc (suc zero))) = e₃ ∙ sym written_kinds
      go (suc (suc (suc (suc m)))) = big (suc (suc (suc (suc m)))) (omega arith)
