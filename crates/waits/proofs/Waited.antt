-- From waiting tiles to waiting pieces: a piece waits exactly if a waiting tile crosses it. So the least corner of a waiting tile is the lowest piece, and rows of columns count them.
use Prim.Native.Nat.{ℕ, zero, suc, ◌+◌, ◌*◌, ◌/◌, ◌%◌, ◌<◌, ◌≤◌, min, max}
use native.Mathlib.Numerals.{add-one}
use native.Mathlib.Omega.{arith}
use mathlib.Core.Bool.{Bool, true, false, cond, true≢false}
use mathlib.Core.List.{List}
use mathlib.Core.Path.{◌≡◌, refl, sym, ◌∙◌, ap}
use mathlib.Core.Logic.{◌⊎◌, inl, inr, ⊎_elim}
use lib.ListN.{length, get_or, replicate, length-replicate, get_or-replicate}
use Rattle.plane.specs.declared.tile.Tile.{Tile}
use Rattle.plane.specs.Picture.{Picture, sum_to}
use Rattle.plane.specs.Strips.{Holds}
use Rattle.plane.specs.Words.{count, width, height, word, tile_of, picture_of}
use Rattle.plane.specs.Plane.{Plane}
use Rattle.plane.proofs.Basics.{lt_or_ge, eq_or_ne, is_false}
use Rattle.plane.proofs.Counting.{sum_eq}
use Rattle.plane.proofs.ToTable.{shown}
use Rattle.std.specs.Prelude.{Option, Some, None, count_by, take}
use Rattle.std.proofs.lemmas.List.{take_more}
use Rattle.std.proofs.lemmas.List.Sums.{sum_by_push}
use Rattle.waits.specs.Pieces.{block, blocks, waits_at, pieces, piece_waits, waiting_pieces, lowest_block, Lowest}
use Rattle.waits.specs.Waits.{WaitingRow, Crosses, key_of, Least, LeastKey, LeastOf, MarksTile, Columns}
use Rattle.waits.proofs.Blocks.{some_in_has, some_in_at, waits_at_lem, waits_in, waits_inside, block_lowest}

module _ (ws : List ℕ) (P : Plane ws) where
  -- does the piece wait, on the picture of the table
  waiting : ℕ → ℕ → Bool
  waiting = piece_waits (width ws) (height ws) (picture_of ws)

  -- a waiting tile that crosses a piece makes it wait
  pub crossed : (i bx by : ℕ) → i < count ws → Crosses (tile_of ws i) bx by → piece_waits (width ws) (height ws) (picture_of ws) bx by ≡ true
  unfolding piece_waits
  crossed i bx by l c =
      let k = P.boxes.box i l in
      let x = max (word ws i 0) (16 * bx) in
      let y = max (word ws i 1) (16 * by) in
      let c₁ : word ws i 0 < 16 * bx + 16 = c.from_left in
      let c₂ : 16 * bx < word ws i 2 = c.to_right in
      let c₃ : word ws i 1 < 16 * by + 16 = c.from_bottom in
      let c₄ : 16 * by < word ws i 3 = c.to_top in
      let k₁ : word ws i 0 < word ws i 2 = k.wide in
      let k₂ : word ws i 1 < word ws i 3 = k.tall in
      let k₃ : word ws i 2 ≤ width ws = k.inside in
      let k₄ : word ws i 3 ≤ height ws = k.under in
      let q : Holds (tile_of ws i) x y = record { from_left = omega arith; to_right = omega arith; from_bottom = omega arith; to_top = omega arith } in
      some_in_at bx by (waits_at (width ws) (height ws) (picture_of ws)) x y (record {
        left_of = omega arith;
        right_of = omega arith;
        low = omega arith;
        high = omega arith;
        passes = waits_at_lem (width ws) (height ws) (picture_of ws) x y (record { column = omega arith; row = omega arith; kind = λ z. c.waits (sym (shown ws P i x y l q) ∙ z) });
      })

  -- a waiting piece is crossed by a waiting tile
  pub crosser : (bx by : ℕ) → piece_waits (width ws) (height ws) (picture_of ws) bx by ≡ true → (i : ℕ) × (i < count ws) × Crosses (tile_of ws i) bx by
  unfolding piece_waits
  crosser bx by e =
      let a = some_in_has bx by (waits_at (width ws) (height ws) (picture_of ws)) e in
      let f = a.2 in
      let i = waits_in (width ws) (height ws) (picture_of ws) a.0 a.1 f.passes in
      let j = P.cover a.0 a.1 i.column i.row in
      let q = j.2 in (
        j.0,
        j.1,
        record {
          waits = λ z. i.kind (shown ws P j.0 a.0 a.1 j.1 q ∙ z);
          from_left = omega (arith, f.right_of, q.from_left);
          to_right = omega (arith, f.left_of, q.to_right);
          from_bottom = omega (arith, f.high, q.from_bottom);
          to_top = omega (arith, f.low, q.to_top);
        },
      )

  -- ---- the lowest
  -- the piece at the tile's lower left square
  at_corner : (i : ℕ) → i < count ws → (word ws i 4 ≡ 0 → ⊥) → Crosses (tile_of ws i) (word ws i 0 / 16) (word ws i 1 / 16)
  at_corner i l n =
      let k = P.boxes.box i l in
      let k₁ : word ws i 0 < word ws i 2 = k.wide in
      let k₂ : word ws i 1 < word ws i 3 = k.tall in
      record { waits = n; from_left = omega arith; to_right = omega arith; from_bottom = omega arith; to_top = omega arith }

  column_small : (i : ℕ) → i < count ws → word ws i 0 < 4096
  column_small i l = let k = P.boxes.box i l in omega (arith, k.wide, k.inside, P.header.sizes.wide_most)

  -- the corner of the crossing tile is no further up or right than the piece
  corner_below : (bx by : ℕ) → waiting bx by ≡ true → (j : ℕ) × (j < count ws) × (word ws j 4 ≡ 0 → ⊥) × (word ws j 1 / 16 ≤ by) × (word ws j 0 / 16 ≤ bx)
  unfolding waiting
  corner_below bx by e =
      let j = crosser bx by e in
      let c = j.2 in
      (j.0, j.1, c.waits, omega (arith, c.from_bottom), omega (arith, c.from_left))

  lowest_at : (m : ℕ) → Least ws (count ws) m → Lowest (width ws) (height ws) (picture_of ws) (m % 256) (m / 256)
  unfolding waiting
  lowest_at m l =
      let f = l.found in
      let c = column_small f.0 f.1 in
      let e₁ : m % 256 ≡ word ws f.0 0 / 16 = omega (arith, f.3) in
      let e₂ : m / 256 ≡ word ws f.0 1 / 16 = omega (arith, f.3) in
      let q : waiting (m % 256) (m / 256) ≡ true = rw (e₁, e₂) (crossed f.0 (word ws f.0 0 / 16) (word ws f.0 1 / 16) f.1 (at_corner f.0 f.1 f.2)) in
      let i = waits_inside (width ws) (height ws) (picture_of ws) (m % 256) (m / 256) q in
      record {
        column = i.0;
        row = i.1;
        waits = q;
        least = λ cx cy e.
            let g = corner_below cx cy e in
            let b = l.each g.0 g.1 g.2 in
            let d = column_small g.0 g.1 in
            ⊎_elim (λ (u : m / 256 < cy). inl u)
            (λ (u : cy ≤ m / 256). inr (omega (arith, g.3, g.4), omega (arith, g.3, g.4)))
            (lt_or_ge (m / 256) cy);
      }

  lowest_none : LeastKey ws None → (bx by : ℕ) → piece_waits (width ws) (height ws) (picture_of ws) bx by ≡ false
  unfolding waiting
  lowest_none l bx by = is_false (waiting bx by) (λ e. let g = corner_below bx by e in g.2 (l g.0 g.1))

  -- what the least key says
  pub least_block : (m : ℕ) → LeastKey ws (Some m) → Some (block (m % 256) (m / 256)) ≡ lowest_block (width ws) (height ws) (picture_of ws)
  least_block m l = block_lowest (width ws) (height ws) (picture_of ws) (Some (block (m % 256) (m / 256))) (lowest_at m l)

  pub least_nothing : LeastKey ws None → None ≡ lowest_block (width ws) (height ws) (picture_of ws)
  least_nothing l = block_lowest (width ws) (height ws) (picture_of ws) None (lowest_none l)

  -- ---- a row
  -- with all tiles marked, the columns of a row of pieces are those that wait
  pub columns_wait : {by : ℕ} {cs : List Bool} → Columns ws by (count ws) cs → WaitingRow (width ws) (height ws) (picture_of ws) by cs
  unfolding waiting
  columns_wait {by} {cs} c = record { long = c.long; each = λ bx l. go bx l (waiting bx by) refl }
    where
      go : (bx : ℕ) → bx < 256 → (b : Bool) → waiting bx by ≡ b → get_or cs bx false ≡ b
      go bx l true e = let j = crosser bx by e in c.yes bx l j.0 j.1 j.2
      go bx l false e = c.no bx l (λ j u x. true≢false (sym (crossed j bx by u x) ∙ e))

-- ---- the count
-- the pieces of one row that wait
unfoldable pub row_waiting : ℕ → ℕ → Picture → ℕ → ℕ
row_waiting w h p by = sum_to (blocks w) λ bx. cond (piece_waits w h p bx by) 1 0

bits_most : (n : ℕ) (f : ℕ → Bool) → sum_to n (λ i. cond (f i) 1 0) ≤ n
unfolding sum_to
bits_most zero f = omega arith
bits_most (suc n) f = let q = bits_most n f in let z : cond (f n) 1 0 ≤ 1 = one (f n) in omega arith
  where
    one : (b : Bool) → cond b 1 0 ≤ 1
    one true = omega arith
    one false = omega arith

-- how many of the first n columns wait
count_to : (n : ℕ) (cs : List Bool) → n ≤ length cs → count_by (λ b. b) (take n cs) ≡ sum_to n (λ i. cond (get_or cs i false) 1 0)
unfolding sum_to
count_to zero cs l = refl
count_to (suc n) cs l = rw (← add-one n, take_more cs n false (omega arith), sum_by_push (λ b. cond b 1 0) (take n cs) (get_or cs n false)) (omega (arith, count_to n cs (omega arith)))

-- how many pieces of a row wait, for columns that the code has counted
pub row_is : {ws : List ℕ} {y n r : ℕ} {cs : List Bool} → Plane ws → WaitingRow (width ws) (height ws) (picture_of ws) y cs → n ≡ blocks (width ws) → r ≡ count_by (λ b. b) (take n cs)
    → (r ≡ row_waiting (width ws) (height ws) (picture_of ws) y) × (r ≤ 256)
unfolding row_waiting
row_is {ws} {y} {n} {r} {cs} P c e f =
    let l : n ≤ 256 = omega (arith, P.header.sizes.wide_most) in
    let q : r ≡ row_waiting (width ws) (height ws) (picture_of ws) y =
    f ∙ count_to n cs (omega (arith, c.long)) ∙ sum_eq n (λ i. cond (get_or cs i false) 1 0) (λ bx. cond (piece_waits (width ws) (height ws) (picture_of ws) bx y) 1 0) (λ i m. ap (λ b. cond b 1 0) (c.each i (omega arith)))
    ∙ ap (λ z. sum_to z (λ bx. cond (piece_waits (width ws) (height ws) (picture_of ws) bx y) 1 0)) e in
    (q, omega (arith, q, bits_most (blocks (width ws)) (λ bx. piece_waits (width ws) (height ws) (picture_of ws) bx y)))

-- the sum of all rows
pub rows_none : (w h : ℕ) (p : Picture) → sum_to 0 (row_waiting w h p) ≡ 0
unfolding sum_to
rows_none w h p = refl

pub rows_all : (w h : ℕ) (p : Picture) → sum_to (blocks h) (row_waiting w h p) ≡ waiting_pieces w h p
unfolding waiting_pieces pieces row_waiting
rows_all w h p = refl

-- ---- the least key
pub least_none : (ws : List ℕ) → LeastOf ws 0 None
least_none ws = λ j l. absurd (omega arith)

-- a tile more, which does not wait
pub least_idle : (ws : List ℕ) (i : ℕ) {t : Tile} (r : Option ℕ) → t ≡ tile_of ws i → LeastOf ws i r → t.kind ≡ 0 → LeastOf ws (i + 1) r
least_idle ws i {t} None s l k = let z = (rw s at k) in λ j u. ⊎_elim (λ (v : j < i). l j v) (λ (v : i ≤ j). let e : j ≡ i = omega arith in rw e z) (lt_or_ge j i)
least_idle ws i {t} (Some m) s l k = let z = (rw s at k) in record {
  small = l.small;
  each = λ j u n. ⊎_elim (λ (v : j < i). l.each j v n) (λ (v : i ≤ j). let e : j ≡ i = omega arith in absurd (n (rw e z))) (lt_or_ge j i);
  found = let f = l.found in (f.0, omega (arith, f.1), f.2, f.3);
}

-- a tile of a plane begins left of 4096 and below it, so its number is small
pub key_small : {ws : List ℕ} {i r : ℕ} {t : Tile} → Plane ws → i < count ws → t ≡ tile_of ws i → r ≡ key_of t → r < 65536
key_small {ws} {i} {r} P l s e = let e : r ≡ key_of (tile_of ws i) = rw s at e in let k = P.boxes.box i l in omega (arith, e, k.wide, k.inside, k.tall, k.under, P.header.sizes.wide_most, P.header.sizes.tall_most)

-- or waits, the first that does
pub least_first : {ws : List ℕ} {i r : ℕ} {t : Tile} → r < 65536 → t ≡ tile_of ws i → LeastOf ws i None → (t.kind ≡ 0 → ⊥) → r ≡ key_of t → Least ws (i + 1) r
least_first {ws} {i} {r} {t} b s l n e = let e : r ≡ key_of (tile_of ws i) = rw s at e in let n : word ws i 4 ≡ 0 → ⊥ = rw s at n in record {
  small = b;
  each = λ j u k. ⊎_elim (λ (v : j < i). absurd (k (l j v))) (λ (v : i ≤ j). let q : j ≡ i = omega arith in rw q (omega (arith, e))) (lt_or_ge j i);
  found = (i, omega arith, n, e);
}

-- or one more
pub least_more : {ws : List ℕ} {i m r : ℕ} {t : Tile} → t ≡ tile_of ws i → LeastOf ws i (Some m) → (t.kind ≡ 0 → ⊥) → r ≡ key_of t → Least ws (i + 1) (min r m)
least_more {ws} {i} {m} {r} {t} s l n e = let e : r ≡ key_of (tile_of ws i) = rw s at e in let n : word ws i 4 ≡ 0 → ⊥ = rw s at n in record {
  small = omega (arith, l.small);
  each = λ j u k. ⊎_elim
      (λ (v : j < i). let b = l.each j v k in omega arith)
      (λ (v : i ≤ j). let q : j ≡ i = omega arith in rw q (omega (arith, e)))
      (lt_or_ge j i);
  found = ⊎_elim
      (λ (a : m < r). let f = l.found in (f.0, omega (arith, f.1), f.2, (let q : min r m ≡ m = omega arith in q ∙ f.3)))
      (λ (a : r ≤ m). let q : min r m ≡ r = omega arith in (i, omega arith, n, q ∙ e))
      (lt_or_ge m r);
}

-- ---- columns
pub columns_none : (ws : List ℕ) (by : ℕ) → Columns ws by 0 (replicate 256 false)
columns_none ws by = record { long = length-replicate {A = Bool} 256 false; yes = λ bx l j u c. absurd (omega arith); no = λ bx l f. get_or-replicate 256 bx false false l }

crosses_dec : (t : Tile) (bx by : ℕ) → Crosses t bx by ⊎ (Crosses t bx by → ⊥)
crosses_dec t bx by = ⊎_elim
    (λ (z : t.kind ≡ 0). inr (λ c. c.waits z))
    (λ (z : t.kind ≡ 0 → ⊥). ⊎_elim
    (λ (a : t.left < 16 * bx + 16). ⊎_elim
    (λ (b : 16 * bx < t.right). ⊎_elim
    (λ (d : t.bottom < 16 * by + 16). ⊎_elim
    (λ (e : 16 * by < t.top). inl (record { waits = z; from_left = a; to_right = b; from_bottom = d; to_top = e }))
    (λ (e : t.top ≤ 16 * by). inr (λ c. omega (arith, c.to_top))) (lt_or_ge (16 * by) t.top))
    (λ (d : 16 * by + 16 ≤ t.bottom). inr (λ c. omega (arith, c.from_bottom))) (lt_or_ge t.bottom (16 * by + 16)))
    (λ (b : t.right ≤ 16 * bx). inr (λ c. omega (arith, c.to_right))) (lt_or_ge (16 * bx) t.right))
    (λ (a : 16 * bx + 16 ≤ t.left). inr (λ c. omega (arith, c.from_left))) (lt_or_ge t.left (16 * bx + 16)))
    (eq_or_ne t.kind 0)

pub columns_more : {ws : List ℕ} {by i : ℕ} {m m₁ : List Bool} (t : Tile) → t ≡ tile_of ws i → Columns ws by i m → MarksTile t by m m₁ → Columns ws by (i + 1) m₁
columns_more {ws} {by} {i} {m} {m₁} t same c k = record {
  long = k.long ∙ c.long;
  yes = λ bx l j u x. ⊎_elim
      (λ (q : Crosses t bx by). k.yes bx l q)
      (λ (q : Crosses t bx by → ⊥). k.no bx l q ∙ ⊎_elim
      (λ (v : j < i). c.yes bx l j v x)
      (λ (v : i ≤ j). let e : j ≡ i = omega arith in absurd (q (rw same (rw e at x))))
      (lt_or_ge j i))
      (crosses_dec t bx by);
  no = λ bx l f. k.no bx l (λ z. f i (omega arith) (rw same at z)) ∙ c.no bx l (λ j u. f j (omega arith));
}
