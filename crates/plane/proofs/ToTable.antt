-- A plane's words are a table: its tiles are the strips of the picture that they show.
use Prim.Native.Nat.{ℕ, zero, suc, ◌+◌, ◌-◌, ◌*◌, ◌≤◌, ◌<◌}
use native.Mathlib.Omega.{arith}
use mathlib.Core.Path.{◌≡◌, refl, sym, ◌∙◌, ap}
use mathlib.Core.Logic.{◌⊎◌, inl, inr, ⊎_elim}
use mathlib.Core.List.{List}
use lib.ListN.{length, get_or}
use Rattle.plane.specs.declared.tile.Tile.{Tile}
use Rattle.plane.specs.Picture.{table, written, tile_words, before, number_from}
use Rattle.plane.specs.Strips.{RunOf, Strip, Holds, Strips}
use Rattle.plane.specs.Words.{count, width, height, kinds, word, tile_of, tiles_of, picture_of, IsTable}
use Rattle.plane.specs.Plane.{Names, Plane}
use Rattle.plane.proofs.Basics.{lt_or_ge}
use Rattle.plane.proofs.Runs.{run_kind, run_left, run_right}
use Rattle.plane.proofs.Tiling.{strips_are_tiles}
use Rattle.plane.proofs.Index.{nth, length_up_to, nth_up_to, up_to_mem, mem_up_to, ordered_up_to, number_first, number_none, kind_first}
use Rattle.plane.proofs.Tables.{written_is}

module _ (ws : List ℕ) (P : Plane ws) where
  -- the picture at a square is the type of any tile that holds it
  held : (i x y : ℕ) → i < count ws → Holds (tile_of ws i) x y → Holds (nth (tiles_of ws) i) x y
  held i x y u a = rw (nth_up_to (count ws) (tile_of ws) i u) a

  unheld : (j x y : ℕ) → j < count ws → Holds (nth (tiles_of ws) j) x y → Holds (tile_of ws j) x y
  unheld j x y u a = rw (nth_up_to (count ws) (tile_of ws) j u) at a

  alone : (i x y : ℕ) → i < count ws → Holds (tile_of ws i) x y → (j : ℕ) → j < i → Holds (nth (tiles_of ws) j) x y → ⊥
  alone i x y u a j v b = let e : j ≡ i = P.one j i x y (omega arith) u (unheld j x y (omega arith) b) a in omega arith

  pub shown : (i x y : ℕ) → i < count ws → Holds (tile_of ws i) x y → picture_of ws x y ≡ word ws i 4
  shown i x y u a =
      kind_first (tiles_of ws) x y i (omega (arith, length_up_to (count ws) (tile_of ws))) (held i x y u a) (alone i x y u a)
      ∙ ap (λ (t : Tile). t.kind) (nth_up_to (count ws) (tile_of ws) i u)

  pub named : (s x y : ℕ) → Names ws s x y → s ≡ number_from 0 (tiles_of ws) x y
  named s x y a =
      let u = a.counted in
      let e = number_first 0 (tiles_of ws) x y s (omega (arith, length_up_to (count ws) (tile_of ws))) (held s x y u a.held) (alone s x y u a.held) in
      omega arith

  -- what holds the square left of a tile ends where the tile begins
  pub ends_there : (i j y : ℕ) → i < count ws → j < count ws → 0 < word ws i 0 → word ws i 1 ≤ y → y < word ws i 3 → Holds (tile_of ws j) (word ws i 0 - 1) y → word ws j 2 ≡ word ws i 0
  ends_there i j y u v a b d q =
      ⊎_elim
      (λ (s : word ws i 0 < word ws j 2).
      let e : i ≡ j = P.one i j (word ws i 0) y u v (record { from_left = omega arith; to_right = (P.boxes.box i u).wide; from_bottom = b; to_top = d }) (record { from_left = omega (arith, q.from_left); to_right = s; from_bottom = q.from_bottom; to_top = q.to_top }) in
      absurd (omega (arith, q.from_left, ap (λ (m : ℕ). word ws m 0) e)))
      (λ s. omega (arith, q.to_right))
      (lt_or_ge (word ws i 0) (word ws j 2))

  pub begins_there : (i j y : ℕ) → i < count ws → j < count ws → word ws i 1 ≤ y → y < word ws i 3 → Holds (tile_of ws j) (word ws i 2) y → word ws j 0 ≡ word ws i 2
  begins_there i j y u v b d q =
      ⊎_elim
      (λ (s : word ws j 0 < word ws i 2).
      let w : word ws i 0 < word ws i 2 = (P.boxes.box i u).wide in
      let e : i ≡ j = P.one i j (word ws i 2 - 1) y u v (record { from_left = omega arith; to_right = omega arith; from_bottom = b; to_top = d }) (record { from_left = omega arith; to_right = omega (arith, q.to_right); from_bottom = q.from_bottom; to_top = q.to_top }) in
      absurd (omega (arith, q.to_right, ap (λ (m : ℕ). word ws m 2) e)))
      (λ s. omega (arith, q.from_left))
      (lt_or_ge (word ws j 0) (word ws i 2))

  -- what holds a square below a tile ends where the tile begins, and what holds one above it begins where the tile ends
  pub ends_below : (i j x : ℕ) → i < count ws → j < count ws → 0 < word ws i 1 → word ws i 0 ≤ x → x < word ws i 2 → Holds (tile_of ws j) x (word ws i 1 - 1) → word ws j 3 ≡ word ws i 1
  ends_below i j x u v a b d q =
      ⊎_elim
      (λ (s : word ws i 1 < word ws j 3).
      let e : i ≡ j = P.one i j x (word ws i 1) u v (record { from_left = b; to_right = d; from_bottom = omega arith; to_top = (P.boxes.box i u).tall }) (record { from_left = q.from_left; to_right = q.to_right; from_bottom = omega (arith, q.from_bottom); to_top = s }) in
      absurd (omega (arith, q.from_bottom, ap (λ (m : ℕ). word ws m 1) e)))
      (λ s. omega (arith, q.to_top))
      (lt_or_ge (word ws i 1) (word ws j 3))

  pub begins_above : (i j x : ℕ) → i < count ws → j < count ws → word ws i 0 ≤ x → x < word ws i 2 → Holds (tile_of ws j) x (word ws i 3) → word ws j 1 ≡ word ws i 3
  begins_above i j x u v b d q =
      ⊎_elim
      (λ (s : word ws j 1 < word ws i 3).
      let w : word ws i 1 < word ws i 3 = (P.boxes.box i u).tall in
      let e : i ≡ j = P.one i j x (word ws i 3 - 1) u v (record { from_left = b; to_right = d; from_bottom = omega arith; to_top = omega arith }) (record { from_left = q.from_left; to_right = q.to_right; from_bottom = omega arith; to_top = omega (arith, q.to_top) }) in
      absurd (omega (arith, q.to_top, ap (λ (m : ℕ). word ws m 3) e)))
      (λ s. omega (arith, q.from_bottom))
      (lt_or_ge (word ws j 1) (word ws i 3))

  row : (i y : ℕ) → i < count ws → word ws i 1 ≤ y → y < word ws i 3 → RunOf (width ws) (picture_of ws) (tile_of ws i) y
  row i y u b d =
      let bx = P.boxes.box i u in
      record {
        all = λ x p q. shown i x y u (record { from_left = p; to_right = q; from_bottom = b; to_top = d });
        start = λ a e.
            let j = P.cover (word ws i 0 - 1) y (omega (arith, bx.wide, bx.inside)) (omega (arith, bx.under)) in
            let r = ends_there i j.0 y u j.1 a b d j.2 in
            P.sides j.0 i j.1 u y (record { joins = sym r; low_s = j.2.from_bottom; high_s = j.2.to_top; low_t = b; high_t = d })
            (sym (shown j.0 _ y j.1 j.2) ∙ e);
        stop = λ a e.
            let j = P.cover (word ws i 2) y a (omega (arith, bx.under)) in
            let r = begins_there i j.0 y u j.1 b d j.2 in
            P.sides i j.0 u j.1 y (record { joins = r; low_s = b; high_s = d; low_t = j.2.from_bottom; high_t = j.2.to_top })
            (sym e ∙ shown j.0 _ y j.1 j.2);
      }

  -- a tile with the run of tile i on a row has its span and type
  stacked : (i j y : ℕ) → i < count ws → j < count ws → RunOf (width ws) (picture_of ws) (tile_of ws i) y → Holds (tile_of ws j) (word ws i 0) y → (word ws j 0 ≡ word ws i 0) × (word ws j 2 ≡ word ws i 2) × (word ws j 4 ≡ word ws i 4)
  stacked i j y u v r q =
      let s = row j y v q.from_bottom q.to_top in
      let x = word ws i 0 in
      let wd : x < word ws i 2 = (P.boxes.box i u).wide in
      let h₁ : x ≤ x = omega arith in (
        omega (arith, run_left r s x h₁ wd q.from_left q.to_right, run_left s r x q.from_left q.to_right h₁ wd),
        omega (arith, run_right r s x h₁ wd q.from_left q.to_right (P.boxes.box j v).inside, run_right s r x q.from_left q.to_right h₁ wd (P.boxes.box i u).inside),
        run_kind s r x q.from_left q.to_right h₁ wd,
      )

  strip : (i : ℕ) → i < count ws → Strip (width ws) (height ws) (picture_of ws) (tile_of ws i)
  strip i u =
      let bx = P.boxes.box i u in
      record {
        box = bx;
        rows = λ y b d. row i y u b d;
        below = λ a r.
            let j = P.cover (word ws i 0) (word ws i 1 - 1) (omega (arith, bx.wide, bx.inside)) (omega (arith, bx.tall, bx.under)) in
            let k = stacked i j.0 (word ws i 1 - 1) u j.1 r j.2 in
            let tp = ends_below i j.0 (word ws i 0) u j.1 a (omega arith) bx.wide j.2 in
            P.apart j.0 i j.1 u (record { joins = sym tp; left = sym k.0; right = sym k.1; kind = sym k.2 });
        above = λ a r.
            let j = P.cover (word ws i 0) (word ws i 3) (omega (arith, bx.wide, bx.inside)) a in
            let k = stacked i j.0 (word ws i 3) u j.1 r j.2 in
            let bt = begins_above i j.0 (word ws i 0) u j.1 (omega arith) bx.wide j.2 in
            P.apart i j.0 u j.1 (record { joins = bt; left = k.0; right = k.1; kind = k.2 });
      }

  pub plane_strips : Strips (width ws) (height ws) (picture_of ws) (tiles_of ws)
  plane_strips = record {
    ordered = ordered_up_to (count ws) (tile_of ws) P.order;
    each = λ t m. let r = up_to_mem (count ws) (tile_of ws) m in rw r.2 (strip r.0 r.1);
    cover = λ x y a b. let j = P.cover x y a b in (tile_of ws j.0, mem_up_to (count ws) (tile_of ws) j.0 j.1, j.2);
  }

  before_is : (s b : ℕ) (g : ℕ → ℕ) → (0 < b → s ≡ g (b - 1)) → (b ≤ 0 → s ≡ 65535) → s ≡ before b g
  unfolding before
  before_is s zero g f e = e (omega arith)
  before_is s (suc b) g f e = f (omega arith) ∙ ap g (omega arith)

  pub outside : (x y : ℕ) → (width ws ≤ x) ⊎ (height ws ≤ y) → number_from 0 (tiles_of ws) x y ≡ 65535
  outside x y o = number_none 0 (tiles_of ws) x y (λ j v a.
      let u : j < count ws = omega (arith, length_up_to (count ws) (tile_of ws)) in
      let q = unheld j x y u a in
      let bx = P.boxes.box j u in
      ⊎_elim (λ s. omega (arith, q.to_right, bx.inside)) (λ s. omega (arith, q.to_top, bx.under)) o)

  inside_or : (s x y : ℕ) (lim v : ℕ) → v ≤ lim → (v < lim → Names ws s x y) → (lim ≤ v → s ≡ 65535) → (lim ≤ v → (width ws ≤ x) ⊎ (height ws ≤ y)) → s ≡ number_from 0 (tiles_of ws) x y
  inside_or s x y lim v a f g o = ⊎_elim (λ (u : v < lim). named s x y (f u)) (λ (u : lim ≤ v). g u ∙ sym (outside x y (o u))) (lt_or_ge v lim)

  words : (i j : ℕ) → i < count ws → j < 9 → word ws i j ≡ get_or (tile_words (tiles_of ws) (tile_of ws i)) j 0
  unfolding tile_words
  words i zero u v = refl
  words i (suc zero) u v = refl
  words i (suc (suc zero)) u v = refl
  words i (suc (suc (suc zero))) u v = refl
  words i (suc (suc (suc (suc zero)))) u v = refl
  words i (suc (suc (suc (suc (suc zero))))) u v =
      let s = P.stitches i u in
      before_is (word ws i 5) (word ws i 1) (λ y. number_from 0 (tiles_of ws) (word ws i 0) y) (λ a. named _ _ _ (s.lb.0 a)) s.lb.1
  words i (suc (suc (suc (suc (suc (suc zero)))))) u v =
      let s = P.stitches i u in
      before_is (word ws i 6) (word ws i 0) (λ x. number_from 0 (tiles_of ws) x (word ws i 1)) (λ a. named _ _ _ (s.bl.0 a)) s.bl.1
  words i (suc (suc (suc (suc (suc (suc (suc zero))))))) u v =
      let s = P.stitches i u in
      inside_or (word ws i 7) _ _ (width ws) (word ws i 2) (P.boxes.box i u).inside s.tr.0 s.tr.1 inl
  words i (suc (suc (suc (suc (suc (suc (suc (suc zero)))))))) u v =
      let s = P.stitches i u in
      inside_or (word ws i 8) _ _ (height ws) (word ws i 3) (P.boxes.box i u).under s.rt.0 s.rt.1 inr
  words i (suc (suc (suc (suc (suc (suc (suc (suc (suc j))))))))) u v = absurd (omega arith)

  pub plane_written : (c : ℕ) → count ws ≤ c → length ws ≡ 4 + 9 * c → ws ≡ written c (width ws) (height ws) (kinds ws) (tiles_of ws)
  plane_written c r e =
      let n = length_up_to (count ws) (tile_of ws) in
      written_is c (width ws) (height ws) (kinds ws) (tiles_of ws) ws (omega arith) e (sym n) refl refl refl
      (λ i j u v. let k : i < count ws = omega arith in
      rw (nth_up_to (count ws) (tile_of ws) i k) (words i j k v))
      (λ m u. P.rest m (omega arith))

  pub plane_table : (c : ℕ) → count ws ≤ c → length ws ≡ 4 + 9 * c → IsTable c ws
  unfolding table
  plane_table c r e = record {
    header = P.header;
    room = r;
    types = λ x y a b. let j = P.cover x y a b in let t = P.boxes.type j.0 j.1 in rw (shown j.0 x y j.1 j.2) t;
    same = plane_written c r e ∙ ap (written c (width ws) (height ws) (kinds ws)) (strips_are_tiles (width ws) (height ws) (picture_of ws) (tiles_of ws) plane_strips);
  }
