-- The words of a table of strips are a plane.
use Prim.Native.Nat.{ℕ, zero, suc, ◌-◌, ◌≤◌, ◌<◌}
use native.Mathlib.Omega.{arith}
use mathlib.Core.Path.{◌≡◌, sym, ◌∙◌, ap, subst₂}
use mathlib.Core.Logic.{◌⊎◌, inl, inr, ⊎_elim}
use mathlib.Core.List.{List}
use lib.ListN.{length, get_or}
use Rattle.plane.specs.declared.tile.Tile.{Tile}
use Rattle.plane.specs.Picture.{Picture, tiles, table, written, tile_words, before, number_from}
use Rattle.plane.specs.Strips.{RunOf, Box, Strip, Holds, Precedes, Strips}
use Rattle.plane.specs.Words.{count, width, height, kinds, word, tile_of, picture_of, Header, IsTable}
use Rattle.plane.specs.Plane.{Names, Stitched, Covered, Disjoint, Plane}
use Rattle.plane.proofs.Basics.{lt_or_ge}
use Rattle.plane.proofs.Lists.{precedes_irrefl}
use Rattle.plane.proofs.Tiling.{strips_are_tiles, tiles_strips, strip_one, tile_ext}
use Rattle.plane.proofs.Index.{nth, mem_nth, nth_mem, ordered_nth, number_first, number_none}
use Rattle.plane.proofs.ToTable.{shown}
use Rattle.plane.proofs.Tables.{written_length, written_count, written_word, written_rest}

-- ws is the table of the strips ts of a picture p, of which the types are in range
module _ (c : ℕ) (ws : List ℕ) (p : Picture) (ts : List Tile) (H : Header ws) (R : count ws ≤ c) (E : ws ≡ written c (width ws) (height ws) (kinds ws) ts) (S : Strips (width ws) (height ws) p ts) (K : (x y : ℕ) → x < width ws → y < height ws → p x y < kinds ws) where
  counts : count ws ≡ length ts
  counts = ap count E ∙ written_count c (width ws) (height ws) (kinds ws) ts

  below : (i : ℕ) → i < count ws → i < length ts
  below i u = omega (arith, counts)

  word_is : (i j : ℕ) → i < count ws → j < 9 → word ws i j ≡ get_or (tile_words ts (nth ts i)) j 0
  word_is i j u v = ap (λ (l : List ℕ). word l i j) E ∙ written_word c (width ws) (height ws) (kinds ws) ts i j (below i u) v

  pub tile_is : (i : ℕ) → i < count ws → tile_of ws i ≡ nth ts i
  unfolding tile_words
  tile_is i u = tile_ext (tile_of ws i) (nth ts i) (word_is i 0 u (omega arith)) (word_is i 1 u (omega arith)) (word_is i 2 u (omega arith)) (word_is i 3 u (omega arith)) (word_is i 4 u (omega arith))

  strip_at_lem : (i : ℕ) → i < count ws → Strip (width ws) (height ws) p (tile_of ws i)
  strip_at_lem i u = rw (tile_is i u) (S.each (nth ts i) (nth_mem ts i (below i u)))

  covers : Covered ws
  covers x y a b =
      let t = S.cover x y a b in
      let m = mem_nth ts t.1 in
      let u : m.0 < count ws = omega (arith, counts, m.1) in
      let e : tile_of ws m.0 ≡ t.0 = tile_is m.0 u ∙ sym m.2 in
      (m.0, u, rw e t.2)

  ones : Disjoint ws
  ones i j x y u v a b =
      let e : nth ts i ≡ nth ts j = sym (tile_is i u) ∙ (strip_one (strip_at_lem i u) (strip_at_lem j v) x y a b ∙ tile_is j v) in
      ⊎_elim
      (λ (s : i < j). absurd (precedes_irrefl (nth ts i) (nth ts j) e (ordered_nth ts S.ordered i j s (below j v))))
      (λ (s : j ≤ i). ⊎_elim
      (λ (r : j < i). absurd (precedes_irrefl (nth ts j) (nth ts i) (sym e) (ordered_nth ts S.ordered j i r (below i u))))
      (λ (r : i ≤ j). omega arith) (lt_or_ge j i))
      (lt_or_ge i j)

  number_names : (x y : ℕ) → x < width ws → y < height ws → Names ws (number_from 0 ts x y) x y
  number_names x y a b =
      let m = covers x y a b in
      let q : Holds (nth ts m.0) x y = rw (tile_is m.0 m.1) at m.2 in
      let e : number_from 0 ts x y ≡ m.0 = number_first 0 ts x y m.0 (below m.0 m.1) q (λ j v r.
      let w : j < count ws = omega (arith, m.1) in
      let i : j ≡ m.0 = ones j m.0 x y w m.1 (rw (tile_is j w) r) m.2 in omega arith) ∙ omega arith in
      rw e (record { counted = m.1; held = m.2 })

  number_out : (x y : ℕ) → (width ws ≤ x) ⊎ (height ws ≤ y) → number_from 0 ts x y ≡ 65535
  number_out x y o = number_none 0 ts x y (λ j v a.
      let bx = (S.each (nth ts j) (nth_mem ts j v)).box in
      ⊎_elim (λ s. omega (arith, a.to_right, bx.inside)) (λ s. omega (arith, a.to_top, bx.under)) o)

  before_of : (s b : ℕ) (g : ℕ → ℕ) → s ≡ before b g → (0 < b → s ≡ g (b - 1)) × (b ≤ 0 → s ≡ 65535)
  unfolding before
  before_of s zero g e = (λ a. absurd (omega arith), λ a. e)
  before_of s (suc b) g e = (λ a. e ∙ ap g (omega arith), λ a. absurd (omega arith))

  names_by : (s x y : ℕ) → s ≡ number_from 0 ts x y → x < width ws → y < height ws → Names ws s x y
  names_by s x y e a b = rw e (number_names x y a b)

  stitch : (i : ℕ) → i < count ws → Stitched ws i
  unfolding tile_words
  stitch i u =
      let q = tile_is i u in
      let bx = (strip_at_lem i u).box in
      let l : word ws i 0 ≡ (nth ts i).left = ap (λ (t : Tile). t.left) q in
      let b : word ws i 1 ≡ (nth ts i).bottom = ap (λ (t : Tile). t.bottom) q in
      let r : word ws i 2 ≡ (nth ts i).right = ap (λ (t : Tile). t.right) q in
      let t : word ws i 3 ≡ (nth ts i).top = ap (λ (t : Tile). t.top) q in
      let e₅ = before_of (word ws i 5) (word ws i 1) (λ y. number_from 0 ts (word ws i 0) y) (rw (l, b) (word_is i 5 u (omega arith))) in
      let e₆ = before_of (word ws i 6) (word ws i 0) (λ x. number_from 0 ts x (word ws i 1)) (rw (l, b) (word_is i 6 u (omega arith))) in
      let e₇ : word ws i 7 ≡ number_from 0 ts (word ws i 2) (word ws i 3 - 1) = rw (r, t) (word_is i 7 u (omega arith)) in
      let e₈ : word ws i 8 ≡ number_from 0 ts (word ws i 2 - 1) (word ws i 3) = rw (r, t) (word_is i 8 u (omega arith)) in
      record {
        lb = (λ a. names_by _ _ _ (e₅.0 a) (omega (arith, bx.wide, bx.inside)) (omega (arith, bx.tall, bx.under)), e₅.1);
        bl = (λ a. names_by _ _ _ (e₆.0 a) (omega (arith, bx.wide, bx.inside)) (omega (arith, bx.tall, bx.under)), e₆.1);
        tr = (λ a. names_by _ _ _ e₇ a (omega (arith, bx.tall, bx.under)), λ a. e₇ ∙ number_out (word ws i 2) (word ws i 3 - 1) (inl (omega arith)));
        rt = (λ a. names_by _ _ _ e₈ (omega (arith, bx.wide, bx.inside)) a, λ a. e₈ ∙ number_out (word ws i 2 - 1) (word ws i 3) (inr (omega arith)));
      }

  pub strips_plane : Plane ws
  strips_plane = record {
    sized = record { whole = omega (arith, ap length E, written_length c (width ws) (height ws) (kinds ws) ts (omega (arith, counts))) };
    header = H;
    boxes = record {
      box = λ i u. (strip_at_lem i u).box;
      type = λ i u. let s = strip_at_lem i u in
          rw (← ((s.rows (word ws i 1) (omega arith) s.box.tall).all (word ws i 0) (omega arith) s.box.wide))
          (K (word ws i 0) (word ws i 1) (omega (arith, s.box.wide, s.box.inside)) (omega (arith, s.box.tall, s.box.under)));
    };
    order = λ i u. let v : i < count ws = omega arith in subst₂ Precedes (sym (tile_is i v)) (sym (tile_is (suc i) u)) (ordered_nth ts S.ordered i (suc i) (omega arith) (below (suc i) u));
    cover = covers;
    one = ones;
    sides = λ i j u v y a e.
        let s = strip_at_lem i u in
        let t = strip_at_lem j v in
        let tj : word ws j 0 ≡ word ws i 2 = a.joins in
        (s.rows y a.low_s a.high_s).stop (omega (arith, t.box.wide, t.box.inside))
        ((t.rows y a.low_t a.high_t).all (word ws i 2) (omega arith) (omega (arith, t.box.wide)) ∙ sym e);
    apart = λ i j u v a.
        let s = strip_at_lem i u in
        let t = strip_at_lem j v in
        let f : word ws j 1 ≡ word ws i 3 = a.joins in
        let g : word ws j 0 ≡ word ws i 0 = a.left in
        let h : word ws j 2 ≡ word ws i 2 = a.right in
        let k : word ws j 4 ≡ word ws i 4 = a.kind in
        s.above (omega (arith, t.box.tall, t.box.under)) (rw (← g, ← h, ← k, ← f) (t.rows (word ws j 1) (omega arith) t.box.tall));
    stitches = stitch;
    rest = λ m u. ap (λ (l : List ℕ). get_or l m 0) E ∙ written_rest c (width ws) (height ws) (kinds ws) ts m (omega (arith, counts));
  }

pub table_plane : (c : ℕ) (ws : List ℕ) → IsTable c ws → Plane ws
unfolding table
table_plane c ws t = strips_plane c ws (picture_of ws) (tiles (width ws) (height ws) (picture_of ws)) t.header t.room t.same (tiles_strips (width ws) (height ws) (picture_of ws)) t.types

-- ---- the table of any picture is a table, and it shows the picture
agrees : (w h : ℕ) (p q : Picture) (ts : List Tile) → ((x y : ℕ) → x < w → y < h → p x y ≡ q x y) → Strips w h p ts → Strips w h q ts
agrees w h p q ts e S = record {
  ordered = S.ordered;
  each = λ t m. let s = S.each t m in let bx = s.box in
      record {
        box = bx;
        rows = λ y a b. run t y bx (omega (arith, bx.under)) (s.rows y a b);
        below = λ a r. s.below a (run' t (t.bottom - 1) bx (omega (arith, bx.tall, bx.under)) r);
        above = λ a r. s.above a (run' t t.top bx a r);
      };
  cover = S.cover;
}
  where
    run : (t : Tile) (y : ℕ) → Box w h t → y < h → RunOf w p t y → RunOf w q t y
    run t y bx u r = record {
      all = λ x a b. sym (e x y (omega (arith, bx.inside)) u) ∙ r.all x a b;
      start = λ a f. r.start a (e (t.left - 1) y (omega (arith, bx.wide, bx.inside)) u ∙ f);
      stop = λ a f. r.stop a (e t.right y a u ∙ f);
    }

    run' : (t : Tile) (y : ℕ) → Box w h t → y < h → RunOf w q t y → RunOf w p t y
    run' t y bx u r = record {
      all = λ x a b. e x y (omega (arith, bx.inside)) u ∙ r.all x a b;
      start = λ a f. r.start a (sym (e (t.left - 1) y (omega (arith, bx.wide, bx.inside)) u) ∙ f);
      stop = λ a f. r.stop a (sym (e t.right y a u) ∙ f);
    }

-- pictures that agree in the window have one table
pub tiles_agree : (w h : ℕ) (p q : Picture) → ((x y : ℕ) → x < w → y < h → p x y ≡ q x y) → tiles w h p ≡ tiles w h q
tiles_agree w h p q e = strips_are_tiles w h q (tiles w h p) (agrees w h p q (tiles w h p) e (tiles_strips w h p))

-- a table of a picture: the picture that the words show is that picture, in the window
pub shows : (c : ℕ) (ws : List ℕ) (p : Picture) → Header ws → count ws ≤ c → ws ≡ table c (width ws) (height ws) (kinds ws) p → ((x y : ℕ) → x < width ws → y < height ws → p x y < kinds ws) → (x y : ℕ) → x < width ws → y < height ws → picture_of ws x y ≡ p x y
unfolding table
shows c ws p H R E K x y a b =
    let w = width ws in
    let h = height ws in
    let S = tiles_strips w h p in
    let P = strips_plane c ws p (tiles w h p) H R E S K in
    let m = P.cover x y a b in
    shown ws P m.0 x y m.1 m.2 ∙
    sym (((strip_at_lem c ws p (tiles w h p) H R E S K m.0 m.1).rows y m.2.from_bottom m.2.to_top).all x m.2.from_left m.2.to_right)

pub picture_table : (c : ℕ) (ws : List ℕ) (p : Picture) → Header ws → count ws ≤ c → ws ≡ table c (width ws) (height ws) (kinds ws) p → ((x y : ℕ) → x < width ws → y < height ws → p x y < kinds ws) → IsTable c ws
unfolding table
picture_table c ws p H R E K =
    let w = width ws in
    let h = height ws in
    record {
      header = H;
      room = R;
      types = λ x y a b. rw (shows c ws p H R E K x y a b) (K x y a b);
      same = E ∙ ap (written c w h (kinds ws)) (tiles_agree w h p (picture_of ws) (λ x y a b. sym (shows c ws p H R E K x y a b)));
    }

-- a picture has one table for a room: two tables of one size that show the same picture are the same words
pub one_table : (c : ℕ) (ws vs : List ℕ) → IsTable c ws → IsTable c vs → width ws ≡ width vs → height ws ≡ height vs → kinds ws ≡ kinds vs → ((x y : ℕ) → x < width ws → y < height ws → picture_of ws x y ≡ picture_of vs x y) → ws ≡ vs
unfolding table
one_table c ws vs I J a b d agree =
    I.same
    ∙ (ap (written c (width ws) (height ws) (kinds ws)) (tiles_agree (width ws) (height ws) (picture_of ws) (picture_of vs) agree)
    ∙ ((λ i. table c (a i) (b i) (d i) (picture_of vs)) ∙ sym J.same))
