-- What is built: the strips in order that begin in the row above the area or lower, and behind them the tiles of the table that begin higher, are all the strips of the picture after, and so its tiles.
use Prim.Native.Nat.{ℕ, suc, ◌+◌, ◌-◌, ◌≤◌, ◌<◌, min, max}
use native.Mathlib.Omega.{arith}
use mathlib.Core.Path.{◌≡◌, sym, ◌∙◌, ap, subst}
use mathlib.Core.Logic.{inl, ⊎_elim}
use mathlib.Core.List.{List, ◌++◌}
use lib.ListN.{length, length-append}
use Rattle.plane.specs.declared.tile.Tile.{Tile}
use Rattle.plane.specs.Picture.{tiles}
use Rattle.plane.specs.Strips.{Holds, Strip, Strips}
use Rattle.plane.specs.Words.{count, height, picture_of, tile_of, up_to, width}
use Rattle.brush.specs.declared.brush.Brush.{Brush}
use Rattle.brush.specs.Brush.{Given, goal}
use Rattle.strips.specs.Cover.{AllBuilt, AllUnder, CoveredBy, Grown, Kept, LowTo, TooMany, Untouched, ZoneCovered, above_it, left_of, right_of}
use Rattle.slots.specs.Slots.{Appended, Has}
use Rattle.plane.proofs.Basics.{lt_or_ge}
use Rattle.plane.proofs.Index.{length_up_to, mem_up_to, ordered_up_to, up_to_append, up_to_mem}
use Rattle.plane.proofs.Lists.{ordered_append}
use Rattle.plane.proofs.Tiling.{strip_one, strips_are_tiles, tiles_strips}
use Rattle.strips.proofs.Grows.{grown_covered, grown_has}
use Rattle.strips.proofs.Stays.{after_agrees, agree_back, apart_strip, high_number, holds_at, keep_apart, kept_low, low_number, own_corner, strip_at_lem}
use mathlib.Core.List.Memᴰ

-- the tiles of a table from j on
abbrev tile_from : List ℕ → ℕ → ℕ → Tile
tile_from ws j i = tile_of ws (j + i)

-- ---- the area and what is beside it covered: with the tiles that begin higher, all is
module _ {ws us vs : List ℕ} {b : Brush} {j k m : ℕ} (I : Given ws b) (L : LowTo ws b.area j) (K : Kept ws b us j k)
    (G : Grown (width ws) (height ws) (goal ws b) (min (b.area.y2 + 1) (height ws)) us k vs m)
    (Z : (i z : ℕ) → b.area.x1 - 1 ≤ i → i < min (b.area.x2 + 1) (width ws) → z < min (b.area.y2 + 1) (height ws) → CoveredBy vs m i z) where
  -- a strip that the area does not touch is a tile of the table
  was_in : {g : Tile} → Strip (width ws) (height ws) (goal ws b) g → Untouched g b.area → Has ws (count ws) g
  was_in {g} B A =
      let S = apart_strip (agree_back b.area (after_agrees (picture_of ws) b)) A B in
      let d = I.shown.cover g.left g.bottom (omega (arith, B.box)) (omega (arith, B.box)) in
      (d.0, d.1, strip_one (I.shown.each d.0 d.1) S g.left g.bottom d.2 (own_corner S))

  -- so, if it begins low, it was kept
  stays_in : {g : Tile} → Strip (width ws) (height ws) (goal ws b) g → Untouched g b.area → g.bottom ≤ b.area.y2 → Has vs m g
  stays_in {g} B A o =
      let d = was_in B A in
      let r = K.apart d.0 (low_number L d.0 d.1 (omega (arith, ap (λ (t : Tile). t.bottom) d.2))) (subst (λ (t : Tile). Untouched t b.area) (sym d.2) A) in
      grown_has G (r.0, r.1, r.2 ∙ d.2)

  is_in : {g : Tile} (x y : ℕ) → Strip (width ws) (height ws) (goal ws b) g → Holds g x y → CoveredBy vs m x y → Has vs m g
  is_in x y B H r = (r.0, r.1, strip_one (G.part.each r.0 r.1) B x y r.2 H)

  -- all strips that begin low are there
  low_in : {g : Tile} → Strip (width ws) (height ws) (goal ws b) g → g.bottom ≤ b.area.y2 → Has vs m g
  low_in {g} B v =
      ⊎_elim (λ (u : g.bottom < b.area.y1). is_in g.left g.bottom B (own_corner B)
      (grown_covered G g.left g.bottom (kept_low I L K g.left g.bottom (omega (arith, B.box)) (omega (arith, B.box)) u)))
      (λ (u : b.area.y1 ≤ g.bottom). ⊎_elim (λ (o : g.right < b.area.x1). stays_in B (left_of o) v)
      (λ (o : b.area.x1 ≤ g.right). ⊎_elim (λ (c : b.area.x2 < g.left). stays_in B (right_of c) v)
      (λ (c : g.left ≤ b.area.x2). is_in (max g.left (b.area.x1 - 1)) g.bottom B (omega (arith, B.box, I.brush))
      (Z (max g.left (b.area.x1 - 1)) g.bottom (omega arith) (omega (arith, B.box, I.brush)) (omega (arith, B.box))))
      (lt_or_ge b.area.x2 g.left))
      (lt_or_ge g.right b.area.x1))
      (lt_or_ge g.bottom b.area.y1)

  -- and the others are the tiles of the table that begin higher
  high_in : {g : Tile} → Strip (width ws) (height ws) (goal ws b) g → b.area.y2 < g.bottom → (i : ℕ) × (i < count ws - j) × (tile_from ws j i ≡ g)
  high_in {g} B v =
      let d = was_in B (above_it v) in
      let o = high_number L d.0 (omega (arith, ap (λ (t : Tile). t.bottom) d.2)) in
      let e : j + (d.0 - j) ≡ d.0 = omega arith in
      (d.0 - j, omega (arith, d.1), ap (tile_of ws) e ∙ d.2)

  -- what is there begins low: it was kept, or it was put in for a square of the zone
  all_low : (i : ℕ) → i < m → (tile_of vs i).bottom ≤ b.area.y2
  all_low i u = ⊎_elim
      (λ v. omega arith)
      (λ r. let d = K.from r.0 r.1 in omega (arith, L.low d.0 d.1, d.2.bottom, ap (λ (t : Tile). t.bottom) r.2))
      (G.only i u)

  all_strips : Strips (width ws) (height ws) (goal ws b) (up_to m (tile_of vs) ++ up_to (count ws - j) (tile_from ws j))
  all_strips = record {
    ordered = ordered_append (up_to m (tile_of vs)) (up_to (count ws - j) (tile_from ws j))
        (ordered_up_to m (tile_of vs) (λ i u. G.part.order i (suc i) (omega arith) u))
        (ordered_up_to (count ws - j) (tile_from ws j) (λ i u. I.shown.order (j + i) (j + suc i) (omega arith) (omega arith)))
        (λ s t d e.
        let r = up_to_mem m (tile_of vs) d in
        let o = up_to_mem (count ws - j) (tile_from ws j) e in
        inl (omega (arith, all_low r.0 r.1, L.high (j + o.0) (omega arith) (omega (arith, o.1)), ap (λ (t : Tile). t.bottom) r.2, ap (λ (t : Tile). t.bottom) o.2)));
    each = λ t e. ⊎_elim
        (λ d. let r = up_to_mem m (tile_of vs) d in strip_at_lem r.2 (G.part.each r.0 r.1))
        (λ d.
        let r = up_to_mem (count ws - j) (tile_from ws j) d in
        let o : j + r.0 < count ws = omega (arith, r.1) in
        keep_apart b (I.shown.each (j + r.0) o) r.2 (above_it (L.high (j + r.0) (omega arith) o)))
        (Memᴰ.append_cases (up_to m (tile_of vs)) e);
    cover = λ x y hx hy.
        let T = tiles_strips (width ws) (height ws) (goal ws b) in
        let d = T.cover x y hx hy in
        let B = T.each d.0 d.1 in
        ⊎_elim
        (λ (u : b.area.y2 < d.0.bottom).
        let r = high_in B u in
        (tile_from ws j r.0, Memᴰ.append_right (up_to m (tile_of vs)) (mem_up_to (count ws - j) (tile_from ws j) r.0 r.1), holds_at r.2 d.2))
        (λ (u : d.0.bottom ≤ b.area.y2).
        let r = low_in B u in
        (tile_of vs r.0, Memᴰ.append_left (up_to (count ws - j) (tile_from ws j)) (mem_up_to m (tile_of vs) r.0 r.1), holds_at r.2 d.2))
        (lt_or_ge b.area.y2 d.0.bottom);
  }

  all_built : up_to m (tile_of vs) ++ up_to (count ws - j) (tile_from ws j) ≡ tiles (width ws) (height ws) (goal ws b)
  all_built = strips_are_tiles (width ws) (height ws) (goal ws b) _ all_strips

pub kept_under : {ws us : List ℕ} {b : Brush} {j k : ℕ} → Given ws b → LowTo ws b.area j → Kept ws b us j k → AllUnder us k (width ws) b.area.y1
kept_under I L K i z u v = kept_low I L K i z u (omega (arith, I.brush)) v

-- the two ends of the rebuild that leave the zone covered: no room for the tiles that begin higher, and room for all
module _ {ws us vs : List ℕ} {b : Brush} {j k m room : ℕ} (I : Given ws b) (L : LowTo ws b.area j) (K : Kept ws b us j k)
    (C : ZoneCovered (width ws) (height ws) (goal ws b) room us k (b.area.x1 - 1) (min (b.area.x2 + 1) (width ws)) (min (b.area.y2 + 1) (height ws)) vs m) where
  module _ {n i : ℕ} (e : n ≡ count ws) (f : i ≡ j) where
    whole : up_to m (tile_of vs) ++ up_to (n - i) (tile_from ws i) ≡ tiles (width ws) (height ws) (goal ws b)
    whole = rw (e, f) (all_built I L K C.grown C.zone)

    pub built_over : room < m + (n - i) → TooMany (width ws) (height ws) (goal ws b) room
    built_over o = omega (arith, ap length whole, length-append (up_to m (tile_of vs)) (up_to (n - i) (tile_from ws i)), length_up_to m (tile_of vs), length_up_to (n - i) (tile_from ws i))

    pub built_all : {xs : List ℕ} → m + (n - i) ≤ room → Appended ws i n vs m xs → AllBuilt (width ws) (height ws) (goal ws b) room xs (m + (n - i))
    built_all {xs} o A = record { few = o; built = up_to_append m (n - i) (tile_of xs) (tile_of vs) (tile_from ws i) A.old (λ k w. A.new k (omega arith)) ∙ whole }
