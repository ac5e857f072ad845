-- The rebuild against the specification: a table is what the rebuild is handed, its picture after is the painted or stamped one, and what is made of it is a table.
use Prim.Native.Nat.{ℕ, ◌+◌, ◌-◌, ◌*◌, ◌≤◌, ◌<◌}
use native.Mathlib.Omega.{arith}
use mathlib.Core.Path.{◌≡◌, refl, sym, ◌∙◌, ap, subst}
use mathlib.Core.Logic.{⊎_elim}
use mathlib.Core.List.{List}
use lib.ListN.{length, get_or}
use lib.Dec.{lit≤}
use Rattle.plane.specs.declared.tile.Area.{Area}
use Rattle.plane.specs.Picture.{Picture, area, in_area, painted, space, stamped, table, tiles, written}
use Rattle.plane.specs.Plane.{Plane}
use Rattle.plane.specs.Words.{InRange, IsTable, PictureTable, count, height, kinds, picture_of, room_in, width}
use Rattle.std.specs.Prelude.{Option, Some, None}
use Rattle.std.proofs.lemmas.Nat.Bits.{bit_at-lt}
use Rattle.brush.specs.declared.brush.Brush.{Brush}
use Rattle.brush.specs.declared.brush.Ink.{Ink}
use Rattle.brush.specs.declared.brush.Ink.TheVariants.{Flat as OneType, Bits}
use Rattle.strips.specs.Cover.{AllBuilt, Built}
use Rattle.brush.specs.Brush.{KindsBelow, after, goal, ink_at}
use Rattle.tables.specs.Like.{table_like}
use Rattle.tables.specs.Tables.{MayPaint, Paintable, PaintedOver, Repainted, TilesAfter, TilesFit, Unpainted}
use Rattle.plane.proofs.Basics.{bool_cases}
use Rattle.plane.proofs.FromTable.{picture_table, shows, table_plane}
use Rattle.plane.proofs.Index.{mem_nth}
use Rattle.plane.proofs.Tables.{written_count, written_height, written_kinds, written_length, written_width}
use Rattle.plane.proofs.Tiling.{tiles_strips}
use Rattle.tables.proofs.Finish.{built_number}

-- ---- a table, as the rebuild takes it
-- a table's length is its room's
pub table_words : (c w h k : ℕ) (p : Picture) → length (tiles w h p) ≤ c → length (table c w h k p) ≡ 4 + 9 * c
unfolding table
table_words c w h k p u = written_length c w h k (tiles w h p) u

pub table_length : {c : ℕ} {ws : List ℕ} → IsTable c ws → length ws ≡ 4 + 9 * c
unfolding table
table_length {c} {ws} T =
    let ts = tiles (width ws) (height ws) (picture_of ws) in
    let e = ap count T.same ∙ written_count c (width ws) (height ws) (kinds ws) ts in
    ap length T.same ∙ written_length c (width ws) (height ws) (kinds ws) ts (omega (arith, e, T.room))

-- a table has the numbers that it was made with
pub table_size : (c w h k : ℕ) (p : Picture) → (width (table c w h k p) ≡ w) × (height (table c w h k p) ≡ h) × (kinds (table c w h k p) ≡ k)
unfolding table
table_size c w h k p = (written_width c w h k (tiles w h p), written_height c w h k (tiles w h p), written_kinds c w h k (tiles w h p))

-- what may be painted is a plane, of that room
pub may_plane : {c : ℕ} {ws : List ℕ} {b : Brush} → MayPaint c ws b → Plane ws
may_plane {c} {ws} M = table_plane c ws M.table

pub paintable_plane : {c : ℕ} {ws : List ℕ} {a : Area} → Paintable c ws a → Plane ws
paintable_plane {c} {ws} P = table_plane c ws P.table

pub may_room : {c : ℕ} {ws : List ℕ} {b : Brush} → MayPaint c ws b → (length ws ≡ 4 + 9 * c) × (count ws ≤ c) × (c ≤ 3600)
may_room M = (table_length M.table, M.table.room, M.small)

pub table_rooms : {c : ℕ} {ws : List ℕ} → IsTable c ws → (4 + 9 * c ≤ length ws) × (count ws ≤ c)
table_rooms T = (omega (arith, table_length T), T.room)

-- ---- a picture's table is a table
-- every window has a tile
some_tile : (w h : ℕ) (q : Picture) → 1 ≤ w → 1 ≤ h → 1 ≤ length (tiles w h q)
some_tile w h q a b = let d = (tiles_strips w h q).cover 0 0 a b in let m = mem_nth (tiles w h q) d.1 in omega (arith, m.1)

pub made_table : (c w h k : ℕ) (q : Picture) (vs : List ℕ) → vs ≡ table c w h k q → length (tiles w h q) ≤ c → InRange w h k → ((x y : ℕ) → x < w → y < h → q x y < k) → IsTable c vs
unfolding table
made_table c w h k q vs e r R f =
    let ts = tiles w h q in
    let a = some_tile w h q R.wide R.tall in
    let n : count vs ≡ length ts = ap count e ∙ written_count c w h k ts in
    let x : width vs ≡ w = ap width e ∙ written_width c w h k ts in
    let y : height vs ≡ h = ap height e ∙ written_height c w h k ts in
    let z : kinds vs ≡ k = ap kinds e ∙ written_kinds c w h k ts in
    picture_table c vs q
    (record { some = omega arith; sizes = record { wide = omega (arith, R); wide_most = omega (arith, R); tall = omega (arith, R); tall_most = omega (arith, R); two = omega (arith, R); sixteen = omega (arith, R) } })
    (omega arith)
    (e ∙ ap (λ (m : ℕ). written c m h k (tiles m h q)) (sym x) ∙ ap (λ (m : ℕ). written c (width vs) m k (tiles (width vs) m q)) (sym y) ∙ ap (λ (m : ℕ). written c (width vs) (height vs) m (tiles (width vs) (height vs) q)) (sym z))
    (λ i j u v. subst (λ (m : ℕ). q i j < m) (sym z) (f i j (omega arith) (omega arith)))

-- the same for another picture of a table's window and types
pub like_table : {c : ℕ} {ws : List ℕ} (q : Picture) (vs : List ℕ) → IsTable c ws → vs ≡ table c (width ws) (height ws) (kinds ws) q → length (tiles (width ws) (height ws) q) ≤ c
    → ((x y : ℕ) → x < width ws → y < height ws → q x y < kinds ws) → IsTable c vs
like_table {c} {ws} q vs I e u f = made_table c (width ws) (height ws) (kinds ws) q vs e u I.header.sizes f

-- ---- the types of the pictures after are in range
pub painted_types : {c : ℕ} {ws : List ℕ} (a : Area) (kind : ℕ) → IsTable c ws → kind < kinds ws → (x y : ℕ) → x < width ws → y < height ws → painted (picture_of ws) a kind x y < kinds ws
unfolding painted
painted_types a kind I k x y u v = ⊎_elim (λ e. rw e k) (λ e. rw e (I.types x y u v)) (bool_cases (in_area a x y))

pub stamped_types : {c : ℕ} {ws : List ℕ} (a : Area) (rows : List ℕ) → IsTable c ws → (x y : ℕ) → x < width ws → y < height ws → stamped (picture_of ws) a rows x y < kinds ws
unfolding stamped
stamped_types {ws = ws} a rows I x y u v =
    let b : 2 ≤ kinds ws = I.header.sizes.two in
    ⊎_elim (λ e. rw e (omega arith)) (λ e. rw e (I.types x y u v)) (bool_cases (in_area a x y))

-- and so are those that a brush gives
ink_types : {k : ℕ} (i : Ink) (a : Area) → 2 ≤ k → KindsBelow i k → (x y : ℕ) → ink_at i a x y < k
unfolding ink_at
ink_types (OneType kind) a t u x y = u
ink_types (Bits rows) a t u x y = omega (arith, bit_at-lt (get_or rows (y - a.y1) 0) (x - a.x1))

after_types : {c : ℕ} {ws : List ℕ} {b : Brush} → MayPaint c ws b → (x y : ℕ) → x < width ws → y < height ws → goal ws b x y < kinds ws
unfolding after
after_types {ws = ws} {b = b} M x y u v =
    ⊎_elim (λ e. rw e (ink_types b.ink b.area M.table.header.sizes.two M.type x y)) (λ e. rw e (M.table.types x y u v)) (bool_cases (in_area b.area x y))

-- ---- what the rebuild makes: a table
pub painted_done : {c r : ℕ} {ws us vs : List ℕ} {b : Brush} → MayPaint c ws b → AllBuilt (width ws) (height ws) (goal ws b) c us r
    → vs ≡ table c (width ws) (height ws) (kinds ws) (goal ws b) → Repainted c ws (goal ws b) vs r
painted_done {ws = ws} {vs = vs} {b = b} M B e = record {
  room = B.few;
  number = built_number B;
  done = e;
  sound = like_table (goal ws b) vs M.table e (omega (arith, built_number B, B.few)) (after_types M);
}

-- ---- a brush of one type, and one of bits
pub after_painted : (p : Picture) (a : Area) (kind : ℕ) → after p (record { area = a; ink = OneType kind }) ≡ painted p a kind
unfolding after ink_at painted
after_painted p a kind = refl

pub after_stamped : (p : Picture) (a : Area) (rows : List ℕ) → after p (record { area = a; ink = Bits rows }) ≡ stamped p a rows
unfolding after ink_at stamped
after_stamped p a rows = refl

pub painted_as : (c : ℕ) (ws vs : List ℕ) {q s : Picture} (r : Option ℕ) → q ≡ s → PaintedOver c ws q vs r → PaintedOver c ws s vs r
painted_as c ws vs r e P = subst (λ (p : Picture). PaintedOver c ws p vs r) e P

-- ---- how many tiles
-- a table that was made has so many, or it had no room for them
pub tiles_of_lem : (c : ℕ) (ws vs : List ℕ) (q : Picture) (r : Option ℕ) → PaintedOver c ws q vs r → TilesAfter c ws q r
tiles_of_lem c ws vs q (Some n) P = record { room = P.room; number = P.number }
tiles_of_lem c ws vs q None P = P.full

-- and so have the tiles of the rebuild
pub tiles_as : (c : ℕ) (ws vs : List ℕ) {p q : Picture} (r : Option ℕ) → p ≡ q → Built (width ws) (height ws) p c vs r → TilesAfter c ws q r
tiles_as c ws vs {p} {q} r e B = subst (λ (s : Picture). TilesAfter c ws s r) e (counted r B)
  where
    counted : (m : Option ℕ) → Built (width ws) (height ws) p c vs m → TilesAfter c ws p m
    counted (Some n) C = record { room = C.few; number = built_number C }
    counted None C = C

-- ---- the table of a picture after, if it has room
pub painted_table : {c : ℕ} {ws : List ℕ} (a : Area) (k : ℕ) → IsTable c ws → k < kinds ws → length (tiles (width ws) (height ws) (painted (picture_of ws) a k)) ≤ c
    → IsTable c (table c (width ws) (height ws) (kinds ws) (painted (picture_of ws) a k))
painted_table {ws = ws} a k I u r = like_table (painted (picture_of ws) a k) _ I refl r (painted_types a k I u)

pub stamped_table : {c : ℕ} {ws : List ℕ} (a : Area) (rows : List ℕ) → IsTable c ws → length (tiles (width ws) (height ws) (stamped (picture_of ws) a rows)) ≤ c
    → IsTable c (table c (width ws) (height ws) (kinds ws) (stamped (picture_of ws) a rows))
stamped_table {ws = ws} a rows I r = like_table (stamped (picture_of ws) a rows) _ I refl r (stamped_types a rows I)

-- a table of a room is one of the same room, written otherwise
pub table_at : {c d : ℕ} {ws : List ℕ} → c ≡ d → IsTable c ws → IsTable d ws
table_at {ws = ws} e T = subst (λ (n : ℕ). IsTable n ws) e T

-- a table of some room is a picture's table, for the room that its words have
pub as_picture : {c : ℕ} {ws : List ℕ} → IsTable c ws → PictureTable ws
as_picture {c} {ws} T = let e : c ≡ room_in (length ws) = omega (arith, table_length T) in table_at e T

-- ---- a table painted
-- the room of a table that can be painted is the one that its words have
pub paintable_room : {c : ℕ} {ws : List ℕ} {a : Area} → Paintable c ws a → c ≡ room_in (length ws)
paintable_room P = omega (arith, table_length P.table)

-- what had room once has it again
pub again_fits : {c r : ℕ} {ws zs : List ℕ} {q : Picture} → TilesFit c ws q r → Unpainted c ws q zs → ⊥
again_fits P Q = omega (arith, P.room, P.number, Q.full)

-- where it has room, it is the picture's table
pub made : {c r : ℕ} {ws vs : List ℕ} {q : Picture} → c ≡ room_in (length ws) → Repainted c ws q vs r → vs ≡ table_like ws q
made {ws = ws} {q = q} e P = P.done ∙ ap (λ (n : ℕ). table n (width ws) (height ws) (kinds ws) q) e

-- a picture's table shows that picture in its window
pub made_shows : (c w h k : ℕ) (q : Picture) (vs : List ℕ) → vs ≡ table c w h k q → length (tiles w h q) ≤ c → InRange w h k → ((x y : ℕ) → x < w → y < h → q x y < k)
    → (x y : ℕ) → x < w → y < h → picture_of vs x y ≡ q x y
made_shows c w h k q vs e r R f x y u v =
    let T = made_table c w h k q vs e r R f in
    let s = table_size c w h k q in
    let a : width vs ≡ w = ap width e ∙ s.0 in
    let b : height vs ≡ h = ap height e ∙ s.1 in
    let d : kinds vs ≡ k = ap kinds e ∙ s.2 in
    shows c vs q T.header T.room (e ∙ (λ i. table c (sym a i) (sym b i) (sym d i) q)) (λ i j m n. subst (λ (z : ℕ). q i j < z) (sym d) (f i j (omega arith) (omega arith))) x y (omega arith) (omega arith)

-- ---- the contracts' `requires` can be met: the worked example is a table
pub worked_table : IsTable 3 (table 3 4 2 2 (painted space (area 1 0 2 2) 1))
unfolding tiles painted
worked_table = made_table 3 4 2 2 (painted space (area 1 0 2 2) 1) (table 3 4 2 2 (painted space (area 1 0 2 2) 1)) refl
    (lit≤ tt) (record { wide = lit≤ tt; wide_most = lit≤ tt; tall = lit≤ tt; tall_most = lit≤ tt; two = lit≤ tt; sixteen = lit≤ tt }) low
  where
    low : (x y : ℕ) → x < 4 → y < 2 → painted space (area 1 0 2 2) 1 x y < 2
    low x y u v = ⊎_elim (λ e. rw e (lit≤ tt)) (λ e. rw e (lit≤ tt)) (bool_cases (in_area (area 1 0 2 2) x y))
