-- The marks and the errors of one piece: what the steps of marking them are handed and what they make. A calm piece has no mark; where the errors show a piece's marks already, they stay.
use Prim.Native.Nat.{ℕ, zero, suc, ◌+◌, ◌-◌, ◌*◌, ◌≤◌, ◌<◌, min}
use native.Mathlib.Omega.{arith}
use mathlib.Core.Bool.{Bool, true, cond}
use mathlib.Core.Path.{◌≡◌, refl, sym, ◌∙◌, ap, subst}
use mathlib.Core.List.{List}
use lib.Dec.{leb}
use Rattle.std.specs.Prelude.{Option, Some, None}
use Rattle.std.specs.Option.{is_some}
use lib.ListN.{length, get_or, replicate, length-replicate}
use lib.Pow.{pow_pos, shr_le}
use borrow.Author.Tests.{le-leb, lt-leb}
use Rattle.plane.specs.declared.tile.Area.{Area}
use Rattle.plane.specs.Area.{AreaIn}
use Rattle.plane.specs.Picture.{Picture, bit_of, stamped, table, tiles, written}
use Rattle.plane.specs.Plane.{Plane}
use Rattle.plane.specs.Words.{IsTable, count, height, kinds, picture_of, room_in, width}
use Rattle.plane.proofs.FromTable.{table_plane, tiles_agree}
use Rattle.plane.proofs.Tables.{written_count}
use Rattle.brush.specs.Brush.{Small}
use Rattle.tables.specs.Like.{table_like}
use Rattle.tables.specs.Tables.{Paintable, PaintedOver}
use Rattle.tables.proofs.Whole.{table_at, made, paintable_room}
use Rattle.rules.specs.Words.{halo_of, rules_of}
use Rattle.rules.proofs.Vetted.{all_apart}
use Rattle.rules.proofs.Window.{area_of}
use Rattle.piece.specs.Calm.{Calm}
use Rattle.piece.specs.Remark.{BlockIn, Checkable, near_area, near_block, remarked}
use Rattle.piece.specs.Rows.{PieceRows}
use Rattle.piece.specs.Shown.{Readable, ShowsRows}
use Rattle.piece.proofs.Calms.{calm_free}
use Rattle.piece.proofs.Remarks.{block_in, halo_in, near_in, near_same, near_small, rules_near, stamped_piece}
use Rattle.piece.proofs.ShownRows.{shown_stamped}
use Rattle.remark.specs.Marking.{MarkIn, Remade, errors_near}
use Rattle.sheet.proofs.Shapes.{marks_area}

-- ---- the marks of a calm piece
-- they are rows of zeros
pub calm_rows : {ms rules : List ℕ} {used k bx by : ℕ} → Checkable ms rules used k bx by → Calm (width ms) (height ms) (picture_of ms) k bx by
    → PieceRows (width ms) (height ms) (picture_of ms) (rules_of rules used) k bx by (replicate 48 0)
calm_rows {ms} {rules} {used} {k} {bx} {by} K C = record {
  long = length-replicate {A = ℕ} 48 0;
  mark = λ x y a b c d.
      let i : near_block k bx by x y ≡ true = sym (near_same (width ms) (height ms) k bx by x y (omega arith) (omega arith))
      ∙ area_of (near_area (width ms) (height ms) k bx by) x y (record { left_of = a; right_of = b; low = c; high = d }) in
      unset (get_or (replicate 48 0) (y - (16 * by - k)) 0) (x - (16 * bx - k)) (none 48 (y - (16 * by - k)))
      ∙ sym (ap (λ (z : Bool). cond {A = ℕ} z 1 0) (calm_free C (halo_in K) x y i (rules_of rules used) (rules_near K) (all_apart rules used (kinds ms) K.sound)));
  narrow = λ i u. omega (arith, none 48 i, pow_pos (min (width ms) (16 * bx + 16 + k) - (16 * bx - k)));
  rest = λ i u. none 48 i;
}
  where
    none : (n i : ℕ) → ◌≡◌ {A = ℕ} (get_or (replicate n 0) i 0) 0
    none zero i = refl
    none (suc n) zero = refl
    none (suc n) (suc i) = none n i

    unset : (n j : ℕ) → n ≡ 0 → bit_of n j ≡ 0
    unset n j f = omega (arith, shr_le n j)

-- ---- tables and pictures
-- a table painted over where it has room
pub remade : {c n : ℕ} {ws : List ℕ} {a : Area} {q : Picture} (vs : List ℕ) (u : Unit {0}) → Paintable c ws a → PaintedOver c ws q vs (Some n) → Remade ws q (Some u) vs
remade {c} {n} {ws} {a} {q} vs u T P = record { fits = sym (le-leb (length (tiles (width ws) (height ws) q)) (room_in (length ws)) (omega (arith, P.number, P.room, paintable_room T))); leaves = made (paintable_room T) P }

-- or left as it was where it has none
pub unmade : {c : ℕ} {ws : List ℕ} {a : Area} {q : Picture} (vs : List ℕ) → Paintable c ws a → PaintedOver c ws q vs None → Remade ws q None vs
unmade {c} {ws} {a} {q} vs T P = record { fits = sym (lt-leb (length (tiles (width ws) (height ws) q)) (room_in (length ws)) (omega (arith, P.full, paintable_room T))); leaves = P.stays }

-- a table has its picture's tiles
pub count_tiles : {c : ℕ} {ws : List ℕ} → IsTable c ws → count ws ≡ length (tiles (width ws) (height ws) (picture_of ws))
unfolding table
count_tiles {c} {ws} T = ap count T.same ∙ written_count c (width ws) (height ws) (kinds ws) (tiles (width ws) (height ws) (picture_of ws))

-- pictures that agree in the window have one table
pub like_agree : (ws : List ℕ) {p q : Picture} → ((x y : ℕ) → x < width ws → y < height ws → p x y ≡ q x y) → table_like ws p ≡ table_like ws q
unfolding table
like_agree ws {p} {q} f = ap (written (room_in (length ws)) (width ws) (height ws) (kinds ws)) (tiles_agree (width ws) (height ws) p q f)

agree_to : {ws vs : List ℕ} {r : Option (Unit {0})} {p q : Picture} → ((x y : ℕ) → x < width ws → y < height ws → p x y ≡ q x y) → Remade ws p r vs → Remade ws q r vs
agree_to {ws} {vs} {r} {p} {q} f R = record {
  fits = R.fits ∙ ap (λ (n : ℕ). leb n (room_in (length ws))) (ap length (tiles_agree (width ws) (height ws) p q f));
  leaves = R.leaves ∙ ap (λ (z : List ℕ). cond (is_some r) z ws) (like_agree ws f);
}

-- a table shows its own picture
itself : {ws : List ℕ} (u : Unit {0}) → IsTable (room_in (length ws)) ws → Remade ws (picture_of ws) (Some u) ws
itself {ws} u T = record { fits = sym (le-leb (length (tiles (width ws) (height ws) (picture_of ws))) (room_in (length ws)) (omega (arith, count_tiles T, T.room))); leaves = T.same }

-- ---- what the steps are handed
module _ {ms es work rules : List ℕ} {used bx by : ℕ} (P : MarkIn ms es work rules used bx by) where
  pub piece_checkable : {k : ℕ} → k ≡ halo_of rules used → Checkable ms rules used k bx by
  piece_checkable e = record {
    plane = table_plane (room_in (length ms)) ms P.table;
    listed = P.list;
    sound = P.sound;
    halo = e;
    column = P.column;
    row = P.row;
  }

  pub piece_block : BlockIn (width ms) (height ms) bx by
  piece_block = block_in (piece_checkable refl)

  pub piece_halo : {k : ℕ} → k ≡ halo_of rules used → k ≤ 16
  piece_halo e = halo_in (piece_checkable e)

  pub errors_plane : Plane es
  errors_plane = table_plane (room_in (length es)) es P.marks.table

  pub errors_area : {a : Area} (k : ℕ) → a ≡ near_area (width ms) (height ms) k bx by → AreaIn (width es) (height es) a
  errors_area k f = marks_area P.marks (subst (λ (b : Area). AreaIn (width ms) (height ms) b) (sym f) (near_in k piece_block))

  pub errors_paintable : {c : ℕ} {a : Area} (k : ℕ) → c ≡ room_in (length ms) → a ≡ near_area (width ms) (height ms) k bx by → Paintable c es a
  errors_paintable k e f = record {
    table = table_at (ap room_in P.long ∙ sym e) P.marks.table;
    small = omega (arith, P.sized.most);
    area = errors_area k f;
  }

  pub errors_small : {k : ℕ} {a : Area} → k ≡ halo_of rules used → a ≡ near_area (width ms) (height ms) k bx by → Small a
  errors_small {k} e f =
      let s = piece_halo e in
      subst (λ (b : Area). Small b) (sym f) (record { columns = near_small (width ms) k bx s; rows = near_small (height ms) k by s })

  pub errors_readable : {k : ℕ} {a : Area} → k ≡ halo_of rules used → a ≡ near_area (width ms) (height ms) k bx by → Readable es a
  errors_readable {k} e f = let s = errors_small e f in record { plane = errors_plane; two = P.marks.two; inside = errors_area k f; columns = s.columns; rows = s.rows }

  -- ---- what they make
  module _ {k : ℕ} {a : Area} {rows : List ℕ} (e : k ≡ halo_of rules used) (f : a ≡ near_area (width ms) (height ms) k bx by)
      (R : PieceRows (width ms) (height ms) (picture_of ms) (rules_of rules used) k bx by rows) where
    -- the piece's errors, for k as for the halo
    for_halo : remarked (width ms) (height ms) (picture_of ms) (rules_of rules used) k bx by (picture_of es) ≡ errors_near ms es rules used bx by
    for_halo = ap {B = Picture} (λ (n : ℕ). remarked (width ms) (height ms) (picture_of ms) (rules_of rules used) n bx by (picture_of es)) e

    -- the area with the rows stamped is the piece's
    pub as_errors : {r : Option (Unit {0})} {vs : List ℕ} → Remade es (stamped (picture_of es) a rows) r vs → Remade es (errors_near ms es rules used bx by) r vs
    as_errors {r} {vs} W =
        let M = P.marks in
        subst (λ (q : Picture). Remade es q r vs) for_halo
        (agree_to (λ x y u v. ap (λ (b : Area). stamped (picture_of es) b rows x y) f ∙ stamped_piece (picture_of es) R x y (omega (arith, M.wide)) (omega (arith, M.tall))) W)

    -- where the errors show its rows already, they stay
    pub errors_stay : (u : Unit {0}) → ShowsRows (picture_of es) a rows → Remade es (errors_near ms es rules used bx by) (Some u) es
    errors_stay u S = as_errors (agree_to (λ x y u v. sym (shown_stamped (picture_of es) a rows S x y)) (itself u P.marks.table))

    -- the same of the words and of the room, with the test as a premise, as `remark` looks for them
    pub kept_words : {b : Bool} → (b ≡ true → ShowsRows (picture_of es) a rows) → b ≡ true → table_like es (errors_near ms es rules used bx by) ≡ es
    kept_words S t = sym (errors_stay tt (S t)).leaves

    pub kept_room : {b : Bool} → (b ≡ true → ShowsRows (picture_of es) a rows) → b ≡ true → leb (length (tiles (width es) (height es) (errors_near ms es rules used bx by))) (room_in (length es)) ≡ true
    kept_room S t = sym (errors_stay tt (S t)).fits
