-- A row of pieces in one sweep. While its errors are marked nothing is cleared in waiting, so the layout that the run has come to stands nowhere in memory: it is `swept_to`, with the row's first pieces cleared.
-- Each piece marked is the lowest of that layout, and has room in waiting since a sweep adds at most 32 tiles; in the end the row is cleared at once, which makes that layout.
use Prim.Native.Nat.{ℕ, ◌+◌, ◌-◌, ◌*◌, ◌≤◌, ◌<◌, min}
use native.Mathlib.Omega.{arith}
use mathlib.Core.Bool.{Bool, true, false, cond}
use mathlib.Core.Path.{◌≡◌, refl, sym, ◌∙◌, ap, subst}
use mathlib.Core.Logic.{⊎_elim}
use mathlib.Core.List.{List}
use lib.ListN.{length, get_or}
use borrow.Author.Tests.{le-leb}
use Rattle.plane.specs.declared.tile.Area.{Area}
use Rattle.plane.specs.Area.{AreaIn}
use Rattle.plane.specs.Picture.{Picture, in_area, painted, table, tiles}
use Rattle.plane.specs.Words.{count, height, kinds, picture_of, room_in, width}
use Rattle.plane.proofs.Basics.{lt_or_ge, tf}
use Rattle.plane.proofs.FromTable.{tiles_agree}
use Rattle.tables.specs.Like.{table_like}
use Rattle.tables.specs.Tables.{Paintable}
use Rattle.tables.proofs.Whole.{painted_types, table_length, table_size, table_words, made_shows}
use Rattle.std.specs.Prelude.{Option, Some}
use Rattle.std.specs.Option.{is_some}
use Rattle.waits.specs.Pieces.{Lowest, block, blocks, lowest_block, piece_waits}
use Rattle.piece.specs.Remark.{BlockIn, near_area}
use Rattle.sweep.specs.Sweep.{swept_area}
use Rattle.waits.specs.Waits.{WaitingRow}
use Rattle.waits.proofs.Blocks.{lowest_block_lem}
use Rattle.sweep.proofs.SweptRows.{lowest_same, rows_below, swept_lowest, swept_next, swept_skip, swept_start}
use Rattle.sweep.proofs.Sweeps.{sweep_adds}
use Rattle.sweep.specs.Run.{lowest_of, piece_waiting}
use Rattle.remark.specs.Marking.{MarkIn, Remade, errors_near}
use Rattle.sweep.specs.Turn.{Came, PieceIn, RowMarked, TurnIn, Turned, swept_to, swept_waiting}
use Rattle.sheet.specs.Layout.{Layout, lent, room}
use Rattle.remark.proofs.MarkErrors.{count_tiles, like_agree}
use Rattle.sweep.proofs.OnePiece.{in_window, piece_marks, piece_tried, piece_unmarked, waiting_area}
use Rattle.sweep.proofs.Turns.{came_none, came_nowhere, lowest_piece_lem, turn_done, turn_full, turned_join, turned_so_far}

-- ---- tables and pictures
-- pictures that agree at a square agree there when painted
painted_same : (p q : Picture) (a b : Area) (k x y : ℕ) → a ≡ b → p x y ≡ q x y → painted p a k x y ≡ painted q b k x y
unfolding painted
painted_same p q a b k x y e f = λ i. cond (in_area (e i) x y) k (f i)

-- a table remade is that of another table of its size, for a picture that agrees in the window and has room
remade_as : {vs : List ℕ} (ws : List ℕ) {p q : Picture} → length vs ≡ length ws → width vs ≡ width ws → height vs ≡ height ws → kinds vs ≡ kinds ws
    → ((x y : ℕ) → x < width ws → y < height ws → p x y ≡ q x y) → length (tiles (width ws) (height ws) q) ≤ room_in (length ws) → Remade vs p (Some (tt {0})) (table_like ws q)
remade_as {vs} ws {p} {q} l w h k f u =
    let e : tiles (width vs) (height vs) p ≡ tiles (width ws) (height ws) q = (λ i. tiles (w i) (h i) p) ∙ tiles_agree (width ws) (height ws) p q f in
    record {
      fits = sym (le-leb (length (tiles (width vs) (height vs) p)) (room_in (length vs)) (omega (arith, ap length e)));
      leaves = sym ((λ i. table (room_in (l i)) (w i) (h i) (k i) p) ∙ like_agree ws f);
    }

-- ---- the pieces so far
-- done pieces of row by, from column bx on, are marked, and none before column i waits
pub record SoFar (l : Layout) (rules : List ℕ) (used bx by n : ℕ) (es : List ℕ) (done i : ℕ) : Type 0 where
  pub came : Came l (swept_to l es i by) rules used done
  pub most : done ≤ n
  pub to : i ≤ blocks (width l.material)
  pub through : done ≤ i
  pub first : done ≡ 0 → i ≡ bx

module _ {l : Layout} {work rules : List ℕ} {used bx by n : ℕ} (T : TurnIn l work rules used bx by n) where
  -- the lowest waiting piece in words
  lowest : Lowest (width l.waiting) (height l.waiting) (picture_of l.waiting) bx by
  lowest = lowest_block_lem (width l.waiting) (height l.waiting) (picture_of l.waiting) (Some (block bx by)) T.lowest

  pub row_block : BlockIn (width l.material) (height l.material) bx by
  row_block = in_window {work = work} (lowest_piece_lem T.fit T.lowest T.working)

  -- nothing waits before the first
  pub row_start : SoFar l rules used bx by n l.errors 0 bx
  row_start = record {
    came = subst (λ (z : List ℕ). Came l (lent l.material l.errors z) rules used 0)
        (T.fit.tables.waiting.table.same ∙ sym (like_agree l.waiting (swept_start (width l.waiting) (height l.waiting) (picture_of l.waiting) lowest))) (came_none T.fit);
    most = omega arith;
    to = omega (arith, row_block.column);
    through = omega arith;
    first = λ z. refl;
  }

  -- the row ends: the first is done
  pub row_ends : {done i : ℕ} {es : List ℕ} → SoFar l rules used bx by n es done i → i ≡ blocks (width l.material) → RowMarked l rules used by n done i false es
  row_ends {done} S g = record {
    turned = turned_so_far S.came S.most (⊎_elim (λ (u : 0 < done). omega arith) (λ (u : done ≤ 0). absurd (omega (arith, S.first (omega arith), row_block.column))) (lt_or_ge 0 done)) refl;
    end = omega arith;
    through = S.through;
  }

  module _ (R : count l.waiting + 32 ≤ room l) where
    -- ---- what waits when the first c pieces are done
    swept_room : (c : ℕ) → length (tiles (width l.waiting) (height l.waiting) (swept_waiting l c by)) ≤ room_in (length l.waiting)
    swept_room c =
        let w = width l.waiting in
        let h = height l.waiting in
        let p = picture_of l.waiting in
        let adds = sweep_adds w h p (min w (16 * c)) (16 * by) (min h (16 * by + 16)) (omega (arith, lowest.row)) (rows_below w h p lowest) in
        omega (arith, adds, count_tiles T.fit.tables.waiting.table, ap room_in T.fit.lengths.tables.waiting)

    -- its table shows it
    swept_shows : (c x y : ℕ) → x < width l.waiting → y < height l.waiting → picture_of (table_like l.waiting (swept_waiting l c by)) x y ≡ swept_waiting l c by x y
    swept_shows c =
        let M = T.fit.tables.waiting in
        let q = swept_waiting l c by in
        let a = swept_area (width l.waiting) (height l.waiting) c by in
        made_shows (room_in (length l.waiting)) (width l.waiting) (height l.waiting) (kinds l.waiting) q (table_like l.waiting q) refl (swept_room c) M.table.header.sizes (painted_types a 0 M.table (omega (arith, M.two)))

    -- then column c is the lowest, if it waits
    swept_next_lowest : (c : ℕ) (es : List ℕ) → piece_waits (width l.waiting) (height l.waiting) (picture_of l.waiting) c by ≡ true → Some (block c by) ≡ lowest_of (swept_to l es c by)
    swept_next_lowest c es e =
        let w = width l.waiting in
        let h = height l.waiting in
        let q = swept_waiting l c by in
        let v = table_like l.waiting q in
        let s = table_size (room_in (length l.waiting)) w h (kinds l.waiting) q in
        swept_lowest w h (picture_of l.waiting) lowest c e
        ∙ (lowest_same w h q (picture_of v) (λ x y u v. sym (swept_shows c x y u v)) ∙ sym (λ i. lowest_block (s.0 i) (s.1 i) (picture_of v)))

    -- and without it one column more is done
    swept_on : (c : ℕ) (es : List ℕ) → Remade (table_like l.waiting (swept_waiting l c by)) (piece_waiting (swept_to l es c by) c by) (Some (tt {0})) (table_like l.waiting (swept_waiting l (c + 1) by))
    swept_on c es =
        let w = width l.waiting in
        let h = height l.waiting in
        let q = swept_waiting l c by in
        let v = table_like l.waiting q in
        let s = table_size (room_in (length l.waiting)) w h (kinds l.waiting) q in
        remade_as l.waiting (table_words (room_in (length l.waiting)) w h (kinds l.waiting) q (swept_room c) ∙ sym (table_length T.fit.tables.waiting.table)) s.0 s.1 s.2
        (λ x y a b.
        painted_same (picture_of v) q (near_area (width v) (height v) 0 c by) (near_area w h 0 c by) 0 x y (λ i. near_area (s.0 i) (s.1 i) 0 c by) (swept_shows c x y a b)
        ∙ swept_next w h (picture_of l.waiting) c by x y a b)
        (swept_room (c + 1))

    -- ---- the next column
    module _ {done i : ℕ} {es : List ℕ} {cs : List Bool} (W : WaitingRow (width l.waiting) (height l.waiting) (picture_of l.waiting) by cs) (S : SoFar l rules used bx by n es done i) (u : i < blocks (width l.material)) where
      -- it does not wait: so it is not the first
      pub row_idle : get_or cs i false ≡ false → SoFar l rules used bx by n es done (i + 1)
      row_idle z =
          let x : piece_waits (width l.waiting) (height l.waiting) (picture_of l.waiting) i by ≡ false = sym (W.each i (omega (arith, row_block.wide))) ∙ z in
          record {
            came = subst (λ (z : List ℕ). Came l (lent l.material es z) rules used done)
                (sym (like_agree l.waiting (swept_skip (width l.waiting) (height l.waiting) (picture_of l.waiting) i (i + 1) by (omega arith) (λ c a b. (let g : c ≡ i = omega arith in rw g x))))) S.came;
            most = S.most;
            to = omega arith;
            through = omega (arith, S.through);
            first = λ z. (let g : i ≡ bx = S.first z in tf (sym lowest.waits ∙ (rw g at x)));
          }

      -- it waits
      module _ (z : get_or cs i false ≡ true) where
        next_lowest : Some (block i by) ≡ lowest_of (swept_to l es i by)
        next_lowest = swept_next_lowest i es (sym (W.each i (omega (arith, row_block.wide))) ∙ z)

        next_piece : PieceIn (swept_to l es i by) l.material rules used i by
        next_piece = lowest_piece_lem S.came.fit next_lowest refl

        -- the piece whose errors are marked
        pub next_marks : {vs : List ℕ} → length vs ≡ length l.material → MarkIn l.material es vs rules used i by
        next_marks s = piece_marks next_piece s

        module _ {b : Option (Unit {0})} {es' : List ℕ} (E : Remade es (errors_near l.material es rules used i by) b es') (some : done < n) where
          -- it has no room
          pub row_full : is_some b ≡ false → RowMarked l rules used by n done i true es'
          row_full g = record {
            turned = subst (λ (z : ℕ). Turned l rules used n z true (swept_to l es' i by)) (omega arith)
                (turned_join {m = 1} S.came (omega arith) (turn_full S.came.fit next_lowest (omega arith) (piece_unmarked next_piece E g) refl));
            end = omega arith;
            through = S.through;
          }

          -- it is done
          pub row_more : is_some b ≡ true → SoFar l rules used bx by n es' (done + 1) (i + 1)
          row_more g =
              let J = turned_join {m = 1} {n = n} S.came (omega arith) (turn_done S.came.fit next_lowest (omega arith) (piece_tried next_piece E (swept_on i es) g (λ z. tf z)) refl) in
              record { came = J.came; most = J.most; to = omega arith; through = omega (arith, S.through); first = λ z. absurd (omega arith) }

    -- ---- the row is cleared
    module _ {done c : ℕ} {full : Bool} {es : List ℕ} (S : RowMarked l rules used by n done c full es) where
      -- no piece was done: all is as it was
      pub sweep_none : done ≡ 0 → Turned l rules used n done full (lent l.material es l.waiting)
      sweep_none e = subst (λ (z : Layout). Turned l rules used n done full (lent l.material es z.waiting)) (came_nowhere S.turned.came e) S.turned

      -- the last piece of the area is one of the window
      pub sweep_last : 1 ≤ done → (1 ≤ c) × BlockIn (width l.material) (height l.material) (c - 1) by
      sweep_last u = (omega (arith, S.through), record { column = omega (arith, S.through, S.end); row = row_block.row; wide = row_block.wide; tall = row_block.tall })

      module _ {a : Area} (f : a ≡ swept_area (width l.material) (height l.material) c by) where
        pub sweep_paintable : {k : ℕ} → 1 ≤ done → k ≡ room l → Paintable k l.waiting a
        sweep_paintable u e = waiting_area T.fit e (subst (λ (b : Area). AreaIn (width l.material) (height l.material) b) (sym f)
            (record { some_x = omega (arith, S.through, row_block.column); some_y = omega (arith, row_block.row); in_x = omega arith; in_y = omega arith }))

        pub sweep_done : {r : Option (Unit {0})} {vs : List ℕ} → Remade l.waiting (painted (picture_of l.waiting) a 0) r vs → Turned l rules used n done full (lent l.material es vs)
        sweep_done {r} {vs} W =
            let M = T.fit.tables.waiting in
            let q = painted (picture_of l.waiting) a 0 in
            let g : q ≡ swept_waiting l c by = ap {B = Picture} (λ (b : Area). painted (picture_of l.waiting) b 0) (f ∙ (λ i. swept_area (sym M.wide i) (sym M.tall i) c by)) in
            let X = subst (λ (z : Picture). Remade l.waiting z r vs) g W in
            let t : is_some r ≡ true = X.fits ∙ le-leb (length (tiles (width l.waiting) (height l.waiting) (swept_waiting l c by))) (room_in (length l.waiting)) (swept_room c) in
            let v : vs ≡ table_like l.waiting (swept_waiting l c by) = X.leaves ∙ ap (λ (z : Bool). cond z (table_like l.waiting (swept_waiting l c by)) l.waiting) t in
            subst (λ (z : List ℕ). Turned l rules used n done full (lent l.material es z)) (sym v) S.turned
