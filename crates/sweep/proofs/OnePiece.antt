-- One piece: what the steps of its check are handed, what they make of errors and waiting, what the tables show then, and that a layout with room for it is fit again.
use Prim.Native.Nat.{ℕ, ◌+◌, ◌*◌, ◌≤◌, ◌<◌}
use native.Mathlib.Omega.{arith}
use mathlib.Core.Bool.{Bool, true, false, cond, ◌&&◌}
use mathlib.Core.Path.{◌≡◌, refl, sym, ◌∙◌, ap, subst}
use mathlib.Core.Logic.{⊎_elim}
use mathlib.Core.List.{List}
use lib.Dec.{leb}
use Rattle.std.specs.Prelude.{Option, Some, None}
use Rattle.std.specs.Option.{is_some}
use lib.ListN.{length}
use borrow.Author.Tests.{leb-true, le-leb, lt-leb}
use Rattle.plane.specs.declared.tile.Area.{Area}
use Rattle.plane.specs.Area.{AreaIn}
use Rattle.plane.specs.Picture.{Picture, painted, tiles}
use Rattle.plane.specs.Words.{height, kinds, picture_of, room_in, width}
use Rattle.plane.proofs.Basics.{and_left, and_right, bool_cases, tf}
use Rattle.tables.specs.Like.{table_like}
use Rattle.tables.specs.Tables.{Paintable, TilesAfter}
use Rattle.tables.proofs.Whole.{as_picture, table_at, like_table, painted_types, table_size, table_words, made_shows}
use Rattle.rules.specs.declared.rule.Rule.{Rule}
use Rattle.rules.specs.Forbid.{forbidden}
use Rattle.rules.specs.Words.{halo_of, rules_of}
use Rattle.piece.specs.Remark.{BlockIn, near_area, near_block, remarked}
use Rattle.sweep.specs.Run.{checked_piece, piece_errors, piece_fits, piece_waiting}
use Rattle.remark.specs.Marking.{MarkIn, Remade}
use Rattle.sweep.specs.Turn.{PieceIn, PieceTried}
use Rattle.sheet.specs.Layout.{Layout, Marks, lent, room}
use Rattle.sheet.specs.Ready.{Fit}
use Rattle.remark.proofs.MarkErrors.{piece_block}
use Rattle.sheet.proofs.Shapes.{marks_area}

-- ---- tables and pictures
-- marks of another picture of their window, if it has room
marks_again : {ms ws : List ℕ} (q : Picture) → Marks ms ws → length (tiles (width ws) (height ws) q) ≤ room_in (length ws) → ((x y : ℕ) → x < width ws → y < height ws → q x y < kinds ws) → Marks ms (table_like ws q)
marks_again {ms} {ws} q M u f =
    let s = table_size (room_in (length ws)) (width ws) (height ws) (kinds ws) q in
    record { table = as_picture (like_table q (table_like ws q) M.table refl u f); wide = s.0 ∙ M.wide; tall = s.1 ∙ M.tall; two = s.2 ∙ M.two }

remarked_types : (w h : ℕ) (p : Picture) (rs : List Rule) (k bx by : ℕ) (e : Picture) (t x y : ℕ) → 2 ≤ t → e x y < t → remarked w h p rs k bx by e x y < t
unfolding remarked
remarked_types w h p rs k bx by e t x y u v = ⊎_elim
    (λ n. rw n (⊎_elim (λ m. rw m (omega arith)) (λ m. rw m (omega arith)) (bool_cases (forbidden w h p rs x y))))
    (λ n. rw n v) (bool_cases (near_block k bx by x y))

-- ---- a truth that needs two
no_second : (a b : Bool) → b ≡ false → (a && b) ≡ false
no_second true b e = e
no_second false b e = refl

no_first : (a b : Bool) → a ≡ false → (a && b) ≡ false
no_first true b e = absurd (let z : ◌≡◌ {A = ℕ} 0 1 = cc in omega arith)
no_first false b e = refl

-- ---- how many tiles errors and waiting have after the piece
abbrev error_tiles : Layout → List ℕ → ℕ → ℕ → ℕ → ℕ
error_tiles l rules used bx by = length (tiles (width l.errors) (height l.errors) (piece_errors l (rules_of rules used) (halo_of rules used) bx by))

abbrev waiting_tiles : Layout → ℕ → ℕ → ℕ
waiting_tiles l bx by = length (tiles (width l.waiting) (height l.waiting) (piece_waiting l bx by))

-- ---- what the steps are handed
-- an area of the window can be cleared in waiting
pub waiting_area : {l : Layout} {rules : List ℕ} {used c : ℕ} {a : Area} → Fit l rules used → c ≡ room l → AreaIn (width l.material) (height l.material) a → Paintable c l.waiting a
waiting_area F e A = record { table = table_at (ap room_in F.lengths.tables.waiting ∙ sym e) F.tables.waiting.table; small = omega (arith, F.lengths.tables.material.most); area = marks_area F.tables.waiting A }

module _ {l : Layout} {work rules : List ℕ} {used bx by : ℕ} (P : PieceIn l work rules used bx by) where
  -- the steps that mark its errors, with any working room as long
  pub piece_marks : {vs : List ℕ} → length vs ≡ length l.material → MarkIn l.material l.errors vs rules used bx by
  piece_marks e = record {
    sized = P.fit.lengths.tables.material;
    long = P.fit.lengths.tables.errors;
    working = e;
    list = P.fit.lengths.list;
    sound = P.fit.sound;
    table = P.fit.tables.material;
    marks = P.fit.tables.errors;
    column = P.column;
    row = P.row;
  }

  pub in_window : BlockIn (width l.material) (height l.material) bx by
  in_window = piece_block {work = work} (piece_marks P.working)

  pub waiting_kinds : kinds l.waiting ≡ 2
  waiting_kinds = P.fit.tables.waiting.two

  -- ---- what they make
  waiting_after : {a : Area} → a ≡ near_area (width l.material) (height l.material) 0 bx by → painted (picture_of l.waiting) a 0 ≡ piece_waiting l bx by
  waiting_after f =
      let M = P.fit.tables.waiting in
      let g : near_area (width l.material) (height l.material) 0 bx by ≡ near_area (width l.waiting) (height l.waiting) 0 bx by = λ i. near_area (sym M.wide i) (sym M.tall i) 0 bx by in
      ap {B = Picture} (λ (b : Area). painted (picture_of l.waiting) b 0) (f ∙ g)

  pub as_waiting : {r : Option (Unit {0})} {a : Area} {vs : List ℕ} → a ≡ near_area (width l.material) (height l.material) 0 bx by
      → Remade l.waiting (painted (picture_of l.waiting) a 0) r vs → Remade l.waiting (piece_waiting l bx by) r vs
  as_waiting {r} {vs = vs} f W = subst (λ (q : Picture). Remade l.waiting q r vs) (waiting_after f) W

  pub as_waiting_tiles : (c : ℕ) (r : Option ℕ) {a : Area} → a ≡ near_area (width l.material) (height l.material) 0 bx by
      → TilesAfter c l.waiting (painted (picture_of l.waiting) a 0) r → TilesAfter c l.waiting (piece_waiting l bx by) r
  as_waiting_tiles c r f W = subst (λ (q : Picture). TilesAfter c l.waiting q r) (waiting_after f) W

  -- waiting would have too many tiles
  pub piece_unwaited : {c : ℕ} → c ≡ room l → c < waiting_tiles l bx by → PieceTried l rules used bx by None l
  unfolding piece_fits
  piece_unwaited e u = record {
    fits = sym (no_second (leb (error_tiles l rules used bx by) (room l)) (leb (waiting_tiles l bx by) (room l)) (lt-leb (waiting_tiles l bx by) (room l) (omega arith)));
    leaves = refl;
  }

  module _ {b : Option (Unit {0})} {es : List ℕ} (E : Remade l.errors (piece_errors l (rules_of rules used) (halo_of rules used) bx by) b es) where
    -- have the errors room
    errors_fit : is_some b ≡ leb (error_tiles l rules used bx by) (room l)
    errors_fit = E.fits ∙ ap (λ (n : ℕ). leb (error_tiles l rules used bx by) (room_in n)) P.fit.lengths.tables.errors

    -- their words, by whether they have
    errors_words : {d : Bool} → is_some b ≡ d → es ≡ cond d (table_like l.errors (piece_errors l (rules_of rules used) (halo_of rules used) bx by)) l.errors
    errors_words e = E.leaves ∙ ap (λ (z : Bool). cond z (table_like l.errors (piece_errors l (rules_of rules used) (halo_of rules used) bx by)) l.errors) e

    -- they have none
    pub piece_unmarked : is_some b ≡ false → PieceTried l rules used bx by None (lent l.material es l.waiting)
    unfolding piece_fits
    piece_unmarked f =
        let a = errors_words f in
        record {
          fits = sym (no_first (leb (error_tiles l rules used bx by) (room l)) (leb (waiting_tiles l bx by) (room l)) (sym errors_fit ∙ f));
          leaves = λ i. record { material = l.material; errors = a i; waiting = l.waiting };
        }

    module _ {r : Option (Unit {0})} {qs : List ℕ} (W : Remade l.waiting (piece_waiting l bx by) r qs) where
      waiting_fits : is_some r ≡ leb (waiting_tiles l bx by) (room l)
      waiting_fits = W.fits ∙ ap (λ (n : ℕ). leb (waiting_tiles l bx by) (room_in n)) P.fit.lengths.tables.waiting

      -- the errors have room: it is for waiting to say; without room there the errors must have stayed
      pub piece_tried : is_some b ≡ true → (is_some r ≡ false → es ≡ l.errors) → PieceTried l rules used bx by r (lent l.material es qs)
      unfolding piece_fits
      piece_tried t stay = record {
        fits = waiting_fits ∙ ap (λ (z : Bool). z && leb (waiting_tiles l bx by) (room l)) (sym t ∙ errors_fit);
        leaves = (λ i. record { material = l.material; errors = words (is_some r) refl i; waiting = W.leaves i }) ∙ both (is_some r);
      }
        where
          words : (d : Bool) → is_some r ≡ d → es ≡ cond d (table_like l.errors (piece_errors l (rules_of rules used) (halo_of rules used) bx by)) l.errors
          words true e = errors_words t
          words false e = stay e

          both : (d : Bool) → lent l.material (cond d (table_like l.errors (piece_errors l (rules_of rules used) (halo_of rules used) bx by)) l.errors) (cond d (table_like l.waiting (piece_waiting l bx by)) l.waiting)
              ≡ cond d (checked_piece l (rules_of rules used) (halo_of rules used) bx by) l
          both true = refl
          both false = refl

      -- they were marked, and the tiles of waiting were counted first
      pub piece_checked : {c : ℕ} (d : Option ℕ) → c ≡ room l → is_some b ≡ true → TilesAfter c l.waiting (piece_waiting l bx by) d → is_some d ≡ true → PieceTried l rules used bx by r (lent l.material es qs)
      piece_checked (Some d) e n T u = piece_tried n (λ f. tf (sym (waiting_fits ∙ le-leb (waiting_tiles l bx by) (room l) (omega (arith, T.number, T.room))) ∙ f))
      piece_checked None e n T u = tf (sym u)

  -- ---- afterwards
  -- the types of what a piece makes
  errors_types : (x y : ℕ) → x < width l.errors → y < height l.errors → piece_errors l (rules_of rules used) (halo_of rules used) bx by x y < kinds l.errors
  errors_types x y m n =
      let T = P.fit.tables.errors.table in
      remarked_types (width l.material) (height l.material) (picture_of l.material) (rules_of rules used) (halo_of rules used) bx by (picture_of l.errors) (kinds l.errors) x y T.header.sizes.two (T.types x y m n)

  waiting_types : (x y : ℕ) → x < width l.waiting → y < height l.waiting → piece_waiting l bx by x y < kinds l.waiting
  waiting_types = painted_types (near_area (width l.waiting) (height l.waiting) 0 bx by) 0 P.fit.tables.waiting.table (omega (arith, waiting_kinds))

  module _ (f : piece_fits l (rules_of rules used) (halo_of rules used) bx by ≡ true) where
    errors_room : error_tiles l rules used bx by ≤ room_in (length l.errors)
    unfolding piece_fits
    errors_room = subst (λ (n : ℕ). error_tiles l rules used bx by ≤ room_in n) (sym P.fit.lengths.tables.errors) (leb-true (error_tiles l rules used bx by) (room l) (and_left (leb (error_tiles l rules used bx by) (room l)) (leb (waiting_tiles l bx by) (room l)) f))

    waiting_room : waiting_tiles l bx by ≤ room_in (length l.waiting)
    unfolding piece_fits
    waiting_room = subst (λ (n : ℕ). waiting_tiles l bx by ≤ room_in n) (sym P.fit.lengths.tables.waiting) (leb-true (waiting_tiles l bx by) (room l) (and_right (leb (error_tiles l rules used bx by) (room l)) (leb (waiting_tiles l bx by) (room l)) f))

    -- the tables show it
    pub errors_show : (x y : ℕ) → x < width l.errors → y < height l.errors
        → picture_of (checked_piece l (rules_of rules used) (halo_of rules used) bx by).errors x y ≡ piece_errors l (rules_of rules used) (halo_of rules used) bx by x y
    errors_show =
        let q = piece_errors l (rules_of rules used) (halo_of rules used) bx by in
        made_shows (room_in (length l.errors)) (width l.errors) (height l.errors) (kinds l.errors) q (table_like l.errors q) refl errors_room P.fit.tables.errors.table.header.sizes errors_types

    pub waiting_show : (x y : ℕ) → x < width l.waiting → y < height l.waiting → picture_of (checked_piece l (rules_of rules used) (halo_of rules used) bx by).waiting x y ≡ piece_waiting l bx by x y
    waiting_show =
        let q = piece_waiting l bx by in
        made_shows (room_in (length l.waiting)) (width l.waiting) (height l.waiting) (kinds l.waiting) q (table_like l.waiting q) refl waiting_room P.fit.tables.waiting.table.header.sizes waiting_types

    pub checked_fit : Fit (checked_piece l (rules_of rules used) (halo_of rules used) bx by) rules used
    checked_fit =
        let L = P.fit.lengths.tables in
        let I = P.fit.tables in
        let q = piece_errors l (rules_of rules used) (halo_of rules used) bx by in
        let s = piece_waiting l bx by in
        record {
          lengths = record {
            tables = record {
              material = L.material;
              errors = table_words (room_in (length l.errors)) (width l.errors) (height l.errors) (kinds l.errors) q errors_room ∙ (ap (λ (n : ℕ). 4 + 9 * room_in n) L.errors ∙ sym L.material.words);
              waiting = table_words (room_in (length l.waiting)) (width l.waiting) (height l.waiting) (kinds l.waiting) s waiting_room ∙ (ap (λ (n : ℕ). 4 + 9 * room_in n) L.waiting ∙ sym L.material.words);
            };
            list = P.fit.lengths.list;
          };
          tables = record { material = I.material; errors = marks_again q I.errors errors_room errors_types; waiting = marks_again s I.waiting waiting_room waiting_types };
          sound = P.fit.sound;
        }

-- where waiting would have too many tiles it has no room, with what was counted as a premise, as `check_piece` looks for it
pub piece_unroomed : {ms es ws work rules : List ℕ} {used bx by c : ℕ} (r : Option ℕ) {a : Area} → PieceIn (lent ms es ws) work rules used bx by → c ≡ room_in (length ms) → a ≡ near_area (width ms) (height ms) 0 bx by
    → TilesAfter c ws (painted (picture_of ws) a 0) r → is_some r ≡ false → piece_fits (lent ms es ws) (rules_of rules used) (halo_of rules used) bx by ≡ false
piece_unroomed (Some n) P e f W u = tf u
piece_unroomed {c = c} None P e f W u = sym (piece_unwaited P e (as_waiting_tiles P c None f W)).fits
