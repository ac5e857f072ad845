-- Turns: the lowest waiting piece is the first step of every run, and the pieces done so far are the beginning of the whole run.
use Prim.Native.Nat.{ℕ, suc, ◌+◌, ◌≤◌}
use native.Mathlib.Omega.{arith}
use mathlib.Core.Bool.{Bool, true, false, cond}
use mathlib.Core.Path.{◌≡◌, refl, sym, ◌∙◌, ap, subst}
use mathlib.Core.List.{List}
use Rattle.plane.specs.Plane.{Plane}
use Rattle.plane.specs.Words.{height, picture_of, room_in, width}
use Rattle.plane.proofs.Basics.{tf}
use Rattle.plane.proofs.FromTable.{table_plane}
use Rattle.rules.specs.Words.{halo_of, rules_of}
use Rattle.std.specs.Prelude.{Option, Some, None}
use Rattle.std.specs.Option.{is_some}
use Rattle.waits.specs.declared.block.Block.{Block}
use Rattle.waits.specs.Pieces.{block}
use Rattle.waits.proofs.Blocks.{lowest_block_lem}
use Rattle.sweep.specs.Run.{Run, after_block, check_run, checked_piece, fits_block, lowest_of, piece_fits, turn}
use Rattle.sweep.specs.Turn.{Came, OverAt, PieceIn, PieceTried, Turned, more}
use Rattle.sheet.specs.Layout.{Layout}
use Rattle.sheet.specs.Ready.{Fit}
use Rattle.sweep.proofs.OnePiece.{checked_fit}
use lib.ListN.{length}

-- what waits is a plane
pub waiting_plane : {l : Layout} {rules : List ℕ} {used : ℕ} → Fit l rules used → Plane l.waiting
waiting_plane {l} F = table_plane (room_in (length l.waiting)) l.waiting F.tables.waiting.table

-- ---- no piece
pub came_none : {l : Layout} {rules : List ℕ} {used : ℕ} → Fit l rules used → Came l l rules used 0
came_none {l} {rules} {used} F = record {
  run = λ m. let r = check_run m (rules_of rules used) (halo_of rules used) l in
      let e : r.done ≡ 0 + r.done = omega arith in
      ap (λ (z : ℕ). check_run z (rules_of rules used) (halo_of rules used) l) (omega arith) ∙ (λ i. record { number = r.number; done = e i; layout = r.layout });
  fit = F;
}

-- ---- one piece
module _ {l : Layout} {rules : List ℕ} {used : ℕ} (F : Fit l rules used) where
  -- the first step of a run, by what is the lowest block
  first_step : (m : ℕ) (b : Option Block) → b ≡ lowest_of l → check_run (suc m) (rules_of rules used) (halo_of rules used) l ≡ turn b (fits_block l (rules_of rules used) (halo_of rules used) b) l (check_run m (rules_of rules used) (halo_of rules used) (after_block l (rules_of rules used) (halo_of rules used) b))
  unfolding check_run
  first_step m b e = ap (λ (z : Option Block). turn z (fits_block l (rules_of rules used) (halo_of rules used) z) l (check_run m (rules_of rules used) (halo_of rules used) (after_block l (rules_of rules used) (halo_of rules used) z))) (sym e)

  -- none waits
  pub idle_over : None ≡ lowest_of l → OverAt 0 l rules used
  idle_over e m = first_step m None e

  module _ {bx by : ℕ} (e : Some (block bx by) ≡ lowest_of l) where
    -- the lowest waiting block is one of the window
    pub lowest_piece_lem : {work : List ℕ} → length work ≡ length l.material → PieceIn l work rules used bx by
    lowest_piece_lem s =
        let L = lowest_block_lem (width l.waiting) (height l.waiting) (picture_of l.waiting) (Some (block bx by)) e in
        let M = F.tables.waiting in
        record { fit = F; working = s; column = omega (arith, L.column, M.wide); row = omega (arith, L.row, M.tall) }

    -- the step that it is
    piece_step : (m : ℕ) (r : Bool) → r ≡ piece_fits l (rules_of rules used) (halo_of rules used) bx by → check_run (suc m) (rules_of rules used) (halo_of rules used) l ≡ turn (Some (block bx by)) r l (check_run m (rules_of rules used) (halo_of rules used) (checked_piece l (rules_of rules used) (halo_of rules used) bx by))
    piece_step m r f = first_step m (Some (block bx by)) e ∙ ap (λ (z : Bool). turn (Some (block bx by)) z l (check_run m (rules_of rules used) (halo_of rules used) (checked_piece l (rules_of rules used) (halo_of rules used) bx by))) (sym f)

    module _ {n : ℕ} {r : Option (Unit {0})} {after : Layout} (some : 1 ≤ n) (T : PieceTried l rules used bx by r after) where
      -- what it leaves
      leaves_by : {d : Bool} → is_some r ≡ d → after ≡ cond d (checked_piece l (rules_of rules used) (halo_of rules used) bx by) l
      leaves_by t = T.leaves ∙ ap (λ (z : Bool). cond z (checked_piece l (rules_of rules used) (halo_of rules used) bx by) l) t

      pub turn_done : is_some r ≡ true → Turned l rules used n 1 false after
      turn_done t = record {
        came = record {
          run = λ m. let q = check_run m (rules_of rules used) (halo_of rules used) (checked_piece l (rules_of rules used) (halo_of rules used) bx by) in
              let g : suc q.done ≡ 1 + q.done = omega arith in
              ap (λ (z : ℕ). check_run z (rules_of rules used) (halo_of rules used) l) (omega arith)
              ∙ (piece_step m true (sym t ∙ T.fits)
              ∙ ((λ i. record { number = q.number; done = g i; layout = q.layout }) ∙ ap (λ (z : Layout). more 1 (check_run m (rules_of rules used) (halo_of rules used) z)) (sym (leaves_by t))));
          fit = subst (λ (z : Layout). Fit z rules used) (sym (leaves_by t)) (checked_fit (lowest_piece_lem {work = l.material} refl) (sym T.fits ∙ t));
        };
        most = some;
        some = λ f. omega arith;
        stuck = λ f. tf (sym f);
      }

      pub turn_full : is_some r ≡ false → Turned l rules used n 0 true after
      turn_full t = subst (λ (z : Layout). Turned l rules used n 0 true z) (sym (leaves_by t)) (record {
        came = came_none F;
        most = omega arith;
        some = λ f. tf f;
        stuck = λ f. (some, λ m. piece_step m false (sym t ∙ T.fits));
      })

-- ---- the turns so far
-- pieces, and then pieces
pub came_join : {l here after : Layout} {rules : List ℕ} {used d e : ℕ} → Came l here rules used d → Came here after rules used e → Came l after rules used (d + e)
came_join {l} {here} {after} {rules} {used} {d} {e} C D = record {
  run = λ m. let q = check_run m (rules_of rules used) (halo_of rules used) after in
      let g : d + (e + q.done) ≡ d + e + q.done = omega arith in
      ap (λ (z : ℕ). check_run z (rules_of rules used) (halo_of rules used) l) (omega arith) ∙ (C.run (e + m) ∙ (ap (λ (z : Run). more d z) (D.run m) ∙ (λ i. record { number = q.number; done = g i; layout = q.layout })));
  fit = D.fit;
}

-- no piece: it is the same layout
pub came_nowhere : {l here : Layout} {rules : List ℕ} {used d : ℕ} → Came l here rules used d → d ≡ 0 → here ≡ l
unfolding check_run
came_nowhere {l} {here} {rules} {used} {d} C e =
    let g : d + 0 ≡ 0 = omega arith in
    sym (ap (λ (z : ℕ). (check_run z (rules_of rules used) (halo_of rules used) l).layout) (sym g) ∙ ap (λ (z : Run). z.layout) (C.run 0))

-- pieces, and then a turn
pub turned_join : {l here after : Layout} {rules : List ℕ} {used d e m n : ℕ} {full : Bool} → Came l here rules used d → d + m ≤ n → Turned here rules used m e full after → Turned l rules used n (d + e) full after
turned_join C u T = record {
  came = came_join C T.came;
  most = omega (arith, T.most);
  some = λ f. omega (arith, T.some f);
  stuck = λ f. (omega (arith, (T.stuck f).0), (T.stuck f).1);
}

-- pieces, some of them, and no more
pub turned_so_far : {l here : Layout} {rules : List ℕ} {used d n : ℕ} {full : Bool} → Came l here rules used d → d ≤ n → 1 ≤ d → full ≡ false → Turned l rules used n d full here
turned_so_far C u s z = record { came = C; most = u; some = λ f. s; stuck = λ f. tf (sym f ∙ z) }
