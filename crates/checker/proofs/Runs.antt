-- What a run keeps and how it ends: what each piece done keeps holds after the run, a run that does no piece changes nothing, and one that ends with 0 has done all that it was told or leaves nothing waiting.
use Prim.Native.Nat.{ℕ, zero, suc, ◌+◌}
use native.Mathlib.Omega.{arith}
use mathlib.Core.Bool.{Bool, true, false}
use mathlib.Core.Path.{◌≡◌, refl, ◌∙◌, ap, subst}
use mathlib.Core.Logic.{◌⊎◌, inl, inr, ⊎_elim}
use mathlib.Core.List.{List}
use lib.ListN.{length}
use Rattle.plane.specs.Words.{height, kinds, picture_of, room_in, width}
use Rattle.tables.proofs.Whole.{table_size}
use Rattle.rules.specs.declared.rule.Rule.{Rule}
use Rattle.rules.specs.Words.{halo_of, rules_of}
use Rattle.std.specs.Prelude.{Option, Some, None}
use Rattle.waits.specs.declared.block.Block.{Block}
use Rattle.waits.specs.Pieces.{block, waiting_pieces}
use Rattle.waits.proofs.Blocks.{lowest_block_lem}
use Rattle.piece.proofs.Counts.{cleared_pieces, no_pieces}
use Rattle.sweep.specs.Run.{Run, after_block, check_run, checked_piece, fits_block, lowest_of, piece_fits, piece_waiting, turn, waiting_of}
use Rattle.sweep.specs.Turn.{PieceIn}
use Rattle.sheet.specs.Layout.{Layout}
use Rattle.sheet.specs.Ready.{Fit}
use Rattle.sweep.proofs.OnePiece.{checked_fit, waiting_show}
use Rattle.sweep.proofs.Turns.{lowest_piece_lem}

-- ---- what a piece keeps, a run keeps
-- the lowest waiting piece of a fit layout, with room for it
pub record Doable (l : Layout) (rules : List ℕ) (used bx by : ℕ) : Type 0 where
  pub fit : Fit l rules used
  pub lowest : Some (block bx by) ≡ lowest_of l
  pub fits : piece_fits l (rules_of rules used) (halo_of rules used) bx by ≡ true

-- what is said of a layout after d pieces holds after the next
abbrev pub Keeps : List ℕ → ℕ → (ℕ → Layout → Type 0) → Type 0
Keeps rules used Q = (d : ℕ) (l : Layout) (bx by : ℕ) → Doable l rules used bx by → Q d l → Q (d + 1) (checked_piece l (rules_of rules used) (halo_of rules used) bx by)

module _ {l : Layout} {rules : List ℕ} {used bx by : ℕ} (D : Doable l rules used bx by) where
  -- as the code is handed it, with any working room of the right length
  pub piece_in : PieceIn l l.material rules used bx by
  piece_in = lowest_piece_lem D.fit D.lowest refl

  -- the layout is fit again
  pub piece_fit : Fit (checked_piece l (rules_of rules used) (halo_of rules used) bx by) rules used
  piece_fit = checked_fit piece_in D.fits

  -- one piece fewer waits
  pub one_fewer : waiting_of (checked_piece l (rules_of rules used) (halo_of rules used) bx by) + 1 ≡ waiting_of l
  one_fewer =
      let w = width l.waiting in
      let h = height l.waiting in
      let p = picture_of l.waiting in
      let q = picture_of (checked_piece l (rules_of rules used) (halo_of rules used) bx by).waiting in
      let s = table_size (room_in (length l.waiting)) w h (kinds l.waiting) (piece_waiting l bx by) in
      (λ i. waiting_pieces (s.0 i) (s.1 i) q + 1) ∙ cleared_pieces w h p q bx by (waiting_show piece_in D.fits) (lowest_block_lem w h p (Some (block bx by)) D.lowest).waits

module _ (rules : List ℕ) (used : ℕ) (Q : ℕ → Layout → Type 0) (keeps : Keeps rules used Q) where
  turn_keeps : (d : ℕ) (l : Layout) (b : Option Block) (f : Bool) (next : Layout → Run) → Fit l rules used → b ≡ lowest_of l → fits_block l (rules_of rules used) (halo_of rules used) b ≡ f → Q d l
      → ((m : Layout) → Fit m rules used → Q (d + 1) m → Q (d + 1 + (next m).done) (next m).layout)
      → (let r = turn b f l (next (after_block l (rules_of rules used) (halo_of rules used) b)) in Q (d + r.done) r.layout)
  turn_keeps d l None f next F e g q ih = subst (λ (z : ℕ). Q z l) (omega arith) q
  turn_keeps d l (Some b) true next F e g q ih =
      let m = checked_piece l (rules_of rules used) (halo_of rules used) b.x b.y in
      let D : Doable l rules used b.x b.y = record { fit = F; lowest = e; fits = g } in
      subst (λ (z : ℕ). Q z (next m).layout) (omega arith) (ih m (piece_fit D) (keeps d l b.x b.y D q))
  turn_keeps d l (Some b) false next F e g q ih = subst (λ (z : ℕ). Q z l) (omega arith) q

  pub run_keeps : (n d : ℕ) (l : Layout) → Fit l rules used → Q d l → (let r = check_run n (rules_of rules used) (halo_of rules used) l in Q (d + r.done) r.layout)
  unfolding check_run
  run_keeps zero d l F q = subst (λ (z : ℕ). Q z l) (omega arith) q
  run_keeps (suc n) d l F q =
      turn_keeps d l (lowest_of l) (fits_block l (rules_of rules used) (halo_of rules used) (lowest_of l)) (check_run n (rules_of rules used) (halo_of rules used)) F refl refl q (run_keeps n (d + 1))

-- ---- a run that does no piece
turn_idle : (b : Option Block) (f : Bool) (l : Layout) (r : Run) → (turn b f l r).done ≡ 0 → (turn b f l r).layout ≡ l
turn_idle None f l r e = refl
turn_idle (Some b) true l r e = absurd (omega arith)
turn_idle (Some b) false l r e = refl

pub run_idle : (n : ℕ) (rs : List Rule) (k : ℕ) (l : Layout) → (check_run n rs k l).done ≡ 0 → (check_run n rs k l).layout ≡ l
unfolding check_run
run_idle zero rs k l e = refl
run_idle (suc n) rs k l e = turn_idle (lowest_of l) (fits_block l rs k (lowest_of l)) l (check_run n rs k (after_block l rs k (lowest_of l))) e

-- ---- the end of a run
-- the pieces done are as many as told, or none waits
abbrev Over : ℕ → Run → Type 0
Over n r = (r.done ≡ n) ⊎ (waiting_of r.layout ≡ 0)

none_waits : (l : Layout) → None ≡ lowest_of l → waiting_of l ≡ 0
none_waits l e =
    let w = width l.waiting in
    let h = height l.waiting in
    no_pieces w h (picture_of l.waiting) (lowest_block_lem w h (picture_of l.waiting) None e)

turn_over : (n : ℕ) (l : Layout) (b : Option Block) (f : Bool) (r : Run) → b ≡ lowest_of l → (r.number ≡ 0 → Over n r) → (turn b f l r).number ≡ 0 → Over (suc n) (turn b f l r)
turn_over n l None f r e ih z = inr (none_waits l e)
turn_over n l (Some b) true r e ih z = ⊎_elim (λ (u : r.done ≡ n). inl (ap suc u)) (λ u. inr u) (ih z)
turn_over n l (Some b) false r e ih z = absurd (omega arith)

pub run_over : (n : ℕ) (rs : List Rule) (k : ℕ) (l : Layout) → (check_run n rs k l).number ≡ 0 → Over n (check_run n rs k l)
unfolding check_run
run_over zero rs k l z = inl refl
run_over (suc n) rs k l z =
    let m = after_block l rs k (lowest_of l) in
    turn_over n l (lowest_of l) (fits_block l rs k (lowest_of l)) (check_run n rs k m) refl (run_over n rs k m) z
