-- A row of pieces done from left to right: what waits meanwhile. A piece that does not wait has no waiting square, so to skip it changes nothing; the next piece that waits is the lowest of what is left.
use Prim.Native.Nat.{ℕ, ◌+◌, ◌*◌, ◌/◌, ◌<◌, ◌≤◌}
use native.Mathlib.Omega.{arith}
use mathlib.Core.Bool.{true, false, true≢false}
use mathlib.Core.Path.{◌≡◌, refl, sym, ◌∙◌}
use mathlib.Core.Logic.{◌⊎◌, inl, inr, ⊎_elim}
use Rattle.plane.specs.declared.tile.Area.{Area}
use Rattle.plane.specs.Picture.{Picture, in_area, painted}
use Rattle.plane.proofs.Basics.{bool_cases, lt_or_ge, is_false}
use Rattle.rules.proofs.Searches.{same_truth}
use Rattle.rules.proofs.Window.{Within, within, area_of}
use Rattle.std.specs.Prelude.{Option, Some, None}
use Rattle.waits.specs.declared.block.Block.{Block}
use Rattle.waits.specs.Pieces.{block, piece_waits, lowest_block, Lowest, LowestOf}
use Rattle.piece.specs.Remark.{near_area}
use Rattle.sweep.specs.Sweep.{swept_area, swept}
use Rattle.waits.proofs.Blocks.{waits_inside, lowest_block_lem, block_lowest}
use Rattle.piece.proofs.Counts.{idle_square, piece_has, piece_as}
use Rattle.sweep.proofs.Sweeps.{painted_in, painted_off}

-- ---- pictures that agree in the window
module _ (w h : ℕ) (p q : Picture) (same : (x y : ℕ) → x < w → y < h → p x y ≡ q x y) where
  -- the same pieces wait
  pub waits_same : (bx by : ℕ) → piece_waits w h p bx by ≡ piece_waits w h q bx by
  waits_same bx by = same_truth (piece_waits w h p bx by) (piece_waits w h q bx by)
      (piece_as w h p q bx by (λ x y f i. same x y i.column i.row))
      (piece_as w h q p bx by (λ x y f i. sym (same x y i.column i.row)))

  -- so the same is the lowest
  pub lowest_same : lowest_block w h p ≡ lowest_block w h q
  lowest_same = block_lowest w h q (lowest_block w h p) (also (lowest_block w h p) (lowest_block_lem w h p (lowest_block w h p) refl))
    where
      also : (b : Option Block) → LowestOf w h p b → LowestOf w h q b
      also (Some b) l = record { column = l.column; row = l.row; waits = sym (waits_same b.x b.y) ∙ l.waits; least = λ cx cy e. l.least cx cy (waits_same cx cy ∙ e) }
      also None l = λ bx by. sym (waits_same bx by) ∙ l bx by

-- ---- an area done
within_or_not : (a : Area) (x y : ℕ) → Within a x y ⊎ (Within a x y → ⊥)
within_or_not a x y = ⊎_elim (λ e. inl (within a x y e)) (λ e. inr (λ i. true≢false (sym (area_of a x y i) ∙ e))) (bool_cases (in_area a x y))

-- a square of the first bx pieces of row by
in_sweep : (w h bx by x y : ℕ) → x < w → y < h → x < 16 * bx → 16 * by ≤ y → y < 16 * by + 16 → Within (swept_area w h bx by) x y
in_sweep w h bx by x y u v a b c = record { left_of = omega arith; right_of = omega arith; low = b; high = omega arith }

-- ---- on to the next
module _ (w h : ℕ) (p : Picture) where
  -- the pieces from bx up to e do not wait: to do them too changes nothing
  pub swept_skip : (bx e by : ℕ) → bx ≤ e → ((c : ℕ) → bx ≤ c → c < e → piece_waits w h p c by ≡ false) → (x y : ℕ) → x < w → y < h → swept w h p e by x y ≡ swept w h p bx by x y
  swept_skip bx e by l idle x y u v = ⊎_elim
      (λ (i : Within (swept_area w h e by) x y). painted_in p (swept_area w h e by) 0 x y i ∙ sym (⊎_elim
      (λ (a : x < 16 * bx). painted_in p (swept_area w h bx by) 0 x y (in_sweep w h bx by x y u v a i.low (omega (arith, i.high))))
      (λ (a : 16 * bx ≤ x).
      let r : y / 16 ≡ by = omega (arith, i.low, i.high) in
      painted_off p (swept_area w h bx by) 0 x y (λ z. omega (arith, z.right_of)) ∙ idle_square w h p x y u v (rw r (idle (x / 16) (omega arith) (omega (arith, i.right_of)))))
      (lt_or_ge x (16 * bx))))
      (λ (n : Within (swept_area w h e by) x y → ⊥).
      painted_off p (swept_area w h e by) 0 x y n
      ∙ sym (painted_off p (swept_area w h bx by) 0 x y (λ i. n (in_sweep w h e by x y u v (omega (arith, i.right_of)) i.low (omega (arith, i.high))))))
      (within_or_not (swept_area w h e by) x y)

  -- one piece more is done
  pub swept_next : (bx by x y : ℕ) → x < w → y < h → painted (swept w h p bx by) (near_area w h 0 bx by) 0 x y ≡ swept w h p (bx + 1) by x y
  swept_next bx by x y u v = ⊎_elim
      (λ (i : Within near x y). painted_in (swept w h p bx by) near 0 x y i ∙ sym (painted_in p after 0 x y (in_sweep w h (bx + 1) by x y u v (omega (arith, i.right_of)) (omega (arith, i.low)) (omega (arith, i.high)))))
      (λ (n : Within near x y → ⊥). painted_off (swept w h p bx by) near 0 x y n ∙ ⊎_elim
      (λ (i : Within before x y). painted_in p before 0 x y i ∙ sym (painted_in p after 0 x y (in_sweep w h (bx + 1) by x y u v (omega (arith, i.right_of)) i.low (omega (arith, i.high)))))
      (λ (m : Within before x y → ⊥). painted_off p before 0 x y m ∙ sym (painted_off p after 0 x y (λ i. ⊎_elim
      (λ (a : x < 16 * bx). m (in_sweep w h bx by x y u v a i.low (omega (arith, i.high))))
      (λ (a : 16 * bx ≤ x). n (record { left_of = omega arith; right_of = omega (arith, i.right_of); low = omega (arith, i.low); high = omega (arith, i.high) }))
      (lt_or_ge x (16 * bx)))))
      (within_or_not before x y))
      (within_or_not near x y)
    where
      near : Area
      near = near_area w h 0 bx by

      before : Area
      before = swept_area w h bx by

      after : Area
      after = swept_area w h (bx + 1) by

  -- a piece that still waits did wait, and is none of those done
  still_waits : (bx by cx cy : ℕ) → piece_waits w h (swept w h p bx by) cx cy ≡ true → (piece_waits w h p cx cy ≡ true) × (by ≡ cy → bx ≤ cx)
  still_waits bx by cx cy e = (
    piece_as w h (swept w h p bx by) p cx cy (λ x y f i. painted_off p (swept_area w h bx by) 0 x y (λ z. i.kind (painted_in p (swept_area w h bx by) 0 x y z))) e,
    λ r.
        let a = piece_has w h (swept w h p bx by) cx cy e in
        let f = a.2 in
        let i = a.3 in
        ⊎_elim
        (λ (z : cx < bx).
        absurd (i.kind (painted_in p (swept_area w h bx by) 0 a.0 a.1 (in_sweep w h bx by a.0 a.1 i.column i.row (omega (arith, f.right_of)) (omega (arith, f.low)) (omega (arith, f.high))))))
        (λ (z : bx ≤ cx). z)
        (lt_or_ge cx bx),
  )

  -- ---- from the lowest on
  module _ {b by : ℕ} (l : Lowest w h p b by) where
    -- no square waits in a lower row
    pub rows_below : (x y : ℕ) → x < w → y < 16 * by → p x y ≡ 0
    rows_below x y u v =
        idle_square w h p x y u (omega (arith, l.row)) (is_false (piece_waits w h p (x / 16) (y / 16)) (λ e. ⊎_elim (λ z. omega arith) (λ z. omega (arith, z.0)) (l.least (x / 16) (y / 16) e)))

    -- no piece of its row waits before it
    pub swept_start : (x y : ℕ) → x < w → y < h → swept w h p b by x y ≡ p x y
    swept_start x y u v =
        swept_skip 0 b by (omega arith) (λ c z m. is_false (piece_waits w h p c by) (λ e. ⊎_elim (λ q. omega arith) (λ q. omega (arith, q.1)) (l.least c by e))) x y u v
        ∙ painted_off p (swept_area w h 0 by) 0 x y (λ i. omega (arith, i.right_of))

    -- with the pieces before it done, a piece of the row that waits is the lowest
    pub swept_lowest : (bx : ℕ) → piece_waits w h p bx by ≡ true → Some (block bx by) ≡ lowest_block w h (swept w h p bx by)
    swept_lowest bx e = block_lowest w h (swept w h p bx by) (Some (block bx by)) (record {
      column = (waits_inside w h p bx by e).0;
      row = l.row;
      waits = piece_as w h p (swept w h p bx by) bx by (λ x y f i. sym (painted_off p (swept_area w h bx by) 0 x y (λ z. omega (arith, f.left_of, z.right_of)))) e;
      least = λ cx cy g.
          let s = still_waits bx by cx cy g in
          ⊎_elim (λ (z : by < cy). inl z) (λ (z : (by ≡ cy) × (b ≤ cx)). inr (z.0, s.1 z.0)) (l.least cx cy s.0);
    })
