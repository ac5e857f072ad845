-- What stands at each moment of a history, by one induction: the layout is sound and of its first size, squares far from all that waits have the full check's marks, and the work is bounded.
use Prim.Native.Nat.{ℕ, zero, suc, ◌+◌, ◌≤◌, ◌<◌}
use native.Mathlib.Omega.{arith}
use mathlib.Core.Bool.{true}
use mathlib.Core.Path.{◌≡◌, sym, ◌∙◌, subst}
use mathlib.Core.List.{List}
use Rattle.plane.specs.declared.tile.Area.{Area}
use Rattle.plane.specs.Picture.{painted}
use Rattle.plane.specs.Refusal.{if_done}
use Rattle.plane.specs.Words.{height, kinds, picture_of, width}
use Rattle.plane.proofs.Lowests.{left_as_is}
use Rattle.rules.specs.Words.{halo_of, rules_of, sound_at}
use Rattle.waits.specs.Pieces.{touched, waiting_pieces}
use Rattle.piece.specs.Remark.{full_mark, near_area, remarked}
use Rattle.piece.proofs.Counts.{no_squares_wait, painted_pieces}
use Rattle.sweep.specs.Run.{checked_piece, waiting_of}
use Rattle.drawing.specs.Create.{Created}
use Rattle.sheet.specs.Layout.{Layout, SoundLayout}
use Rattle.drawing.specs.Paint.{Painted}
use Rattle.sheet.specs.Ready.{Fit}
use Rattle.checker.proofs.CheckStays.{check_carries, check_idle}
use Rattle.sweep.proofs.OnePiece.{errors_show, waiting_show}
use Rattle.checker.proofs.Runs.{Doable, one_fewer, piece_fit, piece_in}
use Rattle.drawing.proofs.Shows.{create_shows, create_size, paint_errors, paint_shows, paint_size}
use Rattle.drawing.proofs.Stays.{create_makes, paint_keeps}
use Rattle.layout.specs.History.{Far, GoodRules, History, created, full_marks, then_checked, then_not_checked, then_not_created, then_painted, then_reported}
use Rattle.layout.proofs.FarSquares.{Agree, FarRight, blank_right, paint_right, piece_right}

-- what stands of the tables after d pieces done and paints that touched s in all
record Stands (rules : List ℕ) (used w h t : ℕ) (l : Layout) (d s : ℕ) : Type 0 where
  good : GoodRules rules used t
  sound : SoundLayout l
  wide : width l.material ≡ w
  tall : height l.material ≡ h
  types : kinds l.material ≡ t
  right : FarRight w h (halo_of rules used) (picture_of l.waiting) (picture_of l.errors) (full_mark w h (picture_of l.material) (rules_of rules used))
  bound : d + waiting_of l ≤ s

-- the pieces that wait, by the size of the material
waiting_in : {l : Layout} {w h : ℕ} → SoundLayout l → width l.material ≡ w → height l.material ≡ h → waiting_of l ≡ waiting_pieces w h (picture_of l.waiting)
waiting_in {l} S e f =
    let M = S.tables.waiting in
    λ i. waiting_pieces ((M.wide ∙ e) i) ((M.tall ∙ f) i) (picture_of l.waiting)

module _ {rules : List ℕ} {used w h t : ℕ} where
  -- ---- create
  created_stands : {before after : Layout} → GoodRules rules used t → Created before w h t 0 after → Stands rules used w h t after 0 0
  created_stands {after = l} G p =
      let z = create_size p in
      let S = create_makes p in
      record {
        good = G;
        sound = S;
        wide = z.0;
        tall = z.1;
        types = z.2;
        right = blank_right w h G (picture_of l.material) (picture_of l.errors) (picture_of l.waiting) (λ x y u v. (create_shows p x y u v).0) (λ x y u v. (create_shows p x y u v).1);
        bound = omega (arith, waiting_in S z.0 z.1, no_squares_wait w h (picture_of l.waiting) (λ x y u v. (create_shows p x y u v).2));
      }

  -- ---- paint
  painted_stands : {before after : Layout} {d s : ℕ} {work zeros : List ℕ} {a : Area} {kind answer : ℕ} → Stands rules used w h t before d s
      → Painted before work a kind answer after zeros → Stands rules used w h t after d (s + if_done answer (touched w h a) 0)
  painted_stands {before} {after} {d} {s} {a = a} {kind = kind} {answer = zero} S p =
      let z = paint_size p in
      let e : width after.material ≡ w = z.0 ∙ S.wide in
      let f : height after.material ≡ h = z.1 ∙ S.tall in
      let A = paint_keeps p S.sound in
      let m : Agree w h (picture_of after.material) (painted (picture_of before.material) a kind) = (λ x y u v. (paint_shows p x y (omega (arith, S.wide)) (omega (arith, S.tall))).0) in
      let q : Agree w h (picture_of after.waiting) (painted (picture_of before.waiting) a 1) = (λ x y u v. (paint_shows p x y (omega (arith, S.wide)) (omega (arith, S.tall))).1) in
      record {
        good = S.good;
        sound = A;
        wide = e;
        tall = f;
        types = z.2 ∙ S.types;
        right = subst (λ (es : List ℕ). FarRight w h (halo_of rules used) (picture_of after.waiting) (picture_of es) (full_mark w h (picture_of after.material) (rules_of rules used))) (sym (paint_errors p))
            (paint_right w h S.good (picture_of before.material) (picture_of after.material) (picture_of before.errors) (picture_of before.waiting) (picture_of after.waiting) a kind m q S.right);
        bound = omega (arith, S.bound, waiting_in S.sound S.wide S.tall, waiting_in A e f, painted_pieces w h (picture_of before.waiting) (picture_of after.waiting) a q);
      }
  painted_stands {before} {after} {d} {s} {answer = suc n} S p =
      subst (λ (l : Layout). Stands rules used w h t l d (s + 0)) (sym p.outcome.leaves) (subst (λ (z : ℕ). Stands rules used w h t before d z) (omega arith) S)

  -- ---- a piece of check
  piece_stands : {s : ℕ} (d : ℕ) (l : Layout) (bx by : ℕ) → Doable l rules used bx by → Stands rules used w h t l d s → Stands rules used w h t (checked_piece l (rules_of rules used) (halo_of rules used) bx by) (d + 1) s
  piece_stands d l bx by D S =
      let rs = rules_of rules used in
      let k = halo_of rules used in
      let m = checked_piece l rs k bx by in
      let P = piece_in D in
      let F = piece_fit D in
      let E = S.sound.tables.errors in
      let Q = S.sound.tables.waiting in
      let e : Agree w h (picture_of m.errors) (remarked w h (picture_of l.material) rs k bx by (picture_of l.errors)) = (λ x y u v.
      errors_show P D.fits x y (omega (arith, E.wide, S.wide)) (omega (arith, E.tall, S.tall)) ∙ (λ i. remarked (S.wide i) (S.tall i) (picture_of l.material) rs k bx by (picture_of l.errors) x y)) in
      let q : Agree w h (picture_of m.waiting) (painted (picture_of l.waiting) (near_area w h 0 bx by) 0) = (λ x y u v.
      waiting_show P D.fits x y (omega (arith, Q.wide, S.wide)) (omega (arith, Q.tall, S.tall)) ∙ (λ i. painted (picture_of l.waiting) (near_area ((Q.wide ∙ S.wide) i) ((Q.tall ∙ S.tall) i) 0 bx by) 0 x y)) in
      record {
        good = S.good;
        sound = record { lengths = F.lengths.tables; tables = F.tables };
        wide = S.wide;
        tall = S.tall;
        types = S.types;
        right = piece_right w h k rs (picture_of l.material) (picture_of l.errors) (picture_of m.errors) (picture_of l.waiting) (picture_of m.waiting) bx by e q S.right;
        bound = omega (arith, S.bound, one_fewer D);
      }

  -- ---- at each moment
  stands : {l : Layout} {d s : ℕ} → History rules used w h t l d s → Stands rules used w h t l d s
  stands (created G p) = created_stands G p
  stands (then_painted H p) = painted_stands (stands H) p
  stands (then_checked {done = d} {sum = s} H c) = check_carries rules used (λ (n : ℕ) (l : Layout). Stands rules used w h t l n s) piece_stands d c (stands H)
  stands (then_not_checked {done = d} {sum = s} H c) = subst (λ (l : Layout). Stands rules used w h t l d s) (sym (check_idle c)) (stands H)
  stands (then_not_created {done = d} {sum = s} {answer = n} H c u) = subst (λ (l : Layout). Stands rules used w h t l d s) (sym (c.outcome.leaves ∙ sym (left_as_is n _ _ (omega (arith, u))))) (stands H)
  stands (then_reported H r) = stands H

  module _ {l : Layout} {d s : ℕ} (H : History rules used w h t l d s) where
    -- the tables are a sound layout at every moment
    pub history_sound : SoundLayout l
    history_sound = (stands H).sound

    -- the window and the types are those of the create
    pub history_size : (width l.material ≡ w) × (height l.material ≡ h) × (kinds l.material ≡ t)
    history_size = let S = stands H in (S.wide, S.tall, S.types)

    -- the layout and the rules pass the tests of every call
    pub history_fit : Fit l rules used
    history_fit =
        let S = stands H in
        record { lengths = record { tables = S.sound.lengths; list = S.good.list }; tables = S.sound.tables; sound = λ i u. subst (λ (n : ℕ). sound_at rules n i ≡ true) (sym S.types) (S.good.sound i u) }

    -- at each moment, every square farther than the halo from all waiting squares carries the mark that a full check would give
    pub far_squares_right : (x y : ℕ) → x < w → y < h → Far w h (halo_of rules used) (picture_of l.waiting) x y → picture_of l.errors x y ≡ full_marks l rules used x y
    far_squares_right x y u v far = let S = stands H in S.right x y u v far ∙ sym (λ i. full_mark (S.wide i) (S.tall i) (picture_of l.material) (rules_of rules used) x y)

    -- the pieces done and the pieces waiting are no more than the sum over the accepted paints of the pieces that each touched
    pub work_bounded : d + waiting_of l ≤ s
    work_bounded = (stands H).bound
