-- A stitch to a tile that touches is a true stitch, since a tile is a rectangle; in a plane a true stitch is to a tile that touches, since no two tiles share a square.
use Prim.Native.Nat.{ℕ, ◌<◌, ◌≤◌}
use native.Mathlib.Omega.{arith}
use mathlib.Core.Path.{◌≡◌}
use mathlib.Core.Logic.{⊎_elim}
use mathlib.Core.List.{List}
use lib.Dec.{ltb}
use borrow.Author.Rules.{rules}
use borrow.Author.Tests.{lt-ltb, le-ltb}
use Rattle.plane.specs.declared.side.Side.{Side}
use Rattle.plane.specs.Words.{count}
use Rattle.plane.specs.Plane.{Boxes, Stitched, Plane}
use Rattle.plane.proofs.Basics.{lt_or_ge}
use Rattle.plane.proofs.ToTable.{ends_there, begins_there, ends_below, begins_above}
use Rattle.vet.specs.Checks.{Touches, Joint, Joints}

module _ {ws : List ℕ} {m n s : ℕ} {side : Side} {line p : ℕ} where
  -- a stitch where its tile is inside, and where it is outside
  either : (m < n → Touches ws s side line p) → (n ≤ m → s ≡ 65535) → Joint ws (ltb m n) s side line p
  either f g = ⊎_elim (λ (u : m < n). rw (lt-ltb m n u) (f u)) (λ (u : n ≤ m). rw (le-ltb m n u) (g u)) (lt_or_ge m n)

pub joints_stitched : (ws : List ℕ) (i : ℕ) → Boxes ws → Joints ws i → Stitched ws i
joints_stitched ws i B J = record {
  lb = (λ a. let q = rw lt-ltb at J.lb in let b = B.box _ q.counted in search rules, λ u. rw le-ltb at J.lb);
  bl = (λ a. let q = rw lt-ltb at J.bl in let b = B.box _ q.counted in search rules, λ u. rw le-ltb at J.bl);
  tr = (λ a. let q = rw lt-ltb at J.tr in let b = B.box _ q.counted in search rules, λ u. rw le-ltb at J.tr);
  rt = (λ a. let q = rw lt-ltb at J.rt in let b = B.box _ q.counted in search rules, λ u. rw le-ltb at J.rt);
}

pub plane_joints : (ws : List ℕ) (i : ℕ) → Plane ws → i < count ws → Joints ws i
plane_joints ws i P u =
    let b = P.boxes.box i u in
    let s = P.stitches i u in
    record {
      lb = either (λ a. let n = s.lb.0 a in let e = ends_below ws P i _ _ u n.counted a (omega arith) b.wide n.held in search rules) s.lb.1;
      bl = either (λ a. let n = s.bl.0 a in let e = ends_there ws P i _ _ u n.counted a (omega arith) b.tall n.held in search rules) s.bl.1;
      tr = either (λ a. let n = s.tr.0 a in let e = begins_there ws P i _ _ u n.counted (omega arith) (omega arith) n.held in search rules) s.tr.1;
      rt = either (λ a. let n = s.rt.0 a in let e = begins_above ws P i _ _ u n.counted (omega arith) (omega arith) n.held in search rules) s.rt.1;
    }
