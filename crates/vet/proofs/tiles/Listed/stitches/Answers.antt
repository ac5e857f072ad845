-- Stitches to tiles that touch are true (`joints_stitched`), and a plane's are to tiles that touch (`plane_joints`).
use Rattle.std.proofs.Common.{rules}
use native.Mathlib.Omega.{arith}
use Rattle.plane.specs.Plane.{Stitches, Plane}
use Rattle.vet.specs.Checks.{Joints}
use Rattle.vet.proofs.Joints.{joints_stitched, plane_joints}
use Rattle.vet.proofs.Ranges.{tells_all}
use Rattle.vet.proofs.tiles.Listed.stitches.Goals as goal

pub returns : goal.returns
returns c = let ws = c.args.self.words.now in
    tells_all c.all.new.self _ c.all.result 0 c.count.result (Joints ws) (λ i. Joints ws i → ⊥) (Stitches ws) (Plane ws) c.all.ensures.ran (search rules) (λ x q k. search rules) (λ x q k. search rules)
    (λ h i u. joints_stitched ws i c.requires (h i (omega arith) (omega arith)))
    (λ i u v n P. n (plane_joints ws i P (omega arith)))
