use Prim.Native.Nat.{◌-◌, ◌<◌}
use mathlib.Core.Path.{◌≡◌}
use Rattle.plane.specs.Words.{count, height, width}
use Rattle.brush.specs.Brush.{Flat, goal}
use Rattle.brush.proofs.painting.Painting.run_right.Given as goal

abbrev pub invariant-loop-r : goal.invariant-loop-r
invariant-loop-r l = (l.w ≡ width l.self.words) × (l.k < count l.self.words) × Flat (width l.self.words) (height l.self.words) (goal l.self.words l.self.brush) l.x l.y l.r × (l.r.bottom ≡ l.y)

abbrev pub decreases-loop-r : goal.decreases-loop-r
decreases-loop-r l = l.w - l.r.right
