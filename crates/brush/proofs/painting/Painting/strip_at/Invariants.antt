use Prim.Native.Nat.{◌-◌, ◌<◌}
use mathlib.Core.Path.{◌≡◌}
use Rattle.plane.specs.Words.{count, height, width}
use Rattle.brush.specs.Brush.{Steady, goal}
use Rattle.brush.proofs.painting.Painting.strip_at.Given as goal

abbrev pub invariant-loop-r : goal.invariant-loop-r
invariant-loop-r l = (l.h ≡ height l.self.words) × (l.k < count l.self.words) × Steady (width l.self.words) (height l.self.words) (goal l.self.words l.self.brush) l.x l.y l.r

abbrev pub decreases-loop-r : goal.decreases-loop-r
decreases-loop-r l = l.h - l.r.top
