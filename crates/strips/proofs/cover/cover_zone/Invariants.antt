use Prim.Native.Nat.{◌+◌, ◌-◌, ◌<◌, min}
use mathlib.Core.Path.{◌≡◌}
use lib.ListN.{length}
use Rattle.plane.specs.Words.{count, height, width}
use Rattle.brush.specs.Brush.{goal}
use Rattle.strips.proofs.Covers.{ZoneSoFar}
use Rattle.strips.proofs.cover.cover_zone.Given as goal

abbrev pub invariant-loop-y : goal.invariant-loop-y
invariant-loop-y l = (length l.work ≡ length l.initial.work) × (l.near < count l.p.words) × ZoneSoFar (width l.p.words) (height l.p.words) (goal l.p.words l.p.brush) l.room l.initial.work l.n l.x l.e (min (l.p.brush.area.y2 + 1) (height l.p.words)) l.y l.work l.m

abbrev pub decreases-loop-y : goal.decreases-loop-y
decreases-loop-y l = l.f - l.y
