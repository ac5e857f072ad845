-- The rows covered so far: `ZoneSoFar`.
use native.Mathlib.Omega.{arith}
use mathlib.Core.Path.{◌∙◌, ap}
use Rattle.plane.specs.declared.tile.Area.{Area}
use Rattle.strips.proofs.Covers.{zone_more}
use Rattle.strips.proofs.cover.cover_zone.Goals as goal

pub loop-y-preserved : goal.loop-y-preserved
loop-y-preserved c = (c.cover_row.auto.work ∙ c.loop-y.invariant.0, c.seek-near.ensures.names.counted, zone_more c.loop-y.invariant.2 c.in_ok-s.ensures (omega (arith, c.min-f.ensures, c.height.ensures.value, ap (λ (a : Area). a.y2) c.area-a.ensures.value, c.loop-y-test.true)))
