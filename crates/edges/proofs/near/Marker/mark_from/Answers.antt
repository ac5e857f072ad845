-- `Marker::mark_from`. At the rim nothing is marked; inside, what the rule's edge marks.
use mathlib.Core.Bool.{true}
use mathlib.Core.Path.{refl}
use native.Mathlib.Omega.{arith}
use Rattle.edges.specs.Edge.{goes}
use Rattle.edges.proofs.Edges.{from_rim, from_here}
use Rattle.edges.proofs.Marking.{goes_on}
use Rattle.edges.proofs.near.Marker.mark_from.Goals.{else-at-ge83-via-then-at-ge83+else-at-lt6641, else-at-ge83-via-else-at-ge83}
use Rattle.edges.proofs.near.Marker.mark_from.Goals as goal

pub returns-then-at-lt6641 : goal.returns-then-at-lt6641
unfolding goes
returns-then-at-lt6641 c = rw (← c.self.view_is) (from_here _ true _ _ _ c.if-at-ge83.true c.if-at-lt6641.true (goes_on _ _ _ _ true refl c.mark_edge.ensures))

pub returns-else-at-ge83 : goal.returns-else-at-ge83
returns-else-at-ge83 c = from_rim _ _ _ _ _ (λ a b. elim c.else-at-ge83.branch [
  | else-at-ge83-via-then-at-ge83+else-at-lt6641 w ↦ let l = w.if-at-lt6641 in omega arith
  | else-at-ge83-via-else-at-ge83 w ↦ let l = w.if-at-ge83 in omega arith
])
