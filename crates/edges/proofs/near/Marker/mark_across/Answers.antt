-- `Marker::mark_across`. One direction, and for a fourway rule the other three one after another.
use Rattle.edges.proofs.Edges.{one_way, four_ways}
use Rattle.edges.proofs.near.Marker.mark_across.Goals as goal

pub returns-else-r-ne0 : goal.returns-else-r-ne0
returns-else-r-ne0 c = one_way _ _ _ _ c.if-r-ne0.false c.mark_from.ensures

pub returns-then-r-ne0 : goal.returns-then-r-ne0
returns-then-r-ne0 c =
    four_ways _ _ _ _ c.if-r-ne0.true c.mark_from.ensures
    (rw (c.mirrored.ensures.0, c.mirrored.ensures.1) at c.mark_from-then-r-ne0.ensures)
    (rw (c.reversed.ensures.0, c.reversed.ensures.1) at c.mark_from-then-r-ne0-2.ensures)
    (rw (c.reversed-then-r-ne0.ensures.0, c.reversed-then-r-ne0.ensures.1, c.mirrored-then-r-ne0.ensures.0, c.mirrored-then-r-ne0.ensures.1) at c.mark_from-then-r-ne0-3.ensures)
