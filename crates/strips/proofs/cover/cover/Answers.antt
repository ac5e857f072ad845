-- The square's tile is found, or its strip is new: put in, or too many.
use Rattle.strips.proofs.Covers.{cover_strip, covers_full, covers_new, not_found}
use Rattle.strips.proofs.Grows.{new_fresh, part_sorted}
use Rattle.strips.proofs.cover.cover.Goals as goal

pub find_low-requires-clause-sorted : goal.find_low-requires-clause-sorted
find_low-requires-clause-sorted c = part_sorted c.requires.working.part

pub returns-then-room-at-clause-covers : goal.returns-then-room-at-clause-covers
returns-then-room-at-clause-covers c = covers_full c.requires.working c.if-room-at.true c.requires.near.in_x c.requires.near.in_y (not_found _ c.in_default.ensures)

pub insert-requires-clause-in_order_to : goal.insert-requires-clause-in_order_to
insert-requires-clause-in_order_to c = let C = c.requires.working in let U = c.strip_at-s.ensures in let g = not_found _ c.in_default.ensures in
    (C.part.order, new_fresh C.part (cover_strip C U c.requires.row_under g) U.steady.here g)

pub returns-clause-covers : goal.returns-clause-covers
returns-clause-covers c = let C = c.requires.working in let U = c.strip_at-s.ensures in
    covers_new c.spot_of-2.ensures.spot C c.if-room-at.false (cover_strip C U c.requires.row_under (not_found _ c.in_default.ensures)) U.steady.here c.insert.ensures
