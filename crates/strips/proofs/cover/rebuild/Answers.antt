-- What is kept covers all below the area, the zone is covered, the tiles that begin higher are put behind, and so all is built.
use mathlib.Core.Path.{◌∙◌}
use Rattle.strips.proofs.Builds.{built_all, built_over, kept_under}
use Rattle.strips.proofs.cover.rebuild.Goals as goal

pub cover_zone-requires-clause-all_under : goal.cover_zone-requires-clause-all_under
cover_zone-requires-clause-all_under c = kept_under c.count.ensures.given c.low_tiles-low.ensures c.keep-k.ensures

pub returns-then-room-r : goal.returns-then-room-r
returns-then-room-r c = built_over c.count.ensures.given c.low_tiles-low.ensures c.keep-k.ensures c.in_ok-m.ensures (c.from-n.ensures ∙ c.count.ensures.value) c.from-j.ensures c.if-room-r.true

pub returns : goal.returns
returns c = built_all c.count.ensures.given c.low_tiles-low.ensures c.keep-k.ensures c.in_ok-m.ensures (c.from-n.ensures ∙ c.count.ensures.value) c.from-j.ensures c.if-room-r.false (rw (c.from.ensures.0, c.from.ensures.1, c.table.ensures, ← c.count.ensures.value, ← c.from-n.ensures) at c.append.ensures)
