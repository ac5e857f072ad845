-- The first i tiles have all their words: `StitchedTo` with the loop's variable for its end.
use native.Mathlib.Omega.{arith}
use Rattle.stitches.proofs.Stitches.{some_span, stitched_more, tight_still}
use Rattle.stitches.proofs.stitch.stitch_from.Goals as goal

pub links_of-links-requires-clause-tight : goal.links_of-links-requires-clause-tight
links_of-links-requires-clause-tight c = tight_still c.requires.tight c.loop-i.invariant

pub links_of-links-requires-clause-right_nonzero : goal.links_of-links-requires-clause-right_nonzero
links_of-links-requires-clause-right_nonzero c = some_span c.requires.tight (omega arith) c.loop-i.invariant c.nth.ensures

pub loop-i-preserved : goal.loop-i-preserved
loop-i-preserved c = stitched_more c.loop-i.invariant c.links_of-links.ensures c.nth.ensures c.put_links.ensures
