-- The first i tiles have all their words, and the tiles stay shared: `StitchedTo` with the loop's variable for its end.
use mathlib.Core.Path.{refl}
use Rattle.stitches.proofs.Moves.{alike_still}
use Rattle.stitches.proofs.Stitches.{stitched_more, tight_still}
use Rattle.stitches.proofs.restitch.stitch_shared.Goals as goal

pub links_now-links-requires-clause-tight : goal.links_now-links-requires-clause-tight
links_now-links-requires-clause-tight c = tight_still c.requires.tight c.loop-i.invariant

pub links_now-links-requires-clause-alike : goal.links_now-links-requires-clause-alike
links_now-links-requires-clause-alike c = alike_still c.requires.alike c.loop-i.invariant

pub loop-i-preserved : goal.loop-i-preserved
loop-i-preserved c = stitched_more c.loop-i.invariant c.links_now-links.ensures refl c.put_links.ensures
