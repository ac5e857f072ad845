-- The four words, by where they lead: `links_to`.
use Rattle.stitches.proofs.Stitches.{links_to}
use Rattle.stitches.proofs.stitch.links_of.Goals as goal

pub returns : goal.returns
returns c = links_to c.requires.tight c.ends_of-to.ensures c.stitch_to.ensures c.stitch_to-2.ensures c.stitch_to-3.ensures c.stitch_to-4.ensures
