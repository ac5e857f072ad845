-- The guesses leave the tiles, by `stitched_from`.
use Rattle.stitches.proofs.Stitches.{stitched_from, tight_still}
use Rattle.stitches.proofs.stitch.stitch.Goals as goal

pub stitch_from-requires-clause-tight : goal.stitch_from-requires-clause-tight
stitch_from-requires-clause-tight c = tight_still c.requires.tight (stitched_from _ c.guess_links.ensures)
