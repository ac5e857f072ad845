-- What is known is right, by `known_links`: all four, or those that need not be looked for.
use Rattle.stitches.proofs.Moves.{known_links, links_all, links_found}
use Rattle.stitches.proofs.restitch.links_now.Goals as goal

pub returns-in-Some : goal.returns-in-Some
returns-in-Some c = links_all (known_links c.requires.alike c.requires.tight c.links_before-before.ensures c.moved-known.ensures) c.in-Some.ensures

pub returns : goal.returns
returns c = links_found c.requires.tight (known_links c.requires.alike c.requires.tight c.links_before-before.ensures c.moved-known.ensures) (rw (c.nth.ensures, c.width.ensures.value, c.height.ensures.value) at c.ends_of-to.ensures) c.stitch_known.ensures c.stitch_known-2.ensures c.stitch_known-3.ensures c.stitch_known-4.ensures
