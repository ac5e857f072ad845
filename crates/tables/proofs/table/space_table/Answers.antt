-- One tile, its stitches, the header and zero words, by `space_built` and `finished`.
use mathlib.Core.Path.{◌∙◌}
use Rattle.tables.proofs.Finish.{finished}
use Rattle.tables.proofs.OneTile.{space_built}
use Rattle.tables.proofs.table.space_table.Goals as goal

pub returns : goal.returns
returns c = finished (space_built c.put_tile.ensures c.requires.2 c.requires.3 c.requires.1) c.stitch.ensures c.put_header.ensures c.clear_from.ensures (c.put_tile.ensures.long ∙ c.requires.0)
