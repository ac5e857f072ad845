-- The tile that was named, clipped, by `named_flat`.
use mathlib.Core.Path.{ap}
use Rattle.brush.specs.Brush.{Canvas}
use Rattle.brush.proofs.Pieces.{named_flat}
use Rattle.brush.proofs.painting.Painting.piece.Goals as goal

pub returns : goal.returns
returns c = named_flat c.tile.ensures.given c.requires c.tile.ensures.value (ap (λ (d : Canvas). d.brush) c.self.view_is) c.clip.ensures
