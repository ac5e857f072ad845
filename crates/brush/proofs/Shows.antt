-- A table's tiles are the strips of the picture that it shows: so with a brush for its window it is a painting.
use Prim.Native.Nat.{ℕ}
use mathlib.Core.Path.{◌≡◌, subst}
use mathlib.Core.List.{List}
use Rattle.plane.specs.Plane.{Plane}
use Rattle.plane.specs.Words.{count, height, tile_of, width}
use Rattle.brush.specs.declared.brush.Brush.{Brush}
use Rattle.brush.specs.Brush.{BrushIn, Canvas, Given, Shown}
use Rattle.plane.proofs.Index.{later, mem_up_to}
use Rattle.plane.proofs.ToTable.{plane_strips}

pub plane_shown : (ws : List ℕ) → Plane ws → Shown ws
plane_shown ws P =
    let S = plane_strips ws P in
    record {
      room = P.sized.whole;
      wide = P.header.sizes.wide_most;
      tall = P.header.sizes.tall_most;
      each = λ i u. S.each (tile_of ws i) (mem_up_to (count ws) (tile_of ws) i u);
      order = later (count ws) (tile_of ws) P.order;
      cover = P.cover;
    }

-- so a table and a brush for its window are a painting
pub plane_given : {ws : List ℕ} {b : Brush} → Plane ws → BrushIn (width ws) (height ws) b → Given ws b
plane_given {ws} P B = record { plane = P; shown = plane_shown ws P; brush = B }

-- what is so of a painting's fields is so of the painting
pub given_at : {c d : Canvas} → c ≡ d → Given c.words c.brush → Given d.words d.brush
given_at e G = subst (λ (x : Canvas). Given x.words x.brush) e G
