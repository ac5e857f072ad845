-- A row of pieces done from left to right: what waits when a part of it is done.
use Rattle.std.specs.Prelude.{ℕ, ◌+◌, ◌*◌, min}
use Rattle.plane.specs.declared.tile.Area.{Area}
use Rattle.plane.specs.Picture.{Picture, area, painted}

-- the squares of the first bx pieces of row by
abbrev pub swept_area : ℕ → ℕ → ℕ → ℕ → Area
swept_area w h bx by = area 0 (16 * by) (min w (16 * bx)) (min h (16 * by + 16))

-- what waits when the first bx pieces of row by are done
abbrev pub swept : ℕ → ℕ → Picture → ℕ → ℕ → Picture
swept w h p bx by = painted p (swept_area w h bx by) 0
