-- The stitches that a slice of tiles can take over from a table that shares tiles with it.
use Rattle.std.specs.Prelude.{Option, Some, None, ℕ, ◌-◌, ◌≡◌, List, MatchOption}
use Rattle.plane.specs.declared.tile.Tile.{Tile}
use Rattle.plane.specs.Plane.{Link, Names}
use Rattle.plane.specs.Words.{height, width}
use Rattle.shared.specs.declared.shared.Links.{Links}
use Rattle.stitches.specs.Stitch.{StitchTo}

-- the tiles of the table ws at the four squares to which the stitches of a tile t lead, whether or not ws has that tile
pub record LinksIn (ws : List ℕ) (t : Tile) (l : Links ℕ) : Type 0 where
  pub lb : Link ws 0 t.bottom l.lb t.left (t.bottom - 1)
  pub bl : Link ws 0 t.left l.bl (t.left - 1) t.bottom
  pub tr : Link ws t.right (width ws) l.tr t.right (t.top - 1)
  pub rt : Link ws t.top (height ws) l.rt (t.right - 1) t.top

-- the tile of the table ws that holds a square; 65535 where there is no square
abbrev pub SeekTo : List ℕ → Option (ℕ × ℕ) → ℕ → Type 0
SeekTo ws (Some s) r = Names ws r s.0 s.1
SeekTo ws None r = r ≡ 65535

-- the word of a stitch: the known one, or one to the square
abbrev pub KnownOr : List ℕ → ℕ → Option (ℕ × ℕ) → Option ℕ → ℕ → Type 0
KnownOr ws n square known r = MatchOption known (StitchTo ws n square r) (λ g. r ≡ g)
