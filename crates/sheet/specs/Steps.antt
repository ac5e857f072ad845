-- What the steps of report promise one another; no reader of its promise needs it.
use Rattle.std.specs.Prelude.{ℕ, List, [], ◌∷◌, length}
use Rattle.plane.specs.declared.tile.Area.{Area}
use Rattle.plane.specs.Area.{squares_in, tiles_in}
use Rattle.plane.specs.Listing.{Fits, listed}
use Rattle.plane.specs.Refusal.{◌unless◌, Outcome}
use Rattle.plane.specs.Words.{picture_of}

-- the errors of an area, and the slice that lists their tiles
pub record ErrorList : Type 0 where
  pub squares : ℕ
  pub tiles : ℕ
  pub slice : List ℕ

abbrev pub no_errors : List ℕ → ErrorList
no_errors out = record { squares = 0; tiles = 0; slice = out }

abbrev pub errors_of : List ℕ → Area → List ℕ → ErrorList
errors_of ws a out = record { squares = squares_in (picture_of ws) 1 a; tiles = length (tiles_in ws 1 a); slice = listed (tiles_in ws 1 a) out }

-- the errors of an area of a table: the number, and what is found
pub record ErrorsFound (ws : List ℕ) (a : Area) (out : List ℕ) (answer squares tiles : ℕ) (after : List ℕ) : Type 0 where
  pub outcome : Outcome (7 unless Fits (tiles_in ws 1 a) out ∷ []) (no_errors out) (errors_of ws a out) answer (record { squares = squares; tiles = tiles; slice = after })
