-- Questions to two small worked tables, by computing; the tables themselves stand in the checker's list of worked lines.
use Rattle.std.specs.Prelude.{ℕ, ◌≡◌, refl, List, [], ◌∷◌}
use Rattle.plane.specs.Area.{squares_in, tiles_in}
use Rattle.plane.specs.Picture.{table, painted, space, area}
use Rattle.ask.specs.Side.{neighbours_of}
use Rattle.plane.specs.Words.{number_at, tile_of, picture_of, kind_in, up_to}

-- ---- the first table: the bar is tile 1, with tile 0 on its left and tile 2 on its right
abbrev bar : List ℕ
bar = table 3 4 2 2 (painted space (area 1 0 2 2) 1)

pub at_bar : number_at bar 1 1 ≡ 1
unfolding table painted up_to
at_bar = refl

pub left_of_bar : neighbours_of bar (tile_of bar 1) 0 ≡ 0 ∷ []
unfolding table painted up_to neighbours_of
left_of_bar = refl

pub under_bar : neighbours_of bar (tile_of bar 1) 1 ≡ []
unfolding table painted up_to neighbours_of
under_bar = refl

pub right_of_bar : neighbours_of bar (tile_of bar 1) 2 ≡ 2 ∷ []
unfolding table painted up_to neighbours_of
right_of_bar = refl

-- the top of tile 0 of the second table has two neighbours, rising in x
pub above_two : neighbours_of (table 3 3 2 2 (painted space (area 0 1 1 2) 1)) (tile_of (table 3 3 2 2 (painted space (area 0 1 1 2) 1)) 0) 3 ≡ 1 ∷ 2 ∷ []
unfolding table painted up_to neighbours_of
above_two = refl

-- in the area 0 1 4 2 of the first table
pub bar_squares : squares_in (picture_of bar) 1 (area 0 1 4 2) ≡ 1
unfolding table painted up_to kind_in squares_in
bar_squares = refl

pub space_tiles : tiles_in bar 0 (area 0 1 4 2) ≡ 0 ∷ 2 ∷ []
unfolding table painted up_to tiles_in
space_tiles = refl
