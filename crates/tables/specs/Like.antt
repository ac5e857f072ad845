-- A table made like another one: of another picture, with its room, size and types.
use Rattle.std.specs.Prelude.{ℕ, ◌≤◌, List, length}
use Rattle.plane.specs.declared.tile.Area.{Area}
use Rattle.plane.specs.Picture.{Picture, tiles, table, painted, stamped}
use Rattle.plane.specs.Words.{width, height, kinds, picture_of, room_in}

-- the table of another picture, with the room, size and types of ws
abbrev pub table_like : List ℕ → Picture → List ℕ
table_like ws q = table (room_in (length ws)) (width ws) (height ws) (kinds ws) q

-- the picture has no more tiles than ws has room
abbrev pub HasRoom : List ℕ → Picture → Type 0
HasRoom ws q = length (tiles (width ws) (height ws) q) ≤ room_in (length ws)

-- the picture of ws with an area set to a type
abbrev pub painted_of : List ℕ → Area → ℕ → Picture
painted_of ws a k = painted (picture_of ws) a k

-- the picture of ws with an area set to bits
abbrev pub stamped_of : List ℕ → Area → List ℕ → Picture
stamped_of ws a rows = stamped (picture_of ws) a rows
