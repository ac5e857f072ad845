-- The tests of the commands as Booleans, and the number that they give.
use Rattle.std.specs.Prelude.{ℕ, Bool, cond, ◌&&◌, List, [], ◌∷◌, length, leb, ltb}
use Rattle.plane.specs.declared.tile.Area.{Area}
use Rattle.plane.specs.Picture.{tiles}
use Rattle.plane.specs.Words.{width, height, room_in}
use Rattle.tables.specs.Like.{painted_of}
use Rattle.sheet.specs.Layout.{Layout}

-- the number of the first test that fails, 0 if all pass; a command lists them in rising number
abbrev pub first_no : List (ℕ × Bool) → ℕ
first_no [] = 0
first_no (c ∷ cs) = cond c.1 (first_no cs) c.0

-- are W, H and T in their ranges
unfoldable pub in_range : ℕ → ℕ → ℕ → Bool
in_range w h t = (leb 1 w && leb w 4096) && ((leb 1 h && leb h 4096) && (leb 2 t && leb t 16))

-- is the area not empty, and does it lie in a window w by h
unfoldable pub area_in : ℕ → ℕ → Area → Bool
area_in w h a = (ltb a.x1 a.x2 && ltb a.y1 a.y2) && (leb a.x2 w && leb a.y2 h)

-- has a table room for its picture with the area set to a type
unfoldable pub has_room : List ℕ → Area → ℕ → Bool
has_room ws a k = leb (length (tiles (width ws) (height ws) (painted_of ws a k))) (room_in (length ws))

-- have material and waiting, both painted, no more tiles than room
unfoldable pub both_fit : Layout → Area → ℕ → Bool
both_fit l a k = has_room l.material a k && has_room l.waiting a 1
