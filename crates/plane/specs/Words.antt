-- The words of a table, its tiles, the picture that they show, and what it is to be a table.
use Rattle.std.specs.Prelude.{ℕ, ◌+◌, ◌-◌, ◌*◌, ◌/◌, ◌≤◌, ◌<◌, ◌≡◌, Bool, true, false, List, [], ◌∷◌, length, get_or}
use Rattle.plane.specs.declared.tile.Tile.{Tile}
use Rattle.plane.specs.Picture.{Picture, joined, holds, number_from, table}

-- how many tiles a table has
abbrev pub count : List ℕ → ℕ
count ws = get_or ws 0 0

-- W, the window's width
abbrev pub width : List ℕ → ℕ
width ws = get_or ws 1 0

-- H, the window's height
abbrev pub height : List ℕ → ℕ
height ws = get_or ws 2 0

-- T, the number of types
abbrev pub kinds : List ℕ → ℕ
kinds ws = get_or ws 3 0

-- word k of tile i: left, bottom, right, top, type, lb, bl, tr, rt
abbrev pub word : List ℕ → ℕ → ℕ → ℕ
word ws i k = get_or ws (4 + 9 * i + k) 0

-- tile i
abbrev pub tile_of : List ℕ → ℕ → Tile
tile_of ws i = record { left = word ws i 0; bottom = word ws i 1; right = word ws i 2; top = word ws i 3; kind = word ws i 4 }

-- the tiles f 0 .. f (n - 1)
unfoldable pub up_to : ℕ → (ℕ → Tile) → List Tile
unfolding joined
up_to n f = joined n (λ i. f i ∷ [])

-- all tiles of a table
abbrev pub tiles_of : List ℕ → List Tile
tiles_of ws = up_to (count ws) (tile_of ws)

-- the type of the first tile that holds (x,y), 0 where none does
unfoldable pub kind_in : List Tile → Picture
unfolding holds
kind_in [] x y = 0
kind_in (t ∷ ts) x y = elim (holds t x y) [ true ↦ t.kind | false ↦ kind_in ts x y ]

-- the picture that a table shows
abbrev pub picture_of : List ℕ → Picture
picture_of ws = kind_in (tiles_of ws)

-- the number of the tile that holds (x,y), 65535 where none does
abbrev pub number_at : List ℕ → ℕ → ℕ → ℕ
number_at ws x y = number_from 0 (tiles_of ws) x y

-- W, H and T are in their ranges
pub record InRange (w h t : ℕ) : Type 0 where
  pub wide : 1 ≤ w
  pub wide_most : w ≤ 4096
  pub tall : 1 ≤ h
  pub tall_most : h ≤ 4096
  pub two : 2 ≤ t
  pub sixteen : t ≤ 16

-- the header's numbers are in their ranges
pub record Header (ws : List ℕ) : Type 0 where
  pub some : 1 ≤ count ws
  pub sizes : InRange (width ws) (height ws) (kinds ws)

-- the room of a table of n words
abbrev pub room_in : ℕ → ℕ
room_in n = (n - 4) / 9

-- a table has 4+9c words, c from 1 to 3,600
pub record TableLength (n : ℕ) : Type 0 where
  pub words : n ≡ 4 + 9 * room_in n
  pub least : 1 ≤ room_in n
  pub most : room_in n ≤ 3600

-- a table of room c: that of the picture that it shows
pub record IsTable (c : ℕ) (ws : List ℕ) : Type 0 where
  pub header : Header ws
  pub room : count ws ≤ c
  pub types : (x y : ℕ) → x < width ws → y < height ws → picture_of ws x y < kinds ws
  pub same : ws ≡ table c (width ws) (height ws) (kinds ws) (picture_of ws)

-- the words are a picture's table, for the room that they have
abbrev pub PictureTable : List ℕ → Type 0
PictureTable ws = IsTable (room_in (length ws)) ws

-- a test's answer: what holds where it is true, and what is refuted where it is false
abbrev pub Tells : Bool → Type 0 → Type 0 → Type 0
Tells true P Q = P
Tells false P Q = Q → ⊥

-- a test's answer where both are one
abbrev pub Says : Bool → Type 0 → Type 0
Says b P = Tells b P P
