-- Pictures, their strips and their tables. All of it computes.
use Rattle.std.specs.Prelude.{ℕ, zero, suc, ◌+◌, ◌-◌, ◌*◌, ◌/◌, ◌%◌, ◌^◌, Bool, true, false, not, cond, ◌&&◌, List, [], ◌∷◌, ◌++◌, map, length, get_or, replicate, eqb, leb, ltb}
use Rattle.plane.specs.declared.tile.Tile.{Tile}
use Rattle.plane.specs.declared.tile.Area.{Area}

-- the type of each square
abbrev pub Picture : Type 0
Picture = ℕ → ℕ → ℕ

-- the first number from `at` on, within `fuel` steps, that fails the test; `at + fuel` where none does
unfoldable pub extent : (ℕ → Bool) → ℕ → ℕ → ℕ
extent f at zero = at
extent f at (suc n) = elim (f at) [ true ↦ extent f (suc at) n | false ↦ at ]

-- does a run of one value begin at place i of a row
unfoldable pub starts : (ℕ → ℕ) → ℕ → Bool
starts f zero = true
starts f (suc i) = not (eqb (f i) (f (suc i)))

-- does a run begin at (x,y)
unfoldable pub begins : Picture → ℕ → ℕ → Bool
unfolding starts
begins p x y = starts (λ i. p i y) x

-- where the run of one type that holds (x,y) ends, in a window w wide
unfoldable pub run_end : ℕ → Picture → ℕ → ℕ → ℕ
unfolding extent
run_end w p x y = extent (λ i. eqb (p i y) (p x y)) x (w - x)

-- does row z have the run that begins at (x,y)
unfoldable pub same_run : ℕ → Picture → ℕ → ℕ → ℕ → Bool
unfolding begins run_end
same_run w p x y z = eqb (p x z) (p x y) && (begins p x z && eqb (run_end w p x z) (run_end w p x y))

-- is (x,y) the lower left square of a strip
unfoldable pub corner : ℕ → Picture → ℕ → ℕ → Bool
unfolding begins same_run
corner w p x zero = begins p x zero
corner w p x (suc y) = begins p x (suc y) && not (same_run w p x (suc y) y)

-- the row above the strip that begins at (x,y), in a window h high
unfoldable pub strip_top : ℕ → ℕ → Picture → ℕ → ℕ → ℕ
unfolding extent same_run
strip_top w h p x y = extent (λ z. same_run w p x y z) y (h - y)

-- the lists f 0 .. f (n - 1), joined
unfoldable pub joined : {A : Type 0} → ℕ → (ℕ → List A) → List A
joined zero f = []
joined (suc n) f = joined n f ++ f n

-- f 0 + .. + f (n - 1)
unfoldable pub sum_to : ℕ → (ℕ → ℕ) → ℕ
sum_to zero f = 0
sum_to (suc n) f = sum_to n f + f n

-- the strip that begins at (x,y), if one does
unfoldable pub cell : ℕ → ℕ → Picture → ℕ → ℕ → List Tile
unfolding corner strip_top run_end
cell w h p y x =
    cond (corner w p x y) (record { left = x; bottom = y; right = run_end w p x y; top = strip_top w h p x y; kind = p x y } ∷ []) []

-- the strips of a window w by h, by bottom and then left
unfoldable pub tiles : ℕ → ℕ → Picture → List Tile
unfolding joined cell
tiles w h p = joined h λ y. joined w λ x. cell w h p y x

-- is (x,y) a square of the tile
unfoldable pub holds : Tile → ℕ → ℕ → Bool
holds t x y = leb t.left x && (ltb x t.right && (leb t.bottom y && ltb y t.top))

-- the number of the first tile that holds (x,y), counted from n; 65535 where none does
unfoldable pub number_from : ℕ → List Tile → ℕ → ℕ → ℕ
unfolding holds
number_from n [] x y = 65535
number_from n (t ∷ ts) x y = elim (holds t x y) [ true ↦ n | false ↦ number_from (suc n) ts x y ]

-- f one place lower; 65535 where there is no lower place
unfoldable pub before : ℕ → (ℕ → ℕ) → ℕ
before zero f = 65535
before (suc x) f = f x

-- the nine words of a tile: its sides, its type, and its stitches lb, bl, tr, rt
unfoldable pub tile_words : List Tile → Tile → List ℕ
unfolding number_from before
tile_words ts t =
    t.left ∷ t.bottom ∷ t.right ∷ t.top ∷ t.kind
    ∷ before t.bottom (λ y. number_from 0 ts t.left y)
    ∷ before t.left (λ x. number_from 0 ts x t.bottom)
    ∷ number_from 0 ts t.right (t.top - 1)
    ∷ number_from 0 ts (t.right - 1) t.top
    ∷ []

-- lists, one behind the other
unfoldable pub concat : {A : Type 0} → List (List A) → List A
concat [] = []
concat (x ∷ xs) = x ++ concat xs

-- the words of a table of room c, w by h, with k types, that has the tiles ts
unfoldable pub written : ℕ → ℕ → ℕ → ℕ → List Tile → List ℕ
unfolding tile_words concat
written c w h k ts = (length ts ∷ w ∷ h ∷ k ∷ []) ++ concat (map (tile_words ts) ts) ++ replicate (9 * (c - length ts)) 0

-- the one table of a picture, for room c
unfoldable pub table : ℕ → ℕ → ℕ → ℕ → Picture → List ℕ
unfolding tiles written
table c w h k p = written c w h k (tiles w h p)

-- nothing but space
abbrev pub space : Picture
space x y = 0

-- the area of four numbers
abbrev pub area : ℕ → ℕ → ℕ → ℕ → Area
area x1 y1 x2 y2 = record { x1 = x1; y1 = y1; x2 = x2; y2 = y2 }

-- is (x,y) a square of the area
unfoldable pub in_area : Area → ℕ → ℕ → Bool
in_area a x y = leb a.x1 x && (ltb x a.x2 && (leb a.y1 y && ltb y a.y2))

-- a picture with an area set to one type
unfoldable pub painted : Picture → Area → ℕ → Picture
unfolding in_area
painted p a k x y = cond (in_area a x y) k (p x y)

-- bit k of n
abbrev pub bit_of : ℕ → ℕ → ℕ
bit_of n k = n / 2 ^ k % 2

-- a picture with an area set to bits: bit x - x1 of word y - y1
unfoldable pub stamped : Picture → Area → List ℕ → Picture
unfolding in_area
stamped p a rows x y = cond (in_area a x y) (bit_of (get_or rows (y - a.y1) 0) (x - a.x1)) (p x y)
