-- The four sides of a tile.
use Rattle.std.specs.Prelude.{ℕ, ◌≡◌, ◌≤◌, Result, Ok, Err}
use Rattle.plane.specs.declared.answer.Refusal.{Refusal}
use Rattle.plane.specs.declared.answer.Refusal.TheVariants.{Place}
use Rattle.plane.specs.declared.side.Side.{Side}
use Rattle.plane.specs.declared.side.Side.TheVariants.{Left, Bottom, Right, Top}
use Rattle.plane.specs.declared.tile.Tile.{Tile}

-- the number of a side
abbrev pub side_number : Side → ℕ
side_number Left = 0
side_number Bottom = 1
side_number Right = 2
side_number Top = 3

-- the side of number n, or a refusal, since there is none
abbrev pub SideNumbered : ℕ → Result Side Refusal → Type 0
SideNumbered n (Ok s) = n ≡ side_number s
SideNumbered n (Err r) = (4 ≤ n) × (r ≡ Place)

-- the column or the row at which a side lies
abbrev pub side_line : Tile → Side → ℕ
side_line t Left = t.left
side_line t Bottom = t.bottom
side_line t Right = t.right
side_line t Top = t.top

-- where it starts, from below or from the left
abbrev pub side_start : Tile → Side → ℕ
side_start t Left = t.bottom
side_start t Bottom = t.left
side_start t Right = t.bottom
side_start t Top = t.left

-- where it ends
abbrev pub side_end : Tile → Side → ℕ
side_end t Left = t.top
side_end t Bottom = t.right
side_end t Right = t.top
side_end t Top = t.right
