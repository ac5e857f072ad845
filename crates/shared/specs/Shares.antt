-- The tiles that a table shares with a slice of n tiles, and the numbers that they have in the two.
use Rattle.std.specs.Prelude.{Option, Some, None, ℕ, ◌+◌, ◌≤◌, ◌<◌, ◌≡◌, ◌⊎◌, List}
use Rattle.plane.specs.Words.{count, tile_of}
use Rattle.shared.specs.declared.shared.Shared.{Shared}
use Rattle.shared.specs.declared.shared.Links.{Links}

-- the table ws and the n tiles of vs share the tiles that s says: the first ones, and the last ones
pub record Alike (ws vs : List ℕ) (n : ℕ) (s : Shared) : Type 0 where
  pub all : s.end ≡ count ws
  pub few : s.end ≤ 65535
  pub low_old : s.low ≤ s.old
  pub low_new : s.low ≤ s.new
  pub back : s.old ≤ s.end
  pub ends : s.new + s.end ≡ n + s.old
  pub first : (i : ℕ) → i < s.low → tile_of vs i ≡ tile_of ws i
  pub last : (i j : ℕ) → s.old ≤ i → i < s.end → j + s.old ≡ s.new + i → tile_of vs j ≡ tile_of ws i

-- tile g of the one table is shared
abbrev pub IsShared : Shared → ℕ → Type 0
IsShared s g = (g < s.low) ⊎ ((s.old ≤ g) × (g < s.end))

-- the number in the one table of tile g of the other; none where it is not shared
abbrev pub Moved : Shared → ℕ → Option ℕ → Type 0
Moved s g (Some r) = ((g < s.low) × (r ≡ g)) ⊎ ((s.old ≤ g) × (g < s.end) × (r + s.old ≡ s.new + g))
Moved s g None = IsShared s g → ⊥

-- each of the four numbers is moved
pub record MovedLinks (s : Shared) (g : Links ℕ) (r : Links (Option ℕ)) : Type 0 where
  pub lb : Moved s g.lb r.lb
  pub bl : Moved s g.bl r.bl
  pub tr : Moved s g.tr r.tr
  pub rt : Moved s g.rt r.rt

-- the four that are known, if each is
abbrev pub AllKnown : {T : Type 0} → Links (Option T) → Option (Links T) → Type 0
AllKnown g (Some l) = (g.lb ≡ Some l.lb) × (g.bl ≡ Some l.bl) × (g.tr ≡ Some l.tr) × (g.rt ≡ Some l.rt)
AllKnown g None = (g.lb ≡ None) ⊎ ((g.bl ≡ None) ⊎ ((g.tr ≡ None) ⊎ (g.rt ≡ None)))
