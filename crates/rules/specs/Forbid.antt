-- Which squares the edge rules forbid, by what is seen from a square; one definition for four directions and both ends.
use Rattle.std.specs.Prelude.{ℕ, suc, ◌+◌, ◌-◌, Bool, true, false, not, cond, ◌&&◌, ◌||◌, List, [], ◌∷◌, eqb}
use Rattle.plane.specs.Picture.{Picture, joined, area, in_area}
use Rattle.rules.specs.declared.rule.Rule.{Rule}
use Rattle.rules.specs.Some.{some, some_of}
use Rattle.rules.specs.Sets.{member}

-- the four directions of a step
pub data Way : Type 0 where
  right left up down : Way

-- is it up or down
abbrev pub vertical : Way → Bool
vertical right = false
vertical left = false
vertical up = true
vertical down = true

-- what is seen from a square: `v w e i j` is the type of the square that lies i steps back against w and j steps back against e
abbrev pub View : Type 0
View = Way → Way → ℕ → ℕ → ℕ

-- ---- one direction: `k i j` is a view at one w and e, w the direction in which an edge is crossed, e the one along it towards an end
-- is there an edge of the rule with the square at i, j on its second side
unfoldable pub edge : Rule → (ℕ → ℕ → ℕ) → ℕ → ℕ → Bool
edge r k i j = eqb (k i j) r.type2 && eqb (k (suc i) j) r.type1

-- does a run end at i, j + 1, and is the type of the first-side square just beyond that end in the corner set
unfoldable pub turns : Rule → (ℕ → ℕ → ℕ) → ℕ → ℕ → Bool
unfolding edge member
turns r k i j = edge r k i (suc j) && not (edge r k i j) && member r.corners (k (suc i) j)

-- is the square from which k is seen within d of a unit of a run, or that deep and within ce past an end
unfoldable pub reached : Rule → (ℕ → ℕ → ℕ) → Bool
unfolding edge turns some
reached r k = some r.d λ i. edge r k i 0 || some r.ce (turns r k i)

-- ---- all directions
-- the directions of crossing, each with that of an end: one-way rules cross left to right (top end) and bottom to top (left end), fourway rules in all four (both ends)
unfoldable pub ways_by : Bool → List (Way × Way)
ways_by true = (right, up) ∷ (up, left) ∷ []
ways_by false = (right, up) ∷ (up, left) ∷ (right, down) ∷ (left, up) ∷ (left, down) ∷ (up, right) ∷ (down, left) ∷ (down, right) ∷ []

-- those of a rule of kind k, 0 one-way and 1 fourway
unfoldable pub ways : ℕ → List (Way × Way)
unfolding ways_by
ways k = ways_by (eqb k 0)

-- does the rule forbid the square from which v is seen: its type is not allowed, and the rule reaches it
unfoldable pub forbids : View → Rule → Bool
unfolding member some_of ways reached
forbids v r = not (member r.allowed (v right up 0 0)) && some_of (ways r.fourway) λ x. reached r (v x.0 x.1)

-- ---- the window
-- what lies outside the window: space
unfoldable pub outside : ℕ
outside = 0

-- n steps back along x: the window's square (0,0) stands at (33,33), so that no step of 33 or less leaves the numbers
unfoldable pub back_x : Way → ℕ → ℕ → ℕ
back_x right n x = x - n
back_x left n x = x + n
back_x up n x = x
back_x down n x = x

-- n steps back along y
unfoldable pub back_y : Way → ℕ → ℕ → ℕ
back_y right n y = y
back_y left n y = y
back_y up n y = y - n
back_y down n y = y + n

-- the type at (x,y), in the window or outside it
unfoldable pub kind_at : ℕ → ℕ → Picture → ℕ → ℕ → ℕ
unfolding in_area outside
kind_at w h p x y = cond (in_area (area 33 33 (33 + w) (33 + h)) x y) (p (x - 33) (y - 33)) outside

-- what is seen from the window's square (x,y)
unfoldable pub seen : ℕ → ℕ → Picture → ℕ → ℕ → View
unfolding kind_at back_x back_y
seen w h p x y a e i j = kind_at w h p (back_x e j (back_x a i (33 + x))) (back_y e j (back_y a i (33 + y)))

-- is the window's square (x,y) forbidden by some rule
unfoldable pub forbidden : ℕ → ℕ → Picture → List Rule → ℕ → ℕ → Bool
unfolding some_of forbids seen
forbidden w h p rs x y = some_of rs (forbids (seen w h p x y))

-- the error squares of a window w by h, by row and then column
unfoldable pub errors : ℕ → ℕ → Picture → List Rule → List (ℕ × ℕ)
unfolding joined forbidden
errors w h p rs = joined h λ y. joined w λ x. cond (forbidden w h p rs x y) ((x, y) ∷ []) []
