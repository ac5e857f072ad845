-- The two macros, as lists of rules.
use Rattle.std.specs.Prelude.{ℕ, ◌+◌, Bool, not, cond, ◌&&◌, ◌||◌, List, [], ◌∷◌, ◌++◌, eqb, leb}
use Rattle.plane.specs.Picture.{joined}
use Rattle.rules.specs.declared.rule.Rule.{Rule}
use Rattle.macros.specs.declared.pairs.Made.{Made}
use Rattle.rules.specs.Sets.{member, within, others, disjoint}

-- the rule that a macro makes for a pair of types: kind 0 with ce = d
unfoldable pub made : Made → ℕ → ℕ → Rule
made m a b = record { type1 = a; type2 = b; d = m.d; allowed = m.allowed; corners = m.corners; ce = m.d; fourway = 0; reason = m.reason }

-- that rule, if type 2 is in the second set
unfoldable pub cell : ℕ → Made → ℕ → ℕ → List Rule
unfolding member made
cell second m a b = cond (member second b) (made m a b ∷ []) []

-- the rules of one type 1, in rising type 2 below n
unfoldable pub row : ℕ → ℕ → Made → ℕ → List Rule
unfolding joined cell
row n second m a = joined n (cell second m a)

-- those of the types 2 below t, if type 1 is in the first set
unfoldable pub row_if : ℕ → ℕ → ℕ → Made → ℕ → List Rule
unfolding member row
row_if t first second m a = cond (member first a) (row t second m a) []

-- the rules of a first and a second set, in rising type 1 below n and then type 2 below t
unfoldable pub rows : ℕ → ℕ → ℕ → ℕ → Made → List Rule
unfolding joined row_if
rows n t first second m = joined n (row_if t first second m)

-- width S d: type 1 outside S, type 2 in S, allowed S, corner S
unfoldable pub width : ℕ → ℕ → ℕ → ℕ → List Rule
unfolding rows others
width t s d reason = rows t t (others t s) s (record { d = d; allowed = s; corners = s; reason = reason })

-- is a width macro within its ranges: a set of types below t, not empty, and d 1 to 16
unfoldable pub width_sound : ℕ → ℕ → ℕ → Bool
unfolding within
width_sound t s d = within t s && not (eqb s 0) && leb 1 d && leb d 16

-- the types of A, and with touch 1 those of B too, which is A or shares no type with A
unfoldable pub taken : ℕ → ℕ → ℕ → ℕ
taken a b touch = cond (eqb touch 1 && not (eqb a b)) (a + b) a

-- type 2 and corner set of a spacing rule: everything outside A and, with touch 1, outside B
unfoldable pub second : ℕ → ℕ → ℕ → ℕ → ℕ
unfolding others taken
second t a b touch = others t (taken a b touch)

-- the spacing rules with type 1 in A: allowed everything but B
unfoldable pub half_spacing : ℕ → ℕ → ℕ → ℕ → ℕ → ℕ → List Rule
unfolding rows others second
half_spacing t a b d touch reason = rows t t a (second t a b touch) (record { d = d; allowed = others t b; corners = second t a b touch; reason = reason })

-- spacing A B d touch: if A and B differ, the same follows with A and B exchanged
unfoldable pub spacing : ℕ → ℕ → ℕ → ℕ → ℕ → ℕ → List Rule
unfolding half_spacing
spacing t a b d touch reason = half_spacing t a b d touch reason ++ cond (eqb a b) [] (half_spacing t b a d touch reason)

-- is a spacing macro within its ranges: two sets of types below t, not empty, d 1 to 16, touch 0 or 1, and the sets equal or disjoint
unfoldable pub spacing_sound : ℕ → ℕ → ℕ → ℕ → ℕ → Bool
unfolding within disjoint
spacing_sound t a b d touch =
    (within t a && within t b && not (eqb a 0) && not (eqb b 0)) && (leb 1 d && leb d 16 && leb touch 1) && (eqb a b || disjoint t a b)
