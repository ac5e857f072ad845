-- What one edge of a rule marks in a local picture of 82 by 82 squares, by indexes: steps between the code and what the rules forbid.
use Rattle.std.specs.Prelude.{ℕ, ◌+◌, ◌-◌, ◌*◌, ◌<◌, ◌≤◌, Bool, not, cond, ◌&&◌, ◌||◌, List, ◌≡◌, length, get_or, eqb}
use Rattle.rules.specs.declared.rule.Rule.{Rule}
use Rattle.rules.specs.Some.{some}
use Rattle.rules.specs.Sets.{member}
use Rattle.rules.specs.Forbid.{Way, right, left, up, down, View}
use Rattle.edges.specs.declared.turn.Turn.{Turn}

-- what a step adds to an index, and what it takes from it
abbrev pub plus : Way → ℕ
plus right = 1
plus left = 0
plus up = 82
plus down = 0

abbrev pub minus : Way → ℕ
minus right = 0
minus left = 1
minus up = 0
minus down = 82

-- what is seen from index q, i steps back against the one direction of t and j against the other
unfoldable pub around : List ℕ → ℕ → Turn → ℕ → ℕ → ℕ
around ks q t i j = get_or ks (q + (i * t.wm + j * t.em) - (i * t.wp + j * t.ep)) 0

-- the steps of two directions
abbrev pub turn : Way → Way → Turn
turn w e = record { wp = plus w; wm = minus w; ep = plus e; em = minus e }

-- what is seen from index q, as a view
unfoldable pub flat : List ℕ → ℕ → View
unfolding around
flat ks q w e i j = around ks q (turn w e) i j

-- m' is m with a 1 where P holds
pub record Marked (P : ℕ → Bool) (m m' : List ℕ) : Type 0 where
  pub long : length m' ≡ length m
  pub mark : (q : ℕ) → q < length m → get_or m' q 0 ≡ cond (P q) 1 (get_or m q 0)

-- every type is below 32
abbrev pub Small : List ℕ → Type 0
Small ks = (q : ℕ) → get_or ks q 0 < 32

-- a local picture with types below 32, and its marks
pub record Local (ks m : List ℕ) : Type 0 where
  pub small : Small ks
  pub sized : length m ≡ 6724

-- the steps of two directions that cross: a step is at most 82, and one in each at most 83
pub record Steps (t : Turn) : Type 0 where
  pub wp : t.wp ≤ 82
  pub wm : t.wm ≤ 82
  pub ep : t.ep ≤ 82
  pub em : t.em ≤ 82
  pub up : t.wp + t.ep ≤ 83
  pub down : t.wm + t.em ≤ 83
  pub down_up : t.wm + t.ep ≤ 83
  pub up_down : t.wp + t.em ≤ 83

-- is the type at q not allowed
unfoldable pub barred : List ℕ → ℕ → ℕ → Bool
barred ks allowed q = not (member allowed (get_or ks q 0))

-- is q the square x - y
unfoldable pub one : List ℕ → ℕ → ℕ → ℕ → ℕ → Bool
one ks allowed x y q = eqb (q + y) x && barred ks allowed q

-- is q one of the d squares from x - y on, each p - m after the one before
unfoldable pub deep : List ℕ → ℕ → ℕ → ℕ → ℕ → ℕ → ℕ → ℕ → Bool
deep ks allowed d p m x y q = some d λ i. one ks allowed (x + i * p) (y + i * m) q

-- the same, 1 to n steps to the side
unfoldable pub past : List ℕ → Rule → Turn → ℕ → ℕ → ℕ → Bool
past ks r t at n q = some n λ j. deep ks r.allowed r.d t.wp t.wm (at + (j + 1) * t.ep) ((j + 1) * t.em) q

-- is there an edge of the rule with `at` on its second side
unfoldable pub edge_at : List ℕ → Rule → Turn → ℕ → Bool
edge_at ks r t at = eqb (get_or ks at 0) r.type2 && eqb (get_or ks (at + t.wm - t.wp) 0) r.type1

-- does its run end there, with a corner type beyond
unfoldable pub turns_at : List ℕ → Rule → Turn → ℕ → Bool
turns_at ks r t at = not (edge_at ks r t (at + t.ep - t.em)) && member r.corners (get_or ks (at + t.ep - t.em + t.wm - t.wp) 0)

-- does the edge at `at` forbid q
unfoldable pub hit : List ℕ → Rule → Turn → ℕ → ℕ → Bool
hit ks r t at q = edge_at ks r t at && (deep ks r.allowed r.d t.wp t.wm at 0 q || turns_at ks r t at && past ks r t at r.ce q)

-- does the rule have that direction: a one-way rule has it where `all` says so
unfoldable pub goes : Bool → Rule → Bool
goes all r = all || not (eqb r.fourway 0)

-- does the edge at `at` forbid q, for a rule that has that direction
unfoldable pub goes_hit : List ℕ → Bool → Turn → ℕ → Rule → ℕ → Bool
goes_hit ks all t at r q = goes all r && hit ks r t at q
