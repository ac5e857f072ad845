-- Marks from the edges of a local picture, each found once; and the same in eight sweeps, one for each direction, which are closer to what the rules forbid.
use Rattle.std.specs.Prelude.{ℕ, ◌+◌, ◌-◌, ◌*◌, ◌/◌, ◌%◌, ◌<◌, ◌≤◌, Bool, true, false, not, ◌&&◌, ◌||◌, List, ◌≡◌, length, get_or, eqb, leb, ltb}
use Rattle.plane.specs.Picture.{area, in_area}
use Rattle.rules.specs.declared.rule.Rule.{Rule}
use Rattle.rules.specs.Some.{some}
use Rattle.rules.specs.Words.{rule_at, Apart}
use Rattle.rules.specs.Forbid.{right, left, up, down}
use Rattle.edges.specs.declared.turn.Turn.{Turn}
use Rattle.edges.specs.Edge.{Steps, goes_hit, turn}

-- n rules of a list, each with two types, and d and ce at most 16
pub record Ruled (ws : List ℕ) (n : ℕ) : Type 0 where
  pub sized : 8 * n ≤ length ws
  pub few : n ≤ 512
  pub deep : (i : ℕ) → i < n → (rule_at ws i).d ≤ 16
  pub side : (i : ℕ) → i < n → (rule_at ws i).ce ≤ 16
  pub apart : (i : ℕ) → i < n → Apart (rule_at ws i)

-- what a picture is looked at by: its types, the words of a list of rules, and how many of them are used
pub record Looked : Type 0 where
  pub kinds : List ℕ
  pub words : List ℕ
  pub used : ℕ

-- ---- from each edge once
-- the other way along the edge, and the other way across it
abbrev pub flip_e : Turn → Turn
flip_e t = record { wp = t.wp; wm = t.wm; ep = t.em; em = t.ep }

abbrev pub flip_w : Turn → Turn
flip_w t = record { wp = t.wm; wm = t.wp; ep = t.ep; em = t.em }

-- what a rule forbids from the edge between `at` and the square before it, crossed in one direction, where all neighbours are in the picture
unfoldable pub hit_from : List ℕ → Bool → Turn → ℕ → Rule → ℕ → Bool
hit_from ks all t at r q = (leb 83 (at - t.wm) && ltb (at - t.wm) 6641) && goes_hit ks all t (at - t.wm) r q

-- crossed both ways, and along both ways
unfoldable pub across : List ℕ → Turn → ℕ → Rule → ℕ → Bool
across ks t at r q = hit_from ks true t at r q || hit_from ks false (flip_e t) at r q || hit_from ks false (flip_w t) at r q || hit_from ks false (flip_w (flip_e t)) at r q

-- does the rule go between types a and b: from b to a, or back if it is fourway
abbrev pub faces : ℕ → ℕ → Rule → Bool
faces a b r = (eqb r.type1 b && eqb r.type2 a) || (eqb r.type1 a && eqb r.type2 b && not (eqb r.fourway 0))

-- for the first n rules
unfoldable pub across_all : List ℕ → List ℕ → ℕ → Turn → ℕ → ℕ → Bool
across_all ks ws n t at q = some n λ i. across ks t at (rule_at ws i) q

-- from the edges left of `at` and below it
unfoldable pub edges_at : List ℕ → List ℕ → ℕ → ℕ → ℕ → Bool
edges_at ks ws n at q = across_all ks ws n (turn right up) at q || across_all ks ws n (turn up left) at q

-- from those of the m indexes from `from` on
unfoldable pub edges_to : List ℕ → List ℕ → ℕ → ℕ → ℕ → ℕ → Bool
edges_to ks ws n from m q = some m λ k. edges_at ks ws n (from + k) q

-- from those of as many in each of `rows` rows, 82 indexes after the row before
unfoldable pub edges_over : List ℕ → List ℕ → ℕ → ℕ → ℕ → ℕ → ℕ → Bool
edges_over ks ws n from m rows q = some rows λ j. edges_to ks ws n (from + 82 * j) m q

-- a direction to the right or upward
pub record Forward (t : Turn) : Type 0 where
  pub steps : Steps t
  pub back : t.wm ≡ 0

-- a and b are the types of the square `at` and of the one before it, in a direction to the right or upward
pub record Between (ks : List ℕ) (t : Turn) (at a b : ℕ) : Type 0 where
  pub back : t.wm ≡ 0
  pub here : a ≡ get_or ks at 0
  pub before : b ≡ get_or ks (at - t.wp) 0

-- outside columns and rows lo up to hi no square differs from the one left of it or below it
pub record Still (ks : List ℕ) (lo hi : ℕ) : Type 0 where
  pub order : lo < hi
  pub most : hi ≤ 82
  pub side : (at : ℕ) → 83 ≤ at → at < 6723 → in_area (area lo lo hi hi) (at % 82) (at / 82) ≡ false → get_or ks (at - 1) 0 ≡ get_or ks at 0
  pub below : (at : ℕ) → 83 ≤ at → at < 6723 → in_area (area lo lo hi hi) (at % 82) (at / 82) ≡ false → get_or ks (at - 82) 0 ≡ get_or ks at 0

-- ---- in sweeps
-- does the edge of some rule at `at`, in one direction, forbid q
unfoldable pub hits : List ℕ → List ℕ → ℕ → Bool → Turn → ℕ → ℕ → Bool
hits ks ws n all t at q = some n λ i. goes_hit ks all t at (rule_at ws i) q

-- one direction, at the indexes from which every neighbour is in the picture
unfoldable pub swept : List ℕ → List ℕ → ℕ → Bool → Turn → ℕ → Bool
swept ks ws n all t q = some 6558 λ k. hits ks ws n all t (83 + k) q

-- all eight directions
unfoldable pub sweeps : List ℕ → List ℕ → ℕ → ℕ → Bool
sweeps ks ws n q =
    swept ks ws n true (turn right up) q || swept ks ws n true (turn up left) q
    || swept ks ws n false (turn right down) q || swept ks ws n false (turn left up) q || swept ks ws n false (turn left down) q
    || swept ks ws n false (turn up right) q || swept ks ws n false (turn down left) q || swept ks ws n false (turn down right) q
