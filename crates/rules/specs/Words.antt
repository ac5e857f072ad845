-- Rules as eight words, their ranges, and how far they reach.
use Rattle.std.specs.Prelude.{ℕ, zero, suc, ◌+◌, ◌*◌, ◌≤◌, max, Bool, not, ◌&&◌, List, [], ◌∷◌, ◌++◌, ◌≡◌, get_or, eqb, leb, ltb}
use Rattle.plane.specs.Picture.{joined}
use Rattle.rules.specs.declared.rule.Rule.{Rule}
use Rattle.rules.specs.Sets.{within}

-- rule i of a list: type 1, type 2, d, allowed set, corner set, ce, kind, reason
unfoldable pub rule_at : List ℕ → ℕ → Rule
rule_at ws i = record {
  type1 = get_or ws (8 * i) 0;
  type2 = get_or ws (8 * i + 1) 0;
  d = get_or ws (8 * i + 2) 0;
  allowed = get_or ws (8 * i + 3) 0;
  corners = get_or ws (8 * i + 4) 0;
  ce = get_or ws (8 * i + 5) 0;
  fourway = get_or ws (8 * i + 6) 0;
  reason = get_or ws (8 * i + 7) 0;
}

-- the first n rules of a list
unfoldable pub rules_of : List ℕ → ℕ → List Rule
unfolding joined rule_at
rules_of ws n = joined n λ i. rule_at ws i ∷ []

-- the eight words of a rule
unfoldable pub rule_words : Rule → List ℕ
rule_words r = r.type1 ∷ r.type2 ∷ r.d ∷ r.allowed ∷ r.corners ∷ r.ce ∷ r.fourway ∷ r.reason ∷ []

-- the words of rules, one rule behind the other
unfoldable pub words_of : List Rule → List ℕ
unfolding rule_words
words_of [] = []
words_of (r ∷ rs) = rule_words r ++ words_of rs

-- is a rule within its ranges: the types below t and unequal, d 1 to 16, ce 0 to 16, kind 0 or 1, no bit of a set at t or above
unfoldable pub sound : ℕ → Rule → Bool
unfolding within
sound t r =
    (ltb r.type1 t && ltb r.type2 t && not (eqb r.type1 r.type2))
    && (leb 1 r.d && leb r.d 16 && leb r.ce 16 && leb r.fourway 1)
    && (within t r.allowed && within t r.corners)

-- is rule i of a list within its ranges
unfoldable pub sound_at : List ℕ → ℕ → ℕ → Bool
unfolding sound rule_at
sound_at ws t i = sound t (rule_at ws i)

-- the larger of a rule's d and ce
unfoldable pub reach : Rule → ℕ
reach r = max r.d r.ce

-- the halo: the largest d or ce of the first n rules of a list, 0 if there is none
unfoldable pub halo_of : List ℕ → ℕ → ℕ
unfolding reach rule_at
halo_of ws zero = 0
halo_of ws (suc n) = max (halo_of ws n) (reach (rule_at ws n))

-- a rule reaches no farther than k
abbrev pub Reaches : ℕ → Rule → Type 0
Reaches k r = (r.d ≤ k) × (r.ce ≤ k)

-- a rule has two types
abbrev pub Apart : Rule → Type 0
Apart r = r.type1 ≡ r.type2 → ⊥
