-- When a rule list is good, and what its test and its halo answer.
use Rattle.std.specs.Prelude.{ℕ, ◌/◌, ◌%◌, ◌≤◌, ◌<◌, true, cond, ◌≡◌, List, [], ◌∷◌, length, eqb, ltb, Result, Ok, Err}
use Rattle.plane.specs.Picture.{extent}
use Rattle.plane.specs.Refusal.{◌unless◌, Lowest, Outcome}
use Rattle.rules.specs.Words.{sound_at, halo_of}

-- a list of n words: a multiple of eight, room for at most 512 rules, and for those used
pub record ListLength (n used : ℕ) : Type 0 where
  pub words : n % 8 ≡ 0
  pub most : n ≤ 4096
  pub room : used ≤ n / 8

-- T is in its range
pub record KindsIn (t : ℕ) : Type 0 where
  pub two : 2 ≤ t
  pub sixteen : t ≤ 16

-- the used rules are within their ranges
abbrev pub AllSound : List ℕ → ℕ → ℕ → Type 0
AllSound ws used t = (i : ℕ) → i < used → sound_at ws t i ≡ true

-- the place of the lowest of the used rules that is out of its ranges
unfoldable pub lowest_bad : List ℕ → ℕ → ℕ → ℕ
unfolding extent sound_at
lowest_bad ws used t = extent (sound_at ws t) 0 used

-- when the test of a list says no
abbrev pub list_refusals : List ℕ → ℕ → ℕ → List (ℕ × Type 0)
list_refusals ws used t =
    1 unless ListLength (length ws) used
    ∷ 2 unless KindsIn t
    ∷ 4 unless AllSound ws used t
    ∷ []

-- the test of a list: its number, and with 4 the lowest bad rule's place
pub record ListVetted (ws : List ℕ) (used t : ℕ) (answer place : ℕ) : Type 0 where
  pub number : Lowest (list_refusals ws used t) answer
  pub lowest : place ≡ cond (eqb answer 4) (lowest_bad ws used t) 0

-- the halo of a list: its number, and the halo
pub record HaloFound (ws : List ℕ) (used : ℕ) (answer value : ℕ) : Type 0 where
  pub outcome : Outcome (1 unless ListLength (length ws) used ∷ []) 0 (halo_of ws used) answer value

-- ---- steps
-- the tests that come before the rules are looked at
abbrev pub list_tests : ℕ → ℕ → ℕ → List (ℕ × Type 0)
list_tests n used t =
    1 unless ListLength n used
    ∷ 2 unless KindsIn t
    ∷ []

-- what they answer
pub record ListTested (n used t : ℕ) (answer : ℕ) : Type 0 where
  pub number : Lowest (list_tests n used t) answer

-- what the test of the rules answers
unfoldable pub vetted : List ℕ → ℕ → ℕ → Result (Unit {0}) ℕ
unfolding lowest_bad
vetted ws used t = cond (ltb (lowest_bad ws used t) used) (Err (lowest_bad ws used t)) (Ok (tt {0}))
