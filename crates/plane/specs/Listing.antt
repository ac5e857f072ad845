-- A list of numbers in a lent slice: the numbers stand first, and the rest of the slice stays.
use Rattle.std.specs.Prelude.{ℕ, ◌≤◌, ◌<◌, ◌≡◌, ◌⊎◌, List, ◌++◌, length, get_or, drop}

-- the slice with the numbers ns in front
abbrev pub listed : List ℕ → List ℕ → List ℕ
listed ns out = ns ++ drop (length ns) out

-- the numbers have room in the slice
abbrev pub Fits : List ℕ → List ℕ → Type 0
Fits ns out = length ns ≤ length out

-- what a call that lists leaves: how many numbers, and the slice
pub record Listing : Type 0 where
  pub entries : ℕ
  pub slice : List ℕ

-- a call that was refused
abbrev pub unlisted : List ℕ → Listing
unlisted out = record { entries = 0; slice = out }

-- a call that lists ns
abbrev pub listing : List ℕ → List ℕ → Listing
listing ns out = record { entries = length ns; slice = listed ns out }

-- the first `most` of the numbers ns stand in the slice that was `out`, and r is how many ns are
pub record ListedTo (ns : List ℕ) (most : ℕ) (out after : List ℕ) (r : ℕ) : Type 0 where
  pub entries : r ≡ length ns
  pub long : length after ≡ length out
  pub new : (q : ℕ) → q < r → q < most → get_or after q 0 ≡ get_or ns q 0
  pub old : (q : ℕ) → (r ≤ q) ⊎ (most ≤ q) → get_or after q 0 ≡ get_or out q 0

-- a step of a listing, from the slice us with m numbers to the slice vs with r: the numbers `more` come behind
pub record Lists (more : List ℕ) (most : ℕ) (us : List ℕ) (m : ℕ) (vs : List ℕ) (r : ℕ) : Type 0 where
  pub long : length vs ≡ length us
  pub step : (ns out : List ℕ) → ListedTo ns most out us m → ListedTo (ns ++ more) most out vs r
