-- A list at the front of an array, with zeros behind it: the array is known by its list. The laws that say so stand here, since a type's model cites them, and it may cite no proofs/ of its own crate.
use mathlib.Core.Path.{refl, ap}
use native.Mathlib.Omega.{arith}
use Rattle.std.specs.Prelude.{◌≡◌, ◌≤◌, ◌-◌, ◌++◌, ℕ, List, [], Option, Some, None, length, take, drop, replicate}
use Rattle.std.specs.Option.{option_map, unwrap_or}
use Rattle.std.proofs.lemmas.List.{length-take-le, take-append-drop}

-- the first n of an array's m items are in use, and zeros stand behind them
pub record Padded (m n : ℕ) (l : List ℕ) : Type 0 where
  pub fits : n ≤ m
  pub size : length l ≡ m
  pub zeros : drop n l ≡ replicate (m - n) 0

-- the array of m items that holds the list p
abbrev pub padded : ℕ → List ℕ → List ℕ
padded m p = p ++ replicate (m - length p) 0

module _ {m n : ℕ} {l : List ℕ} (p : Padded m n l) where
  -- the list is as long as was said
  pub padded_length : length (take n l) ≡ n
  padded_length = length-take-le n l (omega (arith, p.fits, p.size))

  -- and gives the array back
  pub padded_back : padded m (take n l) ≡ l
  padded_back = rw (padded_length, ← p.zeros) (take-append-drop n l)

-- the same where there may be no list, and all is zero
pub some_back : {m : ℕ} {l : List ℕ} (n : Option ℕ) → Padded m (unwrap_or n 0) l → padded m (unwrap_or (option_map (λ k. take k l) n) []) ≡ l
some_back None p = padded_back p
some_back (Some n) p = padded_back p

pub some_length : {m : ℕ} {l : List ℕ} (n : Option ℕ) → Padded m (unwrap_or n 0) l → option_map length (option_map (λ k. take k l) n) ≡ n
some_length None p = refl
some_length (Some n) p = ap Some (padded_length p)
