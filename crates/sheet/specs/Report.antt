-- What report promises: whether an area is settled, and the errors recorded in it.
use Rattle.std.specs.Prelude.{ℕ, ◌+◌, ◌-◌, min, cond, ◌≡◌, List, [], ◌∷◌, length, eqb}
use Rattle.plane.specs.declared.tile.Area.{Area}
use Rattle.plane.specs.Area.{AreaIn, squares_in, tiles_in}
use Rattle.plane.specs.Listing.{Fits, listed}
use Rattle.plane.specs.Picture.{area}
use Rattle.plane.specs.Refusal.{◌unless◌, Outcome}
use Rattle.plane.specs.Words.{width, height, kinds, picture_of}
use Rattle.rules.specs.Vetting.{AllSound, lowest_bad}
use Rattle.rules.specs.Words.{halo_of}
use Rattle.sheet.specs.Layout.{Layout, RuleLength, IsLayout}

-- the window's squares within k of an area
abbrev pub around : ℕ → ℕ → ℕ → Area → Area
around w h k a = area (a.x1 - k) (a.y1 - k) (min w (a.x2 + k)) (min h (a.y2 + k))

-- 1 exactly if no waiting square lies within k of the area
unfoldable pub settled : List ℕ → ℕ → Area → ℕ
unfolding squares_in
settled waiting k a = cond (eqb (squares_in (picture_of waiting) 1 (around (width waiting) (height waiting) k a)) 0) 1 0

-- what report answers and leaves: settled, the error squares recorded in the area, the error tiles that meet it, and the slice of their numbers
pub record Findings : Type 0 where
  pub settled : ℕ
  pub squares : ℕ
  pub tiles : ℕ
  pub slice : List ℕ

-- a report that was refused
abbrev pub no_findings : List ℕ → Findings
no_findings out = record { settled = 0; squares = 0; tiles = 0; slice = out }

-- the findings of an area, with rules that reach k
abbrev pub findings : Layout → ℕ → Area → List ℕ → Findings
findings l k a out = record {
  settled = settled l.waiting k a;
  squares = squares_in (picture_of l.errors) 1 a;
  tiles = length (tiles_in l.errors 1 a);
  slice = listed (tiles_in l.errors 1 a) out;
}

-- when report says no
abbrev pub report_refusals : Layout → List ℕ → ℕ → Area → List ℕ → List (ℕ × Type 0)
report_refusals l rules used a out =
    1 unless RuleLength l rules used
    ∷ 3 unless IsLayout l
    ∷ 4 unless AllSound rules used (kinds l.material)
    ∷ 6 unless AreaIn (width l.material) (height l.material) a
    ∷ 7 unless Fits (tiles_in l.errors 1 a) out
    ∷ []

-- report: its number, with 4 the lowest bad rule's place, and its findings
pub record Reported (l : Layout) (rules : List ℕ) (used : ℕ) (a : Area) (out : List ℕ) (answer place : ℕ) (found : Findings) : Type 0 where
  pub outcome : Outcome (report_refusals l rules used a out) (no_findings out) (findings l (halo_of rules used) a out) answer found
  pub lowest : place ≡ cond (eqb answer 4) (lowest_bad rules used (kinds l.material)) 0
