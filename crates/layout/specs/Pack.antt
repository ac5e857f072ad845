-- The one number that a C entry returns: the number and the values of an answer, each in its bits, and all other bits 0.
use Rattle.std.specs.Prelude.{ℕ, ◌+◌, ◌-◌, ◌*◌, ◌/◌, ◌%◌, ◌^◌, ◌≤◌, ◌<◌, ◌≡◌, List}
use Rattle.plane.specs.declared.tile.Area.{Area}
use Rattle.plane.specs.Point.{Pointed}
use Rattle.plane.specs.Words.{width, height}
use Rattle.checker.specs.Check.{Checked}
use Rattle.sheet.specs.Layout.{Layout}
use Rattle.sheet.specs.Report.{Reported}

-- bits low to high of r
abbrev pub bits : ℕ → ℕ → ℕ → ℕ
bits low high r = r / 2 ^ low % 2 ^ (high + 1 - low)

-- ---- report: bits 0-7 the number, 8-16 the place, 17 settled, 18-42 the error squares, 43-55 the error tiles
abbrev pub pack_report : ℕ → ℕ → ℕ → ℕ → ℕ → ℕ
pack_report answer place settled squares tiles = answer + 2 ^ 8 * place + 2 ^ 17 * settled + 2 ^ 18 * squares + 2 ^ 43 * tiles

-- values that a report may have
pub record Narrow (place settled squares tiles : ℕ) : Type 0 where
  pub place_most : place < 512
  pub settled_most : settled ≤ 1
  pub squares_most : squares ≤ 16777216
  pub tiles_most : tiles ≤ 3600

-- layout_report: what it returns is a report's answer, packed
pub record ReportPacked (l : Layout) (rules : List ℕ) (used : ℕ) (a : Area) (out : List ℕ) (r : ℕ) (after : List ℕ) : Type 0 where
  pub answer : ℕ
  pub place : ℕ
  pub settled : ℕ
  pub squares : ℕ
  pub tiles : ℕ
  pub reported : Reported l rules used a out answer place (record { settled = settled; squares = squares; tiles = tiles; slice = after })
  pub packed : r ≡ pack_report answer place settled squares tiles

-- ---- point: bits 0-7 the number, 17-28 the tile's number
abbrev pub pack_point : ℕ → ℕ → ℕ
pack_point answer tile = answer + 2 ^ 17 * tile

-- layout_point: what it returns is a point's answer, packed
pub record PointPacked (ws : List ℕ) (x y r : ℕ) : Type 0 where
  pub answer : ℕ
  pub tile : ℕ
  pub pointed : Pointed ws (width ws) (height ws) x y answer tile
  pub packed : r ≡ pack_point answer tile

-- ---- macros: bits 0-7 the number, 17-26 the new count of used rules
abbrev pub pack_macro : ℕ → ℕ → ℕ
pack_macro answer used = answer + 2 ^ 17 * used

-- layout_width and layout_spacing: what they return is the macro's answer, packed; `Made` is the macro's statement of its number and count
pub record MacroPacked (Made : ℕ → ℕ → Type 0) (r : ℕ) : Type 0 where
  pub answer : ℕ
  pub used : ℕ
  pub made : Made answer used
  pub packed : r ≡ pack_macro answer used

-- ---- check: bits 0-7 the number, 8-16 the place, 17-32 the pieces done, 33-49 the pieces left
abbrev pub pack_check : ℕ → ℕ → ℕ → ℕ → ℕ
pack_check answer place done left = answer + 2 ^ 8 * place + 2 ^ 17 * done + 2 ^ 33 * left

-- values that check may answer if it is told to do at most 65535 pieces
pub record NarrowCheck (place done left : ℕ) : Type 0 where
  pub place_most : place < 512
  pub done_most : done ≤ 65535
  pub left_most : left ≤ 65536

-- layout_check: what it returns is check's answer, packed
pub record CheckPacked (before : Layout) (work rules : List ℕ) (used n r : ℕ) (after : Layout) (work_after : List ℕ) : Type 0 where
  pub answer : ℕ
  pub place : ℕ
  pub done : ℕ
  pub left : ℕ
  pub checked : Checked before work rules used n answer place done left after work_after
  pub packed : r ≡ pack_check answer place done left
