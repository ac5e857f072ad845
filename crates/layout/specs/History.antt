-- The histories of a layout: an accepted create, then calls of any kind in any order, each by its own statement, on one rule list that breaks no range.
use Rattle.std.specs.Prelude.{ℕ, ◌+◌, ◌≤◌, ◌<◌, true, ◌≡◌, length, take}
use mathlib.Core.List.{List, Memᴰ}
use Rattle.plane.specs.declared.tile.Area.{Area}
use Rattle.plane.specs.Area.{squares_in}
use Rattle.plane.specs.Picture.{Picture, in_area}
use Rattle.plane.specs.Refusal.{if_done}
use Rattle.plane.specs.Strips.{Holds}
use Rattle.plane.specs.Words.{width, height, picture_of, tile_of}
use Rattle.tables.specs.Like.{table_like}
use Rattle.rules.specs.Vetting.{ListLength, AllSound}
use Rattle.rules.specs.Words.{rules_of}
use Rattle.waits.specs.Pieces.{touched}
use Rattle.piece.specs.Remark.{full_mark}
use Rattle.sheet.specs.Layout.{Layout}
use Rattle.drawing.specs.Create.{Created}
use Rattle.drawing.specs.Paint.{Painted}
use Rattle.checker.specs.Check.{Checked}
use Rattle.sheet.specs.Report.{Findings, Reported}

-- a rule list that breaks no range, for T types
pub record GoodRules (rules : List ℕ) (used t : ℕ) : Type 0 where
  pub list : ListLength (length rules) used
  pub sound : AllSound rules used t

-- what the three tables can be after a create of a window w by h with T = t and calls with these rules; the pieces done so far, and the sum over the accepted paints of the pieces that each touched
pub data History (rules : List ℕ) (used w h t : ℕ) : Layout → ℕ → ℕ → Type 0 where
  -- it begins with an accepted create
  created : {before after : Layout} → GoodRules rules used t → Created before w h t 0 after → History rules used w h t after 0 0
  -- a paint, accepted or refused
  then_painted : {before after : Layout} {done sum : ℕ} {work work_after : List ℕ} {a : Area} {kind answer : ℕ} → History rules used w h t before done sum
      → Painted before work a kind answer after work_after → History rules used w h t after done (sum + if_done answer (touched w h a) 0)
  -- a check of any n, whatever it answers
  then_checked : {before after : Layout} {done sum : ℕ} {work work_after : List ℕ} {n answer place did left : ℕ} → History rules used w h t before done sum
      → Checked before work rules used n answer place did left after work_after → History rules used w h t after (done + did) sum
  -- a check with any other rule list, if it does no piece: so each one that its tests refuse
  then_not_checked : {before after : Layout} {done sum : ℕ} {work work_after others : List ℕ} {count n answer place left : ℕ} → History rules used w h t before done sum
      → Checked before work others count n answer place 0 left after work_after → History rules used w h t after done sum
  -- a create that is refused
  then_not_created : {before after : Layout} {done sum w' h' t' answer : ℕ} → History rules used w h t before done sum
      → Created before w' h' t' answer after → (answer ≡ 0 → ⊥) → History rules used w h t after done sum
  -- a report with any rule list, accepted or refused: it is lent the tables to read
  then_reported : {l : Layout} {done sum : ℕ} {others out : List ℕ} {count answer place : ℕ} {a : Area} {found : Findings} → History rules used w h t l done sum
      → Reported l others count a out answer place found → History rules used w h t l done sum

-- ---- what is said of them
-- the full check's marks on the material of a layout
abbrev pub full_marks : Layout → List ℕ → ℕ → Picture
full_marks l rules used = full_mark (width l.material) (height l.material) (picture_of l.material) (rules_of rules used)

-- the layout with the full check's marks as its errors
abbrev pub fully_marked : Layout → List ℕ → ℕ → Layout
fully_marked l rules used = record { material = l.material; errors = table_like l.errors (full_marks l rules used); waiting = l.waiting }

-- (x,y) is farther than k from all waiting squares of a window w by h
abbrev pub Far : ℕ → ℕ → ℕ → Picture → ℕ → ℕ → Type 0
Far w h k waiting x y = (u v : ℕ) → u < w → v < h → u ≤ x + k → x ≤ u + k → v ≤ y + k → y ≤ v + k → waiting u v ≡ 0

-- the numbers of the tiles that a report listed
abbrev pub listed_tiles : Findings → List ℕ
listed_tiles found = take found.tiles found.slice

-- what a report found in an area is the full check's: as many error squares, and tiles that hold exactly these squares of the area
pub record FoundFull (errors : List ℕ) (full : Picture) (a : Area) (found : Findings) : Type 0 where
  pub squares : found.squares ≡ squares_in full 1 a
  pub only : (i x y : ℕ) → Memᴰ i (listed_tiles found) → Holds (tile_of errors i) x y → in_area a x y ≡ true → full x y ≡ 1
  pub all : (x y : ℕ) → in_area a x y ≡ true → full x y ≡ 1 → (i : ℕ) × Memᴰ i (listed_tiles found) × Holds (tile_of errors i) x y
