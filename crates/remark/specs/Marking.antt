-- What the functions that mark a piece's errors, and end its waiting, promise.
use Rattle.std.specs.Prelude.{ℕ, ◌*◌, ◌<◌, cond, ◌≡◌, List, leb, length, Option}
use Rattle.std.specs.Option.{is_some}
use Rattle.plane.specs.Picture.{Picture, tiles}
use Rattle.plane.specs.Words.{width, height, kinds, picture_of, room_in, TableLength, PictureTable}
use Rattle.tables.specs.Like.{table_like}
use Rattle.rules.specs.Vetting.{ListLength, AllSound}
use Rattle.rules.specs.Words.{rules_of, halo_of}
use Rattle.piece.specs.Remark.{remarked}
use Rattle.sheet.specs.Layout.{Marks}

-- a block whose errors are to be marked: tables of one length that passed their test, sound rules, a working room as long, and a block of the window
pub record MarkIn (material errors work rules : List ℕ) (used bx by : ℕ) : Type 0 where
  pub sized : TableLength (length material)
  pub long : length errors ≡ length material
  pub working : length work ≡ length material
  pub list : ListLength (length rules) used
  pub sound : AllSound rules used (kinds material)
  pub table : PictureTable material
  pub marks : Marks material errors
  pub column : 16 * bx < width material
  pub row : 16 * by < height material

-- the picture of the errors afterwards
abbrev pub errors_near : List ℕ → List ℕ → List ℕ → ℕ → ℕ → ℕ → Picture
errors_near material errors rules used bx by = remarked (width material) (height material) (picture_of material) (rules_of rules used) (halo_of rules used) bx by (picture_of errors)

-- a table that is to show the picture q: has it room, and its words afterwards
pub record Remade (ws : List ℕ) (q : Picture) (r : Option (Unit {0})) (after : List ℕ) : Type 0 where
  pub fits : is_some r ≡ leb (length (tiles (width ws) (height ws) q)) (room_in (length ws))
  pub leaves : after ≡ cond (is_some r) (table_like ws q) ws
