-- A run of check: the lowest waiting piece, as often as told or until none waits; and what one piece comes to.
use Rattle.std.specs.Prelude.{ℕ, zero, suc, Bool, true, false, ◌&&◌, List, length, leb, Option, Some, None}
use Rattle.plane.specs.Picture.{Picture, tiles, painted}
use Rattle.plane.specs.Words.{width, height, picture_of}
use Rattle.tables.specs.Like.{table_like}
use Rattle.rules.specs.declared.rule.Rule.{Rule}
use Rattle.waits.specs.declared.block.Block.{Block}
use Rattle.waits.specs.Pieces.{lowest_block, waiting_pieces}
use Rattle.piece.specs.Remark.{remarked, near_area}
use Rattle.sheet.specs.Layout.{Layout, room}

-- ---- one piece, the block at column bx, row by, for rules rs with halo k
-- the errors afterwards: the full check's mark within the halo of the block, and the old mark elsewhere
abbrev pub piece_errors : Layout → List Rule → ℕ → ℕ → ℕ → Picture
piece_errors l rs k bx by = remarked (width l.material) (height l.material) (picture_of l.material) rs k bx by (picture_of l.errors)

-- what waits afterwards: the block does not
abbrev pub piece_waiting : Layout → ℕ → ℕ → Picture
piece_waiting l bx by = painted (picture_of l.waiting) (near_area (width l.waiting) (height l.waiting) 0 bx by) 0

-- the layout afterwards
abbrev pub checked_piece : Layout → List Rule → ℕ → ℕ → ℕ → Layout
checked_piece l rs k bx by = record {
  material = l.material;
  errors = table_like l.errors (piece_errors l rs k bx by);
  waiting = table_like l.waiting (piece_waiting l bx by);
}

-- have errors and waiting room for it
unfoldable pub piece_fits : Layout → List Rule → ℕ → ℕ → ℕ → Bool
piece_fits l rs k bx by =
    leb (length (tiles (width l.errors) (height l.errors) (piece_errors l rs k bx by))) (room l)
    && leb (length (tiles (width l.waiting) (height l.waiting) (piece_waiting l bx by))) (room l)

-- ---- a run
-- the lowest waiting piece of a layout
abbrev pub lowest_of : Layout → Option Block
lowest_of l = lowest_block (width l.waiting) (height l.waiting) (picture_of l.waiting)

-- how many pieces of a layout wait
abbrev pub waiting_of : Layout → ℕ
waiting_of l = waiting_pieces (width l.waiting) (height l.waiting) (picture_of l.waiting)

-- what a run leaves: 0, or 7 for want of room at a piece; the pieces done; the layout
pub record Run : Type 0 where
  pub number : ℕ
  pub done : ℕ
  pub layout : Layout

-- a run that is over
abbrev pub stopped : ℕ → Layout → Run
stopped n l = record { number = n; done = 0; layout = l }

-- a piece, and then a run
abbrev pub one_more : Run → Run
one_more r = record { number = r.number; done = suc r.done; layout = r.layout }

-- the layout after the piece b, and has it room
abbrev pub after_block : Layout → List Rule → ℕ → Option Block → Layout
after_block l rs k (Some b) = checked_piece l rs k b.x b.y
after_block l rs k None = l

abbrev pub fits_block : Layout → List Rule → ℕ → Option Block → Bool
fits_block l rs k (Some b) = piece_fits l rs k b.x b.y
fits_block l rs k None = true

-- none waits: over; a piece with room: done, and on; a piece without: 7, and it is left undone
abbrev pub turn : Option Block → Bool → Layout → Run → Run
turn None fits l next = stopped 0 l
turn (Some b) true l next = one_more next
turn (Some b) false l next = stopped 7 l

-- check n: the lowest waiting piece, n times or until none waits
unfoldable pub check_run : ℕ → List Rule → ℕ → Layout → Run
unfolding piece_fits
check_run zero rs k l = stopped 0 l
check_run (suc n) rs k l = turn (lowest_of l) (fits_block l rs k (lowest_of l)) l (check_run n rs k (after_block l rs k (lowest_of l)))

-- ---- what check answers
-- what it answers and leaves
pub record CheckLeft : Type 0 where
  pub number : ℕ
  pub done : ℕ
  pub left : ℕ
  pub layout : Layout

-- a run, with the pieces that wait afterwards
abbrev pub ran_check : Run → CheckLeft
ran_check r = record {
  number = r.number;
  done = r.done;
  left = waiting_of r.layout;
  layout = r.layout;
}
