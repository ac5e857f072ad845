-- The order of pieces and the pieces that an area touches, by computing, in a window 40 by 20 where a line from (15,0) to (17,1) waits.
use Rattle.std.specs.Prelude.{ℕ, ◌≡◌, refl, Some, None}
use Rattle.plane.specs.Picture.{Picture, space, area, in_area, painted, extent, sum_to}
use Rattle.rules.specs.Some.{some}
use Rattle.waits.specs.Pieces.{block, some_in, pieces, in_window, waits_at, piece_waits, touches, touched, lowest_piece, lowest_block}
use Rattle.piece.specs.Remark.{near_area}

-- the waiting picture after that paint
unfoldable pub bar : Picture
bar = painted space (area 15 0 17 1) 1

-- with a block done
unfoldable pub done : Picture → (bx by : ℕ) → Picture
done p bx by = painted p (near_area 40 20 0 bx by) 0

-- the lowest piece that waits is the first; with that done, the second; with both done, none
pub in_order : (lowest_block 40 20 bar ≡ Some (block 0 0)) × (lowest_block 40 20 (done bar 0 0) ≡ Some (block 1 0)) × (lowest_block 40 20 (done (done bar 0 0) 1 0) ≡ None)
unfolding lowest_block lowest_piece piece_waits waits_at in_window some_in some extent bar done painted in_area
in_order = (refl, refl, refl)

-- the paint touches these two
pub two_touched : touched 40 20 (area 15 0 17 1) ≡ 2
unfolding touched touches in_window some_in pieces some sum_to in_area
two_touched = refl
