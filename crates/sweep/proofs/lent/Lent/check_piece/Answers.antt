-- What each step is handed follows from the piece to check; the ways out, no room for waiting or for errors and both done, are one law each; the function names the first, `piece_unroomed`.
use Rattle.sweep.proofs.OnePiece.{as_waiting, as_waiting_tiles, piece_unmarked, piece_checked}
use Rattle.std.proofs.Common.{rules}
use mathlib.Core.Path.{refl}
use Rattle.sweep.proofs.lent.Lent.check_piece.Goals as goal

pub returns-in_err-remark-clause-tried : goal.returns-in_err-remark-clause-tried
returns-in_err-remark-clause-tried c = rw c.from_residual.ensures (piece_unmarked c.requires c.in_err-remark.ensures refl)

pub returns-clause-tried : goal.returns-clause-tried
returns-clause-tried c = piece_checked c.requires c.in_ok-remark.ensures (as_waiting c.requires c.near_area-block.ensures c.end_waiting.ensures) c.tiles_after.result c.room_in-room.ensures refl (as_waiting_tiles c.requires _ c.tiles_after.result c.near_area-block.ensures c.tiles_after.ensures) (search rules)
