-- A calm piece has rows of zeros; else they are the piece's.
use Rattle.piece.proofs.Remarks.{halo_in}
use Rattle.remark.proofs.MarkErrors.{calm_rows}
use Rattle.remark.proofs.remark.near_marks.Goals as goal

pub calm-requires : goal.calm-requires
calm-requires c = (c.requires.plane, c.requires.column, c.requires.row, halo_in c.requires)

pub returns-then-calm : goal.returns-then-calm
returns-then-calm c = calm_rows c.requires (c.calm.ensures c.if-calm.true)
