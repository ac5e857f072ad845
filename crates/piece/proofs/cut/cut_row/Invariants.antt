use Rattle.plane.specs.Picture.{area}
use Rattle.plane.specs.Words.{picture_of}
use Rattle.piece.specs.Cut.{RowCut}
use Rattle.piece.specs.Runs.{RowLeft}
use Rattle.piece.proofs.cut.cut_row.Given as goal

abbrev pub invariant-loop-run : goal.invariant-loop-run
invariant-loop-run l =
    (goal.iterator-loop-run).can_next l.run-iterator × (goal.iterator-loop-run).is_finite l.run-iterator
    × RowLeft l.fn.table l.fn.a.x1 l.y l.fn.a.x2 l.run-iterator
    × RowCut (picture_of l.fn.table) l.block.x l.block.y (area l.fn.a.x1 l.y l.run-iterator.x l.fn.a.y2) l.top l.initial.kinds l.kinds
