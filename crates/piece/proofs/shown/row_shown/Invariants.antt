use Rattle.plane.specs.Picture.{area}
use Rattle.plane.specs.Words.{picture_of}
use Rattle.piece.specs.Runs.{RowLeft}
use Rattle.piece.specs.Shown.{RowShown}
use Rattle.piece.proofs.shown.row_shown.Given as goal

abbrev pub invariant-loop-run : goal.invariant-loop-run
invariant-loop-run l =
    (goal.iterator-loop-run).can_next l.run-iterator × (goal.iterator-loop-run).is_finite l.run-iterator
    × RowLeft l.fn.table l.a.x1 l.y l.a.x2 l.run-iterator
    × RowShown (picture_of l.fn.table) (area l.a.x1 l.y l.run-iterator.x l.a.y2) l.word l.top
