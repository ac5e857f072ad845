-- The row covered so far: `RowSoFar`.
use mathlib.Core.Path.{◌∙◌}
use Rattle.strips.proofs.Covers.{row_more, row_under}
use Rattle.strips.proofs.cover.cover_row.Goals as goal

pub cover-requires-clause-row_under : goal.cover-requires-clause-row_under
cover-requires-clause-row_under c = row_under c.loop-r.invariant.2 c.requires.row_under c.loop-r-test.true

pub loop-r-preserved : goal.loop-r-preserved
loop-r-preserved c = (c.cover.auto.work ∙ c.loop-r.invariant.0, c.in_ok-u.ensures.near, row_more c.loop-r.invariant.2 c.in_ok-u.ensures.covers c.min.ensures)
