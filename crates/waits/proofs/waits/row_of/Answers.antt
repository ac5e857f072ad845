-- `row_of`. Each turn marks the columns of one tile more; with all marked, they are those that wait.
use Rattle.waits.proofs.Waited.{columns_none, columns_more, columns_wait}
use Rattle.plane.specs.Words.{count}
use native.Mathlib.Omega.{arith}
use mathlib.Core.Path.{◌≡◌}
use Rattle.waits.proofs.waits.row_of.Goals as goal

pub loop-i-init : goal.loop-i-init
loop-i-init c = columns_none c.args.t.now c.args.y

pub loop-i-preserved : goal.loop-i-preserved
loop-i-preserved c = columns_more c.tile.result (rw c.of-table.ensures at c.tile.ensures.value) c.loop-i.invariant c.mark_tile.ensures

pub returns : goal.returns
returns c = let e : c.loop-i.i ≡ count c.args.t.now = rw (← c.of-table.ensures) (omega arith) in columns_wait c.args.t.now c.requires.0 (rw e at c.loop-i.invariant)
