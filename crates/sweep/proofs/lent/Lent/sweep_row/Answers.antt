-- Without a piece done all is as it was; else the row is cleared, and what the marks came to stands in memory.
use Rattle.sweep.proofs.RowSweep.{sweep_none, sweep_last, sweep_paintable, sweep_done}
use native.Mathlib.Omega.{arith}
use Rattle.sweep.proofs.lent.Lent.sweep_row.Goals as goal

pub returns-then-ran-eq0-clause-turned : goal.returns-then-ran-eq0-clause-turned
returns-then-ran-eq0-clause-turned c = sweep_none c.requires.turn_in c.requires.waiting_bound c.mark_row-row.ensures c.if-ran-eq0.true

pub row_area-swept-requires : goal.row_area-swept-requires
row_area-swept-requires c = sweep_last c.requires.turn_in c.requires.waiting_bound c.mark_row-row.ensures (omega arith)

pub end_waiting-requires-clause-paintable : goal.end_waiting-requires-clause-paintable
end_waiting-requires-clause-paintable c = sweep_paintable c.requires.turn_in c.requires.waiting_bound c.mark_row-row.ensures c.row_area-swept.ensures (omega arith) c.room_in.ensures

pub returns-clause-turned : goal.returns-clause-turned
returns-clause-turned c = sweep_done c.requires.turn_in c.requires.waiting_bound c.mark_row-row.ensures c.row_area-swept.ensures c.end_waiting.ensures
