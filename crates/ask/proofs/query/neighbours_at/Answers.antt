-- The first listing writes nothing, so a refusal leaves the slice; the second writes all.
use native.Mathlib.Omega.{arith}
use mathlib.Core.Path.{ap}
use Rattle.plane.specs.Words.{count}
use Rattle.ask.proofs.Alongs.{four_sides}
use Rattle.ask.proofs.Asked.{neighboured_full, neighboured_done}
use Rattle.ask.proofs.query.neighbours_at.Goals as goal

pub returns-then-out-n : goal.returns-then-out-n
returns-then-out-n c = let t = c.in_ok-table.ensures in
    neighboured_full t.answer
    (record { tile = omega (arith, c.count.ensures.value, ap count t.table.0); four = omega (arith, c.in_ok-side.ensures, four_sides c.in_ok-side.side) })
    (rw (t.table.0, ← c.in_ok-side.ensures) at c.list_side-n.ensures) c.if-out-n.true

pub returns : goal.returns
returns c = let t = c.in_ok-table.ensures in
    neighboured_done t.answer
    (record { tile = omega (arith, c.count.ensures.value, ap count t.table.0); four = omega (arith, c.in_ok-side.ensures, four_sides c.in_ok-side.side) })
    (rw (t.table.0, ← c.in_ok-side.ensures) at c.list_side-n.ensures) c.if-out-n.false (rw (t.table.0, ← c.in_ok-side.ensures) at c.list_side.ensures)
