-- The walk along the side keeps `Along`.
use native.Mathlib.Omega.{arith}
use Rattle.ask.proofs.Alongs.{along_none, along_next, along_border, along_done}
use Rattle.ask.proofs.side.list_side.Goals as goal

pub loop-j-init : goal.loop-j-init
loop-j-init c = along_none c.requires.0

pub returns-in_default : goal.returns-in_default
returns-in_default c = along_border c.tile.ensures.plane (omega (arith, c.count.ensures.value)) c.requires.0 c.loop-j.invariant (rw (c.length-n.ensures, c.tile.ensures.value) at c.loop-j-test.true) (rw (c.square-s.ensures, c.tile.ensures.value) at c.in_default.ensures)

pub loop-j-preserved : goal.loop-j-preserved
loop-j-preserved c = rw (c.reach-j.ensures, c.tile.ensures.value, c.tile-in-loop-j.ensures.value) (along_next c.tile.ensures.plane (omega (arith, c.count.ensures.value)) c.requires.0 c.loop-j.invariant (rw (c.length-n.ensures, c.tile.ensures.value) at c.loop-j-test.true) (rw (c.square-s.ensures, c.tile.ensures.value) at c.in-Some.ensures) c.note-m.ensures.0 c.note-m.ensures.1)

pub returns : goal.returns
returns c = along_done c.tile.ensures.plane (omega (arith, c.count.ensures.value)) c.requires.0 c.loop-j.invariant (rw (c.length-n.ensures, c.tile.ensures.value) at c.loop-j-test.false)
