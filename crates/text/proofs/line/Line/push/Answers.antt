-- `Line::push`. The line stays padded, in each of the three cases.
use native.Mathlib.Omega.{arith}
use Rattle.text.proofs.Paddings.{padded_none, padded_push}
use Rattle.text.proofs.line.Line.push.Goals.{in-Some, in-Some-2, in-None}
use Rattle.text.proofs.line.Line.push.Goals as goal

pub invariant_of-self : goal.invariant_of-self
invariant_of-self c = elim c.match-self.branch [
  | in-Some w ↦ rw (w.self-is, w.self-inside-is) (let h = rw w.in-Some.is at c.self.invariant in padded_push c.args.b h (omega arith))
  | in-Some-2 w ↦ rw (w.self-is, w.self-inside-is) (padded_none 200)
  | in-None w ↦ rw (w.self-is, w.self-inside-is) (rw w.in-None.is at c.self.invariant)
]
