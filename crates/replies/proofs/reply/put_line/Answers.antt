-- `put_line`. The word is put, number after number, and the line end.
use Rattle.std.proofs.Common.{arith, refl}
use Rattle.replies.proofs.Lines.{line_none, line_on, line_end}
use Rattle.replies.proofs.reply.put_line.Goals as goal

pub loop-n-init : goal.loop-n-init
loop-n-init c = line_none c.requires.0 c.put_word.ensures

pub loop-n-preserved : goal.loop-n-preserved
loop-n-preserved c = line_on c.loop-n.invariant c.loop-n-test.true refl c.put_byte.ensures c.put_decimal.ensures.0 c.put_decimal.ensures.1

pub returns : goal.returns
returns c = (line_end c.loop-n.invariant c.loop-n-test.false c.put_byte-2.ensures, omega (arith, c.loop-n.invariant.at, c.put_byte-2.ensures.put.next, c.requires.1, c.loop-n.auto.n-index-end))
