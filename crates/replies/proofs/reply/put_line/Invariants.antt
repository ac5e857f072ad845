use Rattle.replies.proofs.Lines.{Line}
use Rattle.replies.proofs.reply.put_line.Given as goal

abbrev pub invariant-loop-n : goal.invariant-loop-n
invariant-loop-n l = Line l.fn.out l.out l.word l.numbers l.n-index
