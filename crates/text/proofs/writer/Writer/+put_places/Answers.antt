-- `put_places`, which calls itself with one place fewer. No place: nothing is put; one digit: it is put; else the digits of n / 10 and then the last.
use Rattle.std.proofs.Common.{arith, ◌-◌, ◌/◌}
use Rattle.text.proofs.Puts.{puts_none, puts_both}
use Rattle.text.proofs.Decimals.{decimal_none, decimal_last, decimal_more, decimal_length}
use Rattle.text.proofs.writer.Writer.+put_places.Goals as goal

pub returns-then-k-eq0 : goal.returns-then-k-eq0
returns-then-k-eq0 t c = rw (decimal_none c.args.k c.args.n c.if-k-eq0.true) (puts_none c.args.self.now)

pub returns-then-n-lt10 : goal.returns-then-n-lt10
returns-then-n-lt10 t c = rw (decimal_last c.args.k c.args.n c.if-k-eq0.false c.if-n-lt10.true) c.put_byte.ensures

pub put_byte-requires-2 : goal.put_byte-requires-2
put_byte-requires-2 t c = omega (arith, c.put_places.ensures.put.next, c.put_places.ensures.long, decimal_length (c.args.k - 1) (c.args.n / 10), c.requires, c.if-k-eq0.false)

pub returns : goal.returns
returns t c = rw (decimal_more c.args.k c.args.n c.if-k-eq0.false c.if-n-lt10.false) (puts_both c.put_places.ensures c.put_byte-2.ensures)
