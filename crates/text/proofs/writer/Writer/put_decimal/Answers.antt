-- `put_decimal`. Twenty digits serve every number of 64 bits.
use Rattle.std.proofs.Common.{arith}
use Rattle.text.proofs.Decimals.{decimal_length}
use Rattle.text.proofs.writer.Writer.put_decimal.Goals as goal

pub returns : goal.returns
returns c = (c.put_places.ensures, omega (arith, c.put_places.ensures.put.next, decimal_length 20 c.args.n))
