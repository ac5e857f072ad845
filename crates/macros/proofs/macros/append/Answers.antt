-- `append`. The rules of the first product behind the used ones, and those of the second, if there is one, behind them.
use Rattle.macros.specs.Both.{rules_of}
use Rattle.macros.proofs.Expands.{appended_done}
use Rattle.macros.proofs.Puts.{put_then}
use lib.ListN.{length-append}
use native.Mathlib.Omega.{arith}
use Rattle.macros.proofs.macros.append.Goals as goal

pub returns-in-Some : goal.returns-in-Some
returns-in-Some c =
    let more = rw c.in-Some.is at c.map_or.ensures in
    rw c.in-Some.is
    (appended_done (omega (arith, more, c.count.ensures, length-append (rules_of c.args.one) (rules_of c.in-Some.two), c.if-rules-used.false)) (put_then c.put-next.ensures c.put.ensures))

pub returns-in-None : goal.returns-in-None
returns-in-None c = rw c.in-None.is (appended_done (omega (arith, c.count.ensures, c.if-rules-used.false)) c.put-next.ensures)
