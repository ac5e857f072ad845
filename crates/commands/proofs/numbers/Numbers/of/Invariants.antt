use Rattle.std.proofs.Common.{length}
use Rattle.text.specs.Part.{parts_left}
use Rattle.commands.proofs.Reading.{ReadTo}
use Rattle.commands.proofs.numbers.Numbers.of.Given as goal

abbrev pub invariant-loop-part : goal.invariant-loop-part
invariant-loop-part l = ReadTo (parts_left l.left) (length l.yielded) l.numbers
