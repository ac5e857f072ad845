use Rattle.std.proofs.Common.{◌≡◌, ◌≤◌, drop}
use Rattle.text.specs.Number.{number_of}
use Rattle.text.proofs.Numbers.{tail}
use Rattle.text.proofs.number.number_in.Given as goal

abbrev pub invariant-loop-c : goal.invariant-loop-c
invariant-loop-c l = (l.value ≤ 65535) × (number_of l.word ≡ tail l.value (drop l.c-index l.word))
