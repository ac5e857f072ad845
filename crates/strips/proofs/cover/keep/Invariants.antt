use mathlib.Core.Path.{◌≡◌}
use lib.ListN.{length}
use Rattle.strips.specs.Cover.{Kept}
use Rattle.strips.proofs.cover.keep.Given as goal

abbrev pub invariant-loop-i : goal.invariant-loop-i
invariant-loop-i l = (length l.work ≡ length l.initial.work) × Kept l.p.words l.p.brush l.work l.i l.m
