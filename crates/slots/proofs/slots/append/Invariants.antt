use Prim.Native.Nat.{ℕ, ◌+◌, ◌*◌, ◌<◌}
use mathlib.Core.Path.{◌≡◌}
use lib.ListN.{get_or, length}
use Rattle.slots.proofs.slots.append.Given as goal

abbrev pub invariant-loop-i : goal.invariant-loop-i
invariant-loop-i l =
    (length l.work ≡ length l.initial.work)
    × ((p : ℕ) → p < l.i → get_or l.work (4 + 9 * l.m + p) 0 ≡ get_or l.t.words.now (4 + 9 * l.j + p) 0)
    × ((p : ℕ) → p < 4 + 9 * l.m → get_or l.work p 0 ≡ get_or l.initial.work p 0)
