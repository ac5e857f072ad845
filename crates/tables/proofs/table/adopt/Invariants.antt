use Prim.Native.Nat.{ℕ, ◌≤◌, ◌<◌}
use mathlib.Core.Path.{◌≡◌}
use lib.ListN.{get_or, length}
use Rattle.tables.proofs.table.adopt.Given as goal

abbrev pub invariant-loop-i : goal.invariant-loop-i
invariant-loop-i l =
    (length l.t ≡ length l.initial.t)
    × ((p : ℕ) → p < l.i → get_or l.t p 0 ≡ get_or l.work p 0)
    × ((p : ℕ) → l.i ≤ p → get_or l.t p 0 ≡ get_or l.initial.t p 0)
