use Prim.Native.Nat.{◌≤◌}
use mathlib.Core.List.{[], ◌∷◌}
use mathlib.Core.Bool.{cond}
use Rattle.plane.specs.Area.{meets}
use Rattle.plane.specs.Listing.{ListedTo}
use Rattle.plane.specs.Words.{tile_of}
use Rattle.plane.specs.Picture.{joined}
use Rattle.plane.proofs.table.Table.list_tiles.Given as goal

abbrev pub invariant-loop-number : goal.invariant-loop-number
invariant-loop-number l = (l.m ≤ l.number) × ListedTo (joined l.number (λ j. cond (meets (tile_of l.self j) l.kind l.a) (j ∷ []) [])) l.most l.initial.out l.out l.m
