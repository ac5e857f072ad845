use Rattle.std.proofs.Common.{rules, tests}
use native.Mathlib.Omega.{arith}
use Prim.Native.Nat.{ℕ, suc, ◌-◌}
use mathlib.Core.Path.{◌≡◌}
use Rattle.plane.specs.Strips.{Precedes}
use Rattle.plane.specs.Words.{tile_of}
use Rattle.plane.specs.Plane.{InOrder}
use Rattle.vet.proofs.Ranges.{tells_all}
use Rattle.vet.proofs.tiles.Listed.in_order.Goals as goal

pub returns : goal.returns
returns c = let ws = c.args.self.words.now in
    let Yes = λ (i : ℕ). Precedes (tile_of ws (i - 1)) (tile_of ws i) in
    tells_all c.all.new.self _ c.all.result 1 c.count.result Yes (λ i. Yes i → ⊥) (InOrder ws) (InOrder ws) c.all.ensures.ran (search rules) (λ x q k. search (rules, tests)) (λ x q k. search (rules, tests))
    (λ h i u. let e : suc i - 1 ≡ i = omega arith in rw e at (h (suc i) (omega arith) (omega arith)))
    (λ i u v n O. let e : suc (i - 1) ≡ i = omega arith in n (rw e at (O (i - 1) (omega arith))))
