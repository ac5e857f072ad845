-- The pairs that are the same, from the front and from the back, by `alike_found`.
use native.Mathlib.Omega.{arith}
use mathlib.Core.Path.{◌≡◌, refl}
use Prim.Native.Nat.{ℕ, ◌-◌, ◌<◌}
use Rattle.std.proofs.Common.{rules}
use Rattle.plane.specs.Words.{tile_of}
use Rattle.shared.proofs.Alikes.{alike_found}
use Rattle.shared.proofs.shared.Shared.of.Goals as goal

pub returns : goal.returns
returns c =
    let T = c.from-t.ensures in
    let low : (k : ℕ) → k < c.same_run-low.result → tile_of c.args.work.words.now k ≡ tile_of c.from-t.result.words.now k = λ k u. let p = c.same_run-low.ensures.1 k u in search rules in
    let high : (k : ℕ) → k < c.same_run-high.result → tile_of c.args.work.words.now (c.args.work.count - 1 - k) ≡ tile_of c.from-t.result.words.now (c.from-t.result.count - 1 - k) = λ k u. let p = c.same_run-high.ensures.1 k u in search rules in
    alike_found _ refl refl refl refl T.1 T.2 (omega arith) (omega arith) (rw T.0 at low) (rw T.0 at high)
