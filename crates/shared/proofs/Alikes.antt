-- The tiles that two tables share, found from both ends.
use Prim.Native.Nat.{ℕ, ◌+◌, ◌-◌, ◌≤◌, ◌<◌}
use native.Mathlib.Omega.{arith}
use mathlib.Core.Path.{◌≡◌, subst}
use mathlib.Core.List.{List}
use Rattle.plane.specs.Words.{count, tile_of}
use Rattle.shared.specs.declared.shared.Shared.{Shared}
use Rattle.shared.specs.Shares.{Alike}

-- r tiles at the front and d at the back
pub alike_found : {ws vs : List ℕ} {m n r d : ℕ} (s : Shared) → s.low ≡ r → s.old ≡ m - d → s.end ≡ m → s.new ≡ n - d → m ≡ count ws → m ≤ 65535 → r + d ≤ m → r + d ≤ n
    → ((k : ℕ) → k < r → tile_of vs k ≡ tile_of ws k) → ((k : ℕ) → k < d → tile_of vs (n - 1 - k) ≡ tile_of ws (m - 1 - k)) → Alike ws vs n s
alike_found {ws} {vs} {m} {n} {r} {d} s e f g h all few a b low high = record {
  all = omega arith;
  few = omega arith;
  low_old = omega arith;
  low_new = omega arith;
  back = omega arith;
  ends = omega arith;
  first = λ i u. low i (omega arith);
  last = λ i j u v e.
      let p : m - 1 - (m - 1 - i) ≡ i = omega arith in
      let q : n - 1 - (m - 1 - i) ≡ j = omega arith in
      subst (λ (z : ℕ). tile_of vs z ≡ tile_of ws i) q (subst (λ (z : ℕ). tile_of vs (n - 1 - (m - 1 - i)) ≡ tile_of ws z) p (high (m - 1 - i) (omega arith)));
}
