-- The words of a slice: two lists that agree on a tile, and words that stand behind the first tiles. No picture is named here.
use Prim.Native.Nat.{ℕ, ◌+◌, ◌-◌, ◌*◌, ◌<◌}
use native.Mathlib.Omega.{arith}
use mathlib.Core.Path.{◌≡◌, ◌∙◌, ap}
use mathlib.Core.List.{List}
use lib.ListN.{get_or, length}
use Rattle.plane.specs.Words.{tile_of}
use Rattle.slots.specs.Slots.{Appended}

-- two lists that agree on the words of a tile agree on the tile
pub tile_agree : (vs ws : List ℕ) (i j : ℕ) → ((k : ℕ) → k < 5 → get_or vs (4 + 9 * i + k) 0 ≡ get_or ws (4 + 9 * j + k) 0) → tile_of vs i ≡ tile_of ws j
tile_agree vs ws i j f = λ d. record {
  left = f 0 (omega arith) d;
  bottom = f 1 (omega arith) d;
  right = f 2 (omega arith) d;
  top = f 3 (omega arith) d;
  kind = f 4 (omega arith) d;
}

-- the words of ws from tile j on, behind the first m tiles of us, are its tiles there
pub append_done : {ws us vs : List ℕ} {j n m : ℕ} → length vs ≡ length us → ((p : ℕ) → p < 9 * (n - j) → get_or vs (4 + 9 * m + p) 0 ≡ get_or ws (4 + 9 * j + p) 0)
    → ((p : ℕ) → p < 4 + 9 * m → get_or vs p 0 ≡ get_or us p 0) → Appended ws j n us m vs
append_done {ws} {us} {vs} {j} {n} {m} long new old = record {
  long = long;
  new = λ i v. tile_agree vs ws (m + i) (j + i) (λ k o.
      let d : 4 + 9 * (m + i) + k ≡ 4 + 9 * m + (9 * i + k) = omega arith in
      let e : 4 + 9 * j + (9 * i + k) ≡ 4 + 9 * (j + i) + k = omega arith in
      ap (λ (z : ℕ). get_or vs z 0) d ∙ (new (9 * i + k) (omega arith) ∙ ap (λ (z : ℕ). get_or ws z 0) e));
  old = λ i v. tile_agree vs us i i (λ k o. old (4 + 9 * i + k) (omega arith));
}
