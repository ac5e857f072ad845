-- The marks of squares far from all waiting squares stay right: a paint changes nothing that decides them, and a piece done gets the full check's marks as far as its halo reaches.
use Prim.Native.Nat.{ℕ, ◌+◌, ◌*◌, ◌≤◌, ◌<◌}
use native.Mathlib.Omega.{arith}
use mathlib.Core.Bool.{Bool, true, false, cond, true≢false}
use mathlib.Core.Path.{◌≡◌, refl, sym, ◌∙◌, ap}
use mathlib.Core.Logic.{⊎_elim}
use mathlib.Core.List.{List}
use Rattle.plane.specs.declared.tile.Area.{Area}
use Rattle.plane.specs.Picture.{Picture, area, in_area, painted}
use Rattle.plane.proofs.Basics.{bool_cases, is_false}
use Rattle.rules.specs.declared.rule.Rule.{Rule}
use Rattle.rules.specs.Words.{halo_of, rules_of}
use Rattle.rules.proofs.Blank.{blank_free}
use Rattle.rules.proofs.Vetted.{all_apart}
use Rattle.rules.proofs.Window.{area_of, halo_local, within}
use Rattle.piece.specs.Remark.{full_mark, near_area, near_block, remarked}
use Rattle.layout.specs.History.{Far, GoodRules}

-- two pictures agree in a window w by h
abbrev pub Agree : ℕ → ℕ → Picture → Picture → Type 0
Agree w h p q = (x y : ℕ) → x < w → y < h → p x y ≡ q x y

-- the squares that are farther than k from all waiting squares carry the full check's marks
abbrev pub FarRight : ℕ → ℕ → ℕ → Picture → Picture → Picture → Type 0
FarRight w h k waiting errors full = (x y : ℕ) → x < w → y < h → Far w h k waiting x y → errors x y ≡ full x y

painted_off : (p : Picture) (a : Area) (k x y : ℕ) → in_area a x y ≡ false → painted p a k x y ≡ p x y
unfolding painted
painted_off p a k x y e = ap (λ (b : Bool). cond b k (p x y)) e

-- what does not wait after a paint was not painted, and did not wait before
unpainted : (p : Picture) (a : Area) (x y : ℕ) → painted p a 1 x y ≡ 0 → (in_area a x y ≡ false) × (p x y ≡ 0)
unfolding painted
unpainted p a x y e = ⊎_elim
    (λ (b : in_area a x y ≡ true). let z : ◌≡◌ {A = ℕ} 1 0 = sym (ap (λ (c : Bool). cond c 1 (p x y)) b) ∙ e in absurd (omega arith))
    (λ (b : in_area a x y ≡ false). (b, sym (painted_off p a 1 x y b) ∙ e))
    (bool_cases (in_area a x y))

-- ---- in a window w by h, for a sound rule list
module _ (w h : ℕ) {rules : List ℕ} {used t : ℕ} (G : GoodRules rules used t) where
  -- a window of space has no error squares
  pub blank_right : (material errors waiting : Picture) → Agree w h material (λ x y. 0) → Agree w h errors (λ x y. 0)
      → FarRight w h (halo_of rules used) waiting errors (full_mark w h material (rules_of rules used))
  blank_right material errors waiting m e x y u v far =
      e x y u v ∙ sym (ap (λ (b : Bool). cond b 1 0) (halo_local rules used t w h material (λ x y. 0) x y G.sound (λ i j a b _ _ _ _. m i j a b) ∙ blank_free w h (λ x y. 0) (rules_of rules used) x y (λ i j. refl) (all_apart rules used t G.sound)))

  -- a paint
  pub paint_right : (material material' errors waiting waiting' : Picture) (a : Area) (kind : ℕ) → Agree w h material' (painted material a kind) → Agree w h waiting' (painted waiting a 1)
      → FarRight w h (halo_of rules used) waiting errors (full_mark w h material (rules_of rules used)) → FarRight w h (halo_of rules used) waiting' errors (full_mark w h material' (rules_of rules used))
  paint_right material material' errors waiting waiting' a kind m q all x y u v far =
      all x y u v (λ i j b c d e f g. (clear i j b c (far i j b c d e f g)).1)
      ∙ ap (λ (b : Bool). cond b 1 0) (halo_local rules used t w h material material' x y G.sound (λ i j b c d e f g.
      sym (m i j b c ∙ painted_off material a kind i j (clear i j b c (far i j b c d e f g)).0)))
    where
      clear : (i j : ℕ) → i < w → j < h → waiting' i j ≡ 0 → (in_area a i j ≡ false) × (waiting i j ≡ 0)
      clear i j b c e = unpainted waiting a i j (sym (q i j b c) ∙ e)

-- a square that is not within k of a block has no square of the block within k
off_block : (w h k bx by x y i j : ℕ) → near_block k bx by x y ≡ false → i ≤ x + k → x ≤ i + k → j ≤ y + k → y ≤ j + k → in_area (near_area w h 0 bx by) i j ≡ false
unfolding near_block
off_block w h k bx by x y i j e a b c d = is_false (in_area (near_area w h 0 bx by) i j) (λ f.
    let n = within (near_area w h 0 bx by) i j f in
    true≢false (sym (area_of (area (16 * bx) (16 * by) (16 * bx + 16 + k + k) (16 * by + 16 + k + k)) (x + k) (y + k)
    (record { left_of = omega (arith, n.left_of); right_of = omega (arith, n.right_of); low = omega (arith, n.low); high = omega (arith, n.high) })) ∙ e))

-- a piece done
pub piece_right : (w h k : ℕ) (rs : List Rule) (material errors errors' waiting waiting' : Picture) (bx by : ℕ)
    → Agree w h errors' (remarked w h material rs k bx by errors) → Agree w h waiting' (painted waiting (near_area w h 0 bx by) 0)
    → FarRight w h k waiting errors (full_mark w h material rs) → FarRight w h k waiting' errors' (full_mark w h material rs)
unfolding remarked
piece_right w h k rs material errors errors' waiting waiting' bx by m q all x y u v far = m x y u v ∙ ⊎_elim
    (λ (n : near_block k bx by x y ≡ true). ap (λ (b : Bool). cond b (full_mark w h material rs x y) (errors x y)) n)
    (λ (n : near_block k bx by x y ≡ false). ap (λ (b : Bool). cond b (full_mark w h material rs x y) (errors x y)) n
    ∙ all x y u v (λ i j a b c d e f. sym (painted_off waiting (near_area w h 0 bx by) 0 i j (off_block w h k bx by x y i j n c d e f)) ∙ (sym (q i j a b) ∙ far i j a b c d e f)))
    (bool_cases (near_block k bx by x y))
