-- A local picture that is cut out of a window shows from its inner squares what the window shows there. So the rules forbid the same squares on both.
use Prim.Native.Nat.{ℕ, ◌+◌, ◌-◌, ◌*◌, ◌<◌, ◌≤◌}
use mathlib.Core.Bool.{cond, true≢false, false≢true}
use mathlib.Core.List.{List}
use mathlib.Core.Path.{◌≡◌, sym, ◌∙◌, ap, ap₂}
use native.Mathlib.Omega.{arith}
use lib.ListN.{get_or}
use Rattle.plane.specs.Picture.{Picture, area}
use Rattle.rules.specs.declared.rule.Rule.{Rule}
use Rattle.rules.specs.Some.{some_of, Every}
use Rattle.rules.specs.Words.{Reaches}
use Rattle.rules.specs.Forbid.{right, left, up, down, back_x, back_y, kind_at, outside, seen, forbids, forbidden}
use Rattle.rules.proofs.Searches.{some_of_every}
use Rattle.rules.proofs.Local.{Agree, forbids_local}
use Rattle.rules.proofs.Window.{area_of}
use Rattle.piece.specs.Cut.{CutOut}
use Rattle.edges.specs.Edge.{flat}

module _ (k lo hi w h : ℕ) (p : Picture) (ox oy : ℕ) (ks : List ℕ) (cut : CutOut lo hi w h p ox oy ks) (most : hi ≤ 82) (x y u v : ℕ) (ex : 33 + x ≡ ox + u) (ey : 33 + y ≡ oy + v)
    (l : lo + k ≤ u) (r : u + k < hi) (b : lo + k ≤ v) (t : v + k < hi) where
  -- the local square that is seen, and where it stands in the plane
  at : (n a c X Y : ℕ) → lo ≤ a → a < hi → lo ≤ c → c < hi → n ≡ c * 82 + a → X ≡ ox + a → Y ≡ oy + c → get_or ks n 0 ≡ kind_at w h p X Y
  at n a c X Y ga la gc lc e f g =
      ap (λ n. get_or ks n 0) e
      ∙ cut.kind a c (omega arith) (omega arith)
      ∙ ap (λ z. cond z (kind_at w h p (ox + a) (oy + c)) outside) (area_of (area lo lo hi hi) a c (record { left_of = ga; right_of = la; low = gc; high = lc }))
      ∙ ap₂ (kind_at w h p) (sym f) (sym g)

  cut_agrees : Agree k (flat ks (v * 82 + u)) (seen w h p x y)
  unfolding flat seen back_x back_y
  cut_agrees right right c i j hi hj = absurd (false≢true c)
  cut_agrees right left c i j hi hj = absurd (false≢true c)
  cut_agrees right up c i j hi hj = at (v * 82 + u + (i * 0 + j * 0) - (i * 1 + j * 82)) (u - i) (v - j) (33 + x - i) (33 + y - j) (omega arith) (omega arith) (omega arith) (omega arith) (omega arith) (omega arith) (omega arith)
  cut_agrees right down c i j hi hj = at (v * 82 + u + (i * 0 + j * 82) - (i * 1 + j * 0)) (u - i) (v + j) (33 + x - i) (33 + y + j) (omega arith) (omega arith) (omega arith) (omega arith) (omega arith) (omega arith) (omega arith)
  cut_agrees left right c i j hi hj = absurd (false≢true c)
  cut_agrees left left c i j hi hj = absurd (false≢true c)
  cut_agrees left up c i j hi hj = at (v * 82 + u + (i * 1 + j * 0) - (i * 0 + j * 82)) (u + i) (v - j) (33 + x + i) (33 + y - j) (omega arith) (omega arith) (omega arith) (omega arith) (omega arith) (omega arith) (omega arith)
  cut_agrees left down c i j hi hj = at (v * 82 + u + (i * 1 + j * 82) - (i * 0 + j * 0)) (u + i) (v + j) (33 + x + i) (33 + y + j) (omega arith) (omega arith) (omega arith) (omega arith) (omega arith) (omega arith) (omega arith)
  cut_agrees up right c i j hi hj = at (v * 82 + u + (i * 0 + j * 0) - (i * 82 + j * 1)) (u - j) (v - i) (33 + x - j) (33 + y - i) (omega arith) (omega arith) (omega arith) (omega arith) (omega arith) (omega arith) (omega arith)
  cut_agrees up left c i j hi hj = at (v * 82 + u + (i * 0 + j * 1) - (i * 82 + j * 0)) (u + j) (v - i) (33 + x + j) (33 + y - i) (omega arith) (omega arith) (omega arith) (omega arith) (omega arith) (omega arith) (omega arith)
  cut_agrees up up c i j hi hj = absurd (true≢false c)
  cut_agrees up down c i j hi hj = absurd (true≢false c)
  cut_agrees down right c i j hi hj = at (v * 82 + u + (i * 82 + j * 0) - (i * 0 + j * 1)) (u - j) (v + i) (33 + x - j) (33 + y + i) (omega arith) (omega arith) (omega arith) (omega arith) (omega arith) (omega arith) (omega arith)
  cut_agrees down left c i j hi hj = at (v * 82 + u + (i * 82 + j * 1) - (i * 0 + j * 0)) (u + j) (v + i) (33 + x + j) (33 + y + i) (omega arith) (omega arith) (omega arith) (omega arith) (omega arith) (omega arith) (omega arith)
  cut_agrees down up c i j hi hj = absurd (true≢false c)
  cut_agrees down down c i j hi hj = absurd (true≢false c)

  -- the mark of an inner square is the window's
  pub cut_forbids : (rs : List Rule) → Every (Reaches k) rs → some_of rs (forbids (flat ks (v * 82 + u))) ≡ forbidden w h p rs x y
  unfolding forbidden
  cut_forbids rs ok =
      some_of_every (Reaches k) rs (forbids (flat ks (v * 82 + u))) (forbids (seen w h p x y)) ok
      (λ r o. forbids_local k r (flat ks (v * 82 + u)) (seen w h p x y) cut_agrees o.0 o.1)
