-- The squares that a plane's tiles of a type share with an area are the area's squares of that type: each square is in one tile, whose type the picture shows there.
use Prim.Native.Nat.{ℕ, ◌+◌, ◌-◌, ◌<◌}
use native.Mathlib.Omega.{arith}
use mathlib.Core.Bool.{cond}
use mathlib.Core.Path.{◌≡◌, sym, ◌∙◌, ap}
use mathlib.Core.List.{List}
use lib.Dec.{eqb}
use Rattle.plane.specs.declared.tile.Area.{Area}
use Rattle.plane.specs.Words.{count, width, height, word, tile_of, picture_of}
use Rattle.plane.specs.Plane.{Plane}
use Rattle.plane.specs.Picture.{sum_to}
use Rattle.plane.specs.Area.{AreaIn, squares_in, shared}
use Rattle.plane.proofs.Counting.{sum_eq, hits, all_hits, one_hit}
use Rattle.plane.proofs.ToTable.{shown}

module _ {ws : List ℕ} (P : Plane ws) (k : ℕ) where
  -- how many tiles of the type hold a square
  of_kind : ℕ → ℕ → ℕ
  of_kind = hits (count ws) (tile_of ws) (λ i. eqb (word ws i 4) k)

  -- in the window: one, if the picture has the type there
  square : (x y : ℕ) → x < width ws → y < height ws → of_kind x y ≡ cond (eqb (picture_of ws x y) k) 1 0
  unfolding of_kind
  square x y u v =
      let c = P.cover x y u v in
      one_hit (count ws) (tile_of ws) (λ i. eqb (word ws i 4) k) c.0 x y c.1 c.2 (λ i a q. P.one i c.0 x y a c.1 q c.2)
      ∙ ap (λ (m : ℕ). cond (eqb m k) 1 0) (sym (shown ws P c.0 x y c.1 c.2))

  pub shares_add_up : {a : Area} → AreaIn (width ws) (height ws) a → sum_to (count ws) (λ i. shared (tile_of ws i) k a) ≡ squares_in (picture_of ws) k a
  unfolding squares_in of_kind
  shares_add_up {a} A =
      let w : a.x1 + (a.x2 - a.x1) ≡ a.x2 = omega arith in
      let h : a.y1 + (a.y2 - a.y1) ≡ a.y2 = omega arith in
      sym (simp (w, h) at (all_hits (count ws) (tile_of ws) (λ i. eqb (word ws i 4) k) a.x1 a.y1 (a.x2 - a.x1) (a.y2 - a.y1)))
      ∙ sum_eq (a.y2 - a.y1) _ _ (λ j u. sum_eq (a.x2 - a.x1) _ _ (λ i v. square (a.x1 + i) (a.y1 + j) (omega arith) (omega arith)))
