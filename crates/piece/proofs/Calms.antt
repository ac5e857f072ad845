-- A calm piece has no error squares within the halo of its block: from there the rules see nothing but one type, and so no edge.
use Prim.Native.Nat.{ℕ, ◌+◌, ◌-◌, ◌*◌, ◌<◌, ◌≤◌, min}
use native.Mathlib.Omega.{arith}
use mathlib.Core.Bool.{Bool, true, false, not, ◌&&◌, and-false}
use mathlib.Core.List.{List, [], ◌∷◌}
use mathlib.Core.Path.{◌≡◌, refl, sym, ◌∙◌, ap}
use Rattle.plane.specs.declared.tile.Tile.{Tile}
use Rattle.plane.specs.declared.tile.Area.{Area}
use Rattle.plane.specs.Picture.{Picture, area, in_area}
use Rattle.plane.specs.Words.{count, width, height, word, tile_of, picture_of, Says}
use Rattle.plane.specs.Plane.{Plane}
use Rattle.plane.proofs.Basics.{tf}
use Rattle.plane.proofs.ToTable.{shown}
use Rattle.rules.specs.declared.rule.Rule.{Rule}
use Rattle.rules.specs.Some.{Every}
use Rattle.rules.specs.Sets.{member}
use Rattle.rules.specs.Words.{Reaches, Apart}
use Rattle.rules.specs.Forbid.{back_x, back_y, kind_at, outside, seen, reached, ways, forbids, forbidden}
use Rattle.rules.proofs.Searches.{some_of_none, every_all}
use Rattle.rules.proofs.Local.{Agree, forbids_local}
use Rattle.rules.proofs.Window.{within, area_of, near}
use Rattle.rules.proofs.Blank.{reached_none}
use Rattle.piece.specs.Remark.{near_block, near_area}
use Rattle.piece.specs.Calm.{Calm, Covers, Interior}
use Rattle.piece.proofs.Cuts.{window, kind_at_in, kind_at_out}

-- ---- one tile
-- the code's test of the tile
pub covering : (b : Bool) {t : Tile} {a c : Area} → Says b (Covers t a) → b ≡ true → a ≡ c → Covers t c
covering true s e f = rw f at s
covering false s e f = tf (sym e)

-- a square of the window within 2 k of the block is the tile's
covered : (ws : List ℕ) (i k bx by : ℕ) → Plane ws → i < count ws → Covers (tile_of ws i) (near_area (width ws) (height ws) (2 * k) bx by) → (x y : ℕ) → in_area (window (width ws) (height ws)) x y ≡ true
    → 33 + 16 * bx ≤ x + 2 * k → x < 33 + (16 * bx + 16 + 2 * k) → 33 + 16 * by ≤ y + 2 * k → y < 33 + (16 * by + 16 + 2 * k) → kind_at (width ws) (height ws) (picture_of ws) x y ≡ word ws i 4
covered ws i k bx by P l v x y e a b c d =
    let q = within (window (width ws) (height ws)) x y e in
    kind_at_in (width ws) (height ws) (picture_of ws) x y e
    ∙ shown ws P i (x - 33) (y - 33) l (record {
      from_left = from_low (word ws i 0) (16 * bx) (2 * k) x v.left_of q.left_of a;
      to_right = to_high (word ws i 2) (16 * bx + 16 + 2 * k) (width ws) x v.right_of q.left_of q.right_of b;
      from_bottom = from_low (word ws i 1) (16 * by) (2 * k) y v.low q.low c;
      to_top = to_high (word ws i 3) (16 * by + 16 + 2 * k) (height ws) y v.high q.low q.high d;
    })
  where
    from_low : (l o n x : ℕ) → l ≤ o - n → 33 ≤ x → 33 + o ≤ x + n → l ≤ x - 33
    from_low l o n x u v z = omega arith

    to_high : (r o w x : ℕ) → min w o ≤ r → 33 ≤ x → x < 33 + w → x < 33 + o → x - 33 < r
    to_high r o w x u v y z = omega arith

-- the tile is space, as all outside is
pub calm_space : {ws : List ℕ} {i j k bx by : ℕ} {t : Tile} → Plane ws → j < count ws → i ≡ j → t ≡ tile_of ws i → Covers t (near_area (width ws) (height ws) (2 * k) bx by) → t.kind ≡ 0
    → Calm (width ws) (height ws) (picture_of ws) k bx by
unfolding outside
calm_space {ws} {i} {j} {k} {bx} {by} {t} P l e same v z = record { kind = 0; plain = λ x y a b c d. go x y a b c d (in_area (window (width ws) (height ws)) x y) refl }
  where
    go : (x y : ℕ) → 33 + 16 * bx ≤ x + 2 * k → x < 33 + (16 * bx + 16 + 2 * k) → 33 + 16 * by ≤ y + 2 * k → y < 33 + (16 * by + 16 + 2 * k) → (b : Bool) → in_area (window (width ws) (height ws)) x y ≡ b
        → kind_at (width ws) (height ws) (picture_of ws) x y ≡ 0
    go x y a b c d true f = covered ws i k bx by P (omega arith) (rw same at v) x y f a b c d ∙ sym (ap (λ (s : Tile). s.kind) same) ∙ z
    go x y a b c d false f = kind_at_out (width ws) (height ws) (picture_of ws) x y f

-- nothing near is outside
pub calm_inside : {ws : List ℕ} {i j k bx by : ℕ} {t : Tile} → Plane ws → j < count ws → i ≡ j → t ≡ tile_of ws i → Covers t (near_area (width ws) (height ws) (2 * k) bx by) → Interior (width ws) (height ws) (2 * k) bx by
    → Calm (width ws) (height ws) (picture_of ws) k bx by
calm_inside {ws} {i} {j} {k} {bx} {by} {t} P l e same v I = record {
  kind = word ws i 4;
  plain = λ x y a b c d. covered ws i k bx by P (omega arith) (rw same at v) x y
      (area_of (window (width ws) (height ws)) x y (record { left_of = omega (arith, I.left_of); right_of = omega (arith, I.right_of); low = omega (arith, I.low); high = omega (arith, I.high) })) a b c d;
}

-- ---- one type everywhere
-- where all is of one type, no rule with two types forbids a square
plain_free : (t : ℕ) (r : Rule) → Apart r → forbids (λ a e i j. t) r ≡ false
unfolding forbids
plain_free t r ok =
    ap (λ b. not (member r.allowed t) && b)
    (some_of_none (λ v. reached r (λ i j. t) ≡ false) (ways r.fourway) (λ v. reached r (λ i j. t))
    (every_all (λ v. reached r (λ i j. t) ≡ false) (ways r.fourway) (λ v. reached_none r ok (λ i j. t) t (λ i j. refl)))
    (λ v e. e))
    ∙ and-false (not (member r.allowed t))

-- two properties of every entry
every_both : {A : Type 0} (P Q : A → Type 0) (l : List A) → Every P l → Every Q l → Every (λ a. P a × Q a) l
every_both P Q [] a b = tt
every_both P Q (x ∷ l) a b = ((a.0, b.0), every_both P Q l a.1 b.1)

module _ {w h : ℕ} {p : Picture} {k bx by : ℕ} (C : Calm w h p k bx by) (small : k ≤ 16) (x y : ℕ) (inside : near_block k bx by x y ≡ true) where
  -- what is seen from a square near the block is of that type
  calm_seen : Agree k (seen w h p x y) (λ a e i j. C.kind)
  unfolding seen near_block
  calm_seen a e c i j hi hj =
      let n = near k (33 + x) (33 + y) a e i j c hi hj in
      let q = within (area (16 * bx) (16 * by) (16 * bx + 16 + k + k) (16 * by + 16 + k + k)) (x + k) (y + k) inside in
      C.plain (back_x e j (back_x a i (33 + x))) (back_y e j (back_y a i (33 + y)))
      (omega (arith, n.left_of, q.left_of)) (omega (arith, n.right_of, q.right_of)) (omega (arith, n.low, q.low)) (omega (arith, n.high, q.high))

  -- so it is not forbidden
  pub calm_free : (rs : List Rule) → Every (Reaches k) rs → Every Apart rs → forbidden w h p rs x y ≡ false
  unfolding forbidden
  calm_free rs far ok =
      some_of_none (λ r. Reaches k r × Apart r) rs (forbids (seen w h p x y)) (every_both (Reaches k) Apart rs far ok)
      (λ r o. forbids_local k r (seen w h p x y) (λ a e i j. C.kind) calm_seen o.0.0 o.0.1 ∙ plain_free C.kind r o.1)
