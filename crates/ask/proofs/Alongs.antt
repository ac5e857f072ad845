-- A side of a tile, walked tile by tile: a tile that holds one square along the side holds the next ones up to its own end, so the numbers along
-- the side are a row of runs, one for each neighbour.
use Prim.Native.Nat.{ℕ, zero, suc, ◌+◌, ◌-◌, ◌≤◌, ◌<◌, min}
use native.Mathlib.Omega.{arith}
use mathlib.Core.Bool.{Bool, true, false, cond, ◌&&◌}
use mathlib.Core.Path.{◌≡◌, refl, sym, ◌∙◌, subst}
use mathlib.Core.Logic.{inl, inr, ⊎_elim}
use mathlib.Core.List.{List, [], ◌∷◌, ◌++◌, append-nil}
use borrow.Author.Tests.{eq-eqb, ne_eqb}
use Rattle.plane.specs.declared.side.Side.{Side}
use Rattle.plane.specs.declared.side.Side.TheVariants.{Left, Bottom, Right, Top}
use Rattle.plane.specs.declared.tile.Tile.{Tile}
use Rattle.plane.specs.Sides.{side_number, side_start, side_end}
use Rattle.plane.specs.Picture.{joined, starts, before}
use Rattle.plane.specs.Words.{count, width, height, word, tile_of, number_at}
use Rattle.plane.specs.Plane.{Names, Plane}
use Rattle.plane.specs.Point.{SquareIn}
use Rattle.plane.specs.Listing.{ListedTo, Lists}
use Rattle.ask.specs.Side.{side_length, square_beside, along_side, new_at, neighbours_of, reach_along}
use Rattle.plane.proofs.Basics.{lt_or_ge}
use Rattle.plane.proofs.Listings.{listed_none}
use Rattle.plane.proofs.ToTable.{named, outside}

-- ---- a side that is named
pub length_is : (t : Tile) (s : Side) → side_end t s - side_start t s ≡ side_length t (side_number s)
length_is t Left = refl
length_is t Bottom = refl
length_is t Right = refl
length_is t Top = refl

pub four_sides : (s : Side) → side_number s < 4
four_sides Left = omega arith
four_sides Bottom = omega arith
four_sides Right = omega arith
four_sides Top = omega arith

pub reach_is : (t u : Tile) (s : Side) → side_end u s - side_start t s ≡ reach_along t (side_number s) u
reach_is t u Left = refl
reach_is t u Bottom = refl
reach_is t u Right = refl
reach_is t u Top = refl

-- ---- rows of runs
starts_new : (f : ℕ → ℕ) (j : ℕ) → (0 < j → f (j - 1) ≡ f j → ⊥) → starts f j ≡ true
unfolding starts
starts_new f zero h = refl
starts_new f (suc j) h = let s : suc j - 1 ≡ j = omega arith in rw (ne_eqb (f j) (f (suc j)) (rw s at (h (omega arith))))

new_here : (f : ℕ → ℕ) (j v : ℕ) → starts f j ≡ true → f j ≡ v → (v ≡ 65535 → ⊥) → new_at f j ≡ v ∷ []
unfolding new_at
new_here f j v s e o = rw (s, e, ne_eqb v 65535 o)

new_again : (f : ℕ → ℕ) (j : ℕ) → f j ≡ f (suc j) → new_at f (suc j) ≡ []
unfolding new_at starts
new_again f j e = rw (eq-eqb (f j) (f (suc j)) e)

new_outside : (f : ℕ → ℕ) (j : ℕ) → f j ≡ 65535 → new_at f j ≡ []
unfolding new_at
new_outside f j e = rw e (go (starts f j))
  where
    go : (b : Bool) → ◌≡◌ {A = List ℕ} (cond (b && false) (65535 ∷ []) []) []
    go true = refl
    go false = refl

-- a run that begins at j lists its number once
run_new : (f : ℕ → ℕ) (v j e : ℕ) → j < e → starts f j ≡ true → (v ≡ 65535 → ⊥) → ((q : ℕ) → j ≤ q → q < e → f q ≡ v) → joined e (new_at f) ≡ joined j (new_at f) ++ (v ∷ [])
unfolding joined
run_new f v j zero u s o all = absurd (omega arith)
run_new f v j (suc zero) u s o all = let q : j ≡ zero = omega arith in rw (q, new_here f zero v (rw q at s) (all zero (omega arith) (omega arith)) o)
run_new f v j (suc (suc e)) u s o all =
    ⊎_elim
    (λ (a : j < suc e).
    rw (new_again f e (all e (omega arith) (omega arith) ∙ sym (all (suc e) (omega arith) (omega arith))), append-nil)
    (run_new f v j (suc e) a s o (λ q b d. all q b (omega arith))))
    (λ (a : suc e ≤ j). let q : j ≡ suc e = omega arith in rw (q, new_here f (suc e) v (rw q at s) (all (suc e) (omega arith) (omega arith)) o))
    (lt_or_ge j (suc e))

-- a side at the window's border lists none
run_none : (f : ℕ → ℕ) (n : ℕ) → ((q : ℕ) → q < n → f q ≡ 65535) → joined n (new_at f) ≡ []
unfolding joined
run_none f zero all = refl
run_none f (suc n) all = rw (run_none f n (λ q u. all q (omega arith)), new_outside f n (all n (omega arith)))

-- ---- the numbers up a column and along a row
module _ {ws : List ℕ} (P : Plane ws) where
  number_is : {k x y : ℕ} → Names ws k x y → number_at ws x y ≡ k
  number_is {k} {x} {y} n = sym (named ws P k x y n)

  -- the number at a square of the window is that of a tile that holds it
  number_names : (k x y : ℕ) → x < width ws → y < height ws → number_at ws x y ≡ k → Names ws k x y
  number_names k x y u v e =
      let m = P.cover x y u v in
      let n : Names ws m.0 x y = record { counted = m.1; held = m.2 } in
      subst (λ (i : ℕ). Names ws i x y) (sym (number_is n) ∙ e) n

  up_held : {k x : ℕ} (b j q : ℕ) → Names ws k x (b + j) → j ≤ q → q < word ws k 3 - b → number_at ws x (b + q) ≡ k
  up_held b j q n u v = number_is (record { counted = n.counted; held = omega (arith, n.held) })

  up_end : {k x : ℕ} (b j q : ℕ) → Names ws k x (b + j) → word ws k 3 - b ≤ q → b + q < height ws → number_at ws x (b + q) ≡ k → ⊥
  up_end {k} {x} b j q n u v e =
      let g = P.boxes.box k n.counted in
      let r = number_names k x (b + q) (omega (arith, n.held)) v e in omega (arith, r.held)

  up_out : (x b j q : ℕ) → b + j < height ws → (SquareIn (width ws) (height ws) x (b + j) → ⊥) → number_at ws x (b + q) ≡ 65535
  up_out x b j q u f = outside ws P x (b + q) (⊎_elim (λ (a : x < width ws). absurd (f (record { in_x = a; in_y = u }))) (λ a. inl a) (lt_or_ge x (width ws)))

  on_held : {k y : ℕ} (b j q : ℕ) → Names ws k (b + j) y → j ≤ q → q < word ws k 2 - b → number_at ws (b + q) y ≡ k
  on_held b j q n u v = number_is (record { counted = n.counted; held = omega (arith, n.held) })

  on_end : {k y : ℕ} (b j q : ℕ) → Names ws k (b + j) y → word ws k 2 - b ≤ q → b + q < width ws → number_at ws (b + q) y ≡ k → ⊥
  on_end {k} {y} b j q n u v e =
      let g = P.boxes.box k n.counted in
      let r = number_names k (b + q) y v (omega (arith, n.held)) e in omega (arith, r.held)

  on_out : (y b j q : ℕ) → b + j < width ws → (SquareIn (width ws) (height ws) (b + j) y → ⊥) → number_at ws (b + q) y ≡ 65535
  on_out y b j q u f = outside ws P (b + q) y (⊎_elim (λ (a : y < height ws). absurd (f (record { in_x = u; in_y = a }))) (λ a. inr a) (lt_or_ge y (height ws)))

  -- ---- the same along any side of tile i
  module _ {i : ℕ} (u : i < count ws) where
    side_held : (s j : ℕ) {k : ℕ} (q : ℕ) → Names ws k (square_beside (tile_of ws i) s j).x (square_beside (tile_of ws i) s j).y → j ≤ q → q < reach_along (tile_of ws i) s (tile_of ws k) → along_side ws (tile_of ws i) s q ≡ k
    side_held zero j q n a b = up_held (word ws i 1) j q n a b
    side_held (suc zero) j q n a b = on_held (word ws i 0) j q n a b
    side_held (suc (suc zero)) j q n a b = up_held (word ws i 1) j q n a b
    side_held (suc (suc (suc s))) j q n a b = on_held (word ws i 0) j q n a b

    side_stops : (s j : ℕ) {k : ℕ} (q : ℕ) → Names ws k (square_beside (tile_of ws i) s j).x (square_beside (tile_of ws i) s j).y → reach_along (tile_of ws i) s (tile_of ws k) ≤ q → q < side_length (tile_of ws i) s → along_side ws (tile_of ws i) s q ≡ k → ⊥
    side_stops zero j q n a b = let g = P.boxes.box i u in up_end (word ws i 1) j q n a (omega arith)
    side_stops (suc zero) j q n a b = let g = P.boxes.box i u in on_end (word ws i 0) j q n a (omega arith)
    side_stops (suc (suc zero)) j q n a b = let g = P.boxes.box i u in up_end (word ws i 1) j q n a (omega arith)
    side_stops (suc (suc (suc s))) j q n a b = let g = P.boxes.box i u in on_end (word ws i 0) j q n a (omega arith)

    side_out : (s j q : ℕ) → j < side_length (tile_of ws i) s → (SquareIn (width ws) (height ws) (square_beside (tile_of ws i) s j).x (square_beside (tile_of ws i) s j).y → ⊥) → along_side ws (tile_of ws i) s q ≡ 65535
    side_out zero j q a f = let g = P.boxes.box i u in up_out (before (word ws i 0) (λ x. x)) (word ws i 1) j q (omega arith) f
    side_out (suc zero) j q a f = let g = P.boxes.box i u in on_out (before (word ws i 1) (λ y. y)) (word ws i 0) j q (omega arith) f
    side_out (suc (suc zero)) j q a f = let g = P.boxes.box i u in up_out (word ws i 2) (word ws i 1) j q (omega arith) f
    side_out (suc (suc (suc s))) j q a f = let g = P.boxes.box i u in on_out (word ws i 3) (word ws i 0) j q (omega arith) f

    -- a tile that holds square j reaches past j
    pub side_past : (s j : ℕ) {k : ℕ} → Names ws k (square_beside (tile_of ws i) s j).x (square_beside (tile_of ws i) s j).y → j < reach_along (tile_of ws i) s (tile_of ws k)
    side_past zero j n = omega (arith, n.held)
    side_past (suc zero) j n = omega (arith, n.held)
    side_past (suc (suc zero)) j n = omega (arith, n.held)
    side_past (suc (suc (suc s))) j n = omega (arith, n.held)

-- ---- the walk along side s of tile i: it is before square j, was last at tile k, and has listed m numbers
pub record Along (ws : List ℕ) (i s most : ℕ) (out after : List ℕ) (j k m : ℕ) : Type 0 where
  pub counted : k < count ws
  pub few : m ≤ j
  pub fresh : j < side_length (tile_of ws i) s → starts (along_side ws (tile_of ws i) s) j ≡ true
  pub listed : ListedTo (joined (min j (side_length (tile_of ws i) s)) (new_at (along_side ws (tile_of ws i) s))) most out after m

pub along_none : {ws : List ℕ} {i s most : ℕ} {out : List ℕ} → i < count ws → Along ws i s most out out 0 i 0
unfolding joined starts
along_none {ws} {i} {s} {most} {out} u =
    let e : min 0 (side_length (tile_of ws i) s) ≡ 0 = omega arith in
    record { counted = u; few = omega arith; fresh = λ _. refl; listed = rw e listed_none }

module _ {ws : List ℕ} (P : Plane ws) (fits : count ws ≤ 65535) {i s most : ℕ} {out us : List ℕ} {j k m : ℕ} (u : i < count ws) (A : Along ws i s most out us j k m) where
  -- the next tile along the side
  pub along_next : {k' r : ℕ} {vs : List ℕ} → j < side_length (tile_of ws i) s → Names ws k' (square_beside (tile_of ws i) s j).x (square_beside (tile_of ws i) s j).y → Lists (k' ∷ []) most us m vs r → r ≡ m + 1
      → Along ws i s most out vs (reach_along (tile_of ws i) s (tile_of ws k')) k' r
  along_next {k'} {r} {vs} a n L e =
      let t = tile_of ws i in
      let f = along_side ws t s in
      let z = reach_along t s (tile_of ws k') in
      let len = side_length t s in
      let past = side_past P u s j n in
      let here : f j ≡ k' = side_held P u s j j n (omega arith) past in
      let lists : joined (min z len) (new_at f) ≡ joined j (new_at f) ++ (k' ∷ []) = run_new f k' j (min z len) (omega arith) (A.fresh a) (λ o. omega (arith, n.counted)) (λ q b d. side_held P u s j q n b (omega arith)) in
      let from : min j len ≡ j = omega arith in
      record {
        counted = n.counted;
        few = omega (arith, A.few);
        fresh = λ b. starts_new f z (λ v g. side_stops P u s j z n (omega arith) b (sym g ∙ side_held P u s j (z - 1) n (omega arith) (omega arith)));
        listed = rw lists (L.step (joined j (new_at f)) out (rw from at A.listed));
      }

  -- the side lies at the border
  pub along_border : j < side_length (tile_of ws i) s → (SquareIn (width ws) (height ws) (square_beside (tile_of ws i) s j).x (square_beside (tile_of ws i) s j).y → ⊥) → ListedTo (neighbours_of ws (tile_of ws i) s) most out us m
  unfolding neighbours_of
  along_border a f =
      let t = tile_of ws i in
      let all : (q : ℕ) → along_side ws t s q ≡ 65535 = λ q. side_out P u s j q a f in
      rw (run_none (along_side ws t s) (side_length t s) (λ q _. all q), ← run_none (along_side ws t s) (min j (side_length t s)) (λ q _. all q)) A.listed

  pub along_done : side_length (tile_of ws i) s ≤ j → ListedTo (neighbours_of ws (tile_of ws i) s) most out us m
  unfolding neighbours_of
  along_done a = let e : min j (side_length (tile_of ws i) s) ≡ side_length (tile_of ws i) s = omega arith in rw e at A.listed
