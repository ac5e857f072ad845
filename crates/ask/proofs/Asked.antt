-- The ways through the questions to a table that passed its test: each answer, after the test's own.
use Prim.Native.Nat.{ℕ, ◌≤◌, ◌<◌}
use native.Mathlib.Omega.{arith}
use mathlib.Core.Path.{◌≡◌, refl, ◌∙◌, ap}
use mathlib.Core.Logic.{inl, inr}
use mathlib.Core.List.{List, [], ◌∷◌, ◌++◌}
use lib.ListN.{length}
use Rattle.std.specs.Prelude.{Option, Some, None}
use Rattle.std.specs.Option.{ok_or}
use Rattle.plane.specs.declared.answer.Refusal.TheVariants.{Place}
use Rattle.plane.specs.declared.tile.Area.{Area}
use Rattle.plane.specs.Answers.{number, value}
use Rattle.plane.specs.Area.{AreaIn, tiles_in, TilesListed}
use Rattle.plane.specs.Listing.{Fits, ListedTo, unlisted, listing, listed}
use Rattle.plane.specs.Point.{SquareIn, point_refusals, Pointed, FoundAt}
use Rattle.plane.specs.Refusal.{◌unless◌, Lowest, Outcome}
use Rattle.plane.specs.Words.{width, height, tile_of, room_in}
use Rattle.plane.proofs.FromTable.{table_plane}
use Rattle.plane.proofs.Listings.{unwritten, written}
use Rattle.plane.proofs.Lowests.{Rising, AllHold, all_hold, lowest_after, one_three}
use Rattle.plane.proofs.ToTable.{named}
use Rattle.vet.specs.Vet.{vet_refusals, Vetted, sized_refusals, SizedRight}
use Rattle.ask.specs.Side.{SideOf, neighbours_of, Neighboured}

-- ---- a listing, with two conditions more, on the place P and on the room, after a first step
module _ (cs : List (ℕ × Type 0)) (P : Type 0) (ns out : List ℕ) (r : Rising 0 cs) (T : Lowest cs 0) (p : P) {us : List ℕ} {n : ℕ} (A : ListedTo ns 0 out us n) where
  full : length us < n → Outcome (cs ++ (6 unless P ∷ 7 unless Fits ns out ∷ [])) (unlisted out) (listing ns out) 7 (unlisted us)
  full u = record {
    number = lowest_after cs (6 unless P ∷ 7 unless Fits ns out ∷ []) 7 (all_hold 0 cs r T) (inr (p, inl ((λ f. omega (arith, f, A.entries, A.long)), refl)));
    leaves = ap unlisted (unwritten A);
  }

  done : {vs : List ℕ} {m : ℕ} → n ≤ length us → ListedTo ns n us vs m → Outcome (cs ++ (6 unless P ∷ 7 unless Fits ns out ∷ [])) (unlisted out) (listing ns out) 0 (record { entries = n; slice = vs })
  done {vs} u B =
      let same : vs ≡ listed ns out = written B (omega (arith, A.entries, B.entries)) (omega (arith, A.entries, B.entries)) ∙ ap (listed ns) (unwritten A) in
      record {
        number = lowest_after cs (6 unless P ∷ 7 unless Fits ns out ∷ []) 0 (all_hold 0 cs r T) (inr (p, inr (omega (arith, A.entries, A.long), refl)));
        leaves = λ i. record { entries = A.entries i; slice = same i };
      }

-- ---- point, by what the walk found
pub pointed_by_walk : {ws : List ℕ} {w h x y : ℕ} → SizedRight ws w h 0 → (f : Option ℕ) → FoundAt ws x y f → Pointed ws w h x y (number (ok_or f Place)) (value (ok_or f Place))
pointed_by_walk {ws} {w} {h} {x} {y} T f F = go f F
  where
    passed : AllHold (sized_refusals ws w h)
    passed = all_hold 0 (sized_refusals ws w h) one_three T.number

    asked : {n : ℕ} → Lowest (6 unless SquareIn w h x y ∷ []) n → Lowest (point_refusals ws w h x y) n
    asked {n} = lowest_after (sized_refusals ws w h) (6 unless SquareIn w h x y ∷ []) n passed

    go : (f : Option ℕ) → FoundAt ws x y f → Pointed ws w h x y (number (ok_or f Place)) (value (ok_or f Place))
    go (Some i) n =
        let s = passed.1.0 in
        let P = table_plane (room_in (length ws)) ws s.table in
        let b = P.boxes.box i n.counted in
        record { outcome = record { number = asked (inr (record { in_x = omega (arith, n.held, b, s.wide); in_y = omega (arith, n.held, b, s.tall) }, refl)); leaves = named ws P i x y n } }
    go None out =
        let s = passed.1.0 in
        record { outcome = record { number = asked (inl ((λ S. out (record { in_x = omega (arith, S.in_x, s.wide); in_y = omega (arith, S.in_y, s.tall) })), refl)); leaves = refl } }

-- ---- neighbours
module _ {ws : List ℕ} {w h i side : ℕ} (T : SizedRight ws w h 0) (S : SideOf ws i side) {out us : List ℕ} {n : ℕ} (A : ListedTo (neighbours_of ws (tile_of ws i) side) 0 out us n) where
  pub neighboured_full : length us < n → Neighboured ws w h i side out 7 0 us
  neighboured_full u = record { outcome = full (sized_refusals ws w h) (SideOf ws i side) (neighbours_of ws (tile_of ws i) side) out one_three T.number S A u }

  pub neighboured_done : {vs : List ℕ} {m : ℕ} → n ≤ length us → ListedTo (neighbours_of ws (tile_of ws i) side) n us vs m → Neighboured ws w h i side out 0 n vs
  neighboured_done u B = record { outcome = done (sized_refusals ws w h) (SideOf ws i side) (neighbours_of ws (tile_of ws i) side) out one_three T.number S A u B }

-- ---- tiles
module _ {ws : List ℕ} {k : ℕ} {a : Area} (T : Vetted ws 0) (I : AreaIn (width ws) (height ws) a) {out us : List ℕ} {n : ℕ} (A : ListedTo (tiles_in ws k a) 0 out us n) where
  pub tiles_full : length us < n → TilesListed ws k a out 7 0 us
  tiles_full u = record { outcome = full (vet_refusals ws) (AreaIn (width ws) (height ws) a) (tiles_in ws k a) out one_three T.number I A u }

  pub tiles_done : {vs : List ℕ} {m : ℕ} → n ≤ length us → ListedTo (tiles_in ws k a) n us vs m → TilesListed ws k a out 0 n vs
  tiles_done u B = record { outcome = done (vet_refusals ws) (AreaIn (width ws) (height ws) a) (tiles_in ws k a) out one_three T.number I A u B }
