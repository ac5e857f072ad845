-- The ways through report: settled by counting the waiting squares near the area, the errors counted and listed, and the call's answers in the order of their numbers.
use Prim.Native.Nat.{ℕ, ◌≤◌, ◌<◌}
use native.Mathlib.Omega.{arith}
use mathlib.Core.Bool.{cond}
use mathlib.Core.Path.{◌≡◌, refl, sym, ◌∙◌, ap, subst}
use mathlib.Core.Logic.{inl, inr}
use mathlib.Core.List.{List, [], ◌∷◌}
use lib.ListN.{length}
use lib.Dec.{eqb}
use Rattle.plane.specs.declared.tile.Area.{Area}
use Rattle.plane.specs.Area.{AreaIn, squares_in, tiles_in}
use Rattle.plane.specs.Listing.{Fits, ListedTo, listed}
use Rattle.plane.specs.Refusal.{◌unless◌, Lowest}
use Rattle.plane.specs.Words.{width, height, kinds, picture_of}
use Rattle.plane.proofs.Listings.{unwritten, written}
use Rattle.plane.proofs.Lowests.{lowest_first, left_as_is, lowest_after}
use Rattle.rules.specs.Words.{halo_of}
use Rattle.rules.proofs.Vetted.{halo_small}
use Rattle.sheet.specs.Layout.{Layout}
use Rattle.sheet.specs.Ready.{ready_refusals, Readied, Fit}
use Rattle.sheet.specs.Report.{around, settled, no_findings, findings, report_refusals, Reported}
use Rattle.sheet.specs.Steps.{ErrorList, no_errors, ErrorsFound}

-- ---- settled
-- what lies around an area of the window is an area of the window
pub near_in : {w h : ℕ} {a near : Area} (k : ℕ) → near ≡ around w h k a → AreaIn w h a → AreaIn w h near
near_in {w} {h} {a} k e A =
    subst (λ (b : Area). AreaIn w h b) (sym e) (record { some_x = omega (arith, A.some_x, A.in_x); some_y = omega (arith, A.some_y, A.in_y); in_x = omega arith; in_y = omega arith })

-- the waiting squares near it are counted, and there are none or some
pub settled_by_count : (ws : List ℕ) (k : ℕ) (a near : Area) {n : ℕ} → near ≡ around (width ws) (height ws) k a → n ≡ squares_in (picture_of ws) 1 near → cond (eqb n 0) 1 0 ≡ settled ws k a
unfolding settled
settled_by_count ws k a near e q = rw (q, e)

-- the rules of a fit list reach no farther than 16
pub halo_narrow : {l : Layout} {rules : List ℕ} {used k : ℕ} → Fit l rules used → k ≡ halo_of rules used → k ≤ 16
halo_narrow {l} {rules} {used} F e = omega (arith, e, halo_small rules used (kinds l.material) F.sound)

-- ---- errors
module _ {ws : List ℕ} {a : Area} {out us : List ℕ} {n : ℕ} (A : ListedTo (tiles_in ws 1 a) 0 out us n) where
  pub errors_full : length us < n → ErrorsFound ws a out 7 0 0 us
  errors_full u = record {
    outcome = record { number = inl ((λ f. omega (arith, f, A.entries, A.long)), refl); leaves = ap no_errors (unwritten A) };
  }

  pub errors_done : {vs : List ℕ} {m q : ℕ} → n ≤ length us → ListedTo (tiles_in ws 1 a) n us vs m → q ≡ squares_in (picture_of ws) 1 a → ErrorsFound ws a out 0 q n vs
  errors_done {vs} u B s =
      let same : vs ≡ listed (tiles_in ws 1 a) out = written B (omega (arith, A.entries, B.entries)) (omega (arith, A.entries, B.entries)) ∙ ap (listed (tiles_in ws 1 a)) (unwritten A) in
      record {
        outcome = record { number = inr (omega (arith, A.entries, A.long), refl); leaves = λ i. record { squares = s i; tiles = A.entries i; slice = same i } };
      }

-- ---- the call
-- the conditions that the test of the layout leaves
abbrev rest_of : Layout → Area → List ℕ → List (ℕ × Type 0)
rest_of l a out =
    6 unless AreaIn (width l.material) (height l.material) a
    ∷ 7 unless Fits (tiles_in l.errors 1 a) out
    ∷ []

-- what they answer is what report answers, where the layout and its rules passed the test
then : (l : Layout) (rules : List ℕ) (used : ℕ) (a : Area) (out : List ℕ) {n : ℕ} → Fit l rules used → Lowest (rest_of l a out) n → Lowest (report_refusals l rules used a out) n
then l rules used a out {n} F p = lowest_after (ready_refusals l rules used) (rest_of l a out) n (F.lengths, (F.tables, (F.sound, tt))) p

module _ {l : Layout} {rules : List ℕ} {used : ℕ} {a : Area} {out : List ℕ} where
  pub report_refused : {answer place : ℕ} → 0 < answer → Readied l rules used answer place → Reported l rules used a out answer place (no_findings out)
  report_refused {answer} u R = record {
    outcome = record {
      number = lowest_first (ready_refusals l rules used) (rest_of l a out) answer R.number u;
      leaves = left_as_is answer (findings l (halo_of rules used) a out) (no_findings out) u;
    };
    lowest = R.lowest;
  }

  module _ (F : Fit l rules used) where
    pub report_nowhere : (AreaIn (width l.material) (height l.material) a → ⊥) → Reported l rules used a out 6 0 (no_findings out)
    report_nowhere f = record { outcome = record { number = then l rules used a out F (inl (f, refl)); leaves = refl }; lowest = refl }

    module _ (A : AreaIn (width l.material) (height l.material) a) where
      pub report_full : {us : List ℕ} → ErrorsFound l.errors a out 7 0 0 us → Reported l rules used a out 7 0 (no_findings us)
      report_full E = record {
        outcome = record { number = then l rules used a out F (inr (A, E.outcome.number)); leaves = ap no_findings (ap (λ (e : ErrorList). e.slice) E.outcome.leaves) };
        lowest = refl;
      }

      pub report_done : {k s q n : ℕ} {vs : List ℕ} → k ≡ halo_of rules used → s ≡ settled l.waiting k a → ErrorsFound l.errors a out 0 q n vs
          → Reported l rules used a out 0 0 (record { settled = s; squares = q; tiles = n; slice = vs })
      report_done e f E =
          let g = f ∙ ap (λ (m : ℕ). settled l.waiting m a) e in
          let h = E.outcome.leaves in
          record {
            outcome = record { number = then l rules used a out F (inr (A, E.outcome.number)); leaves = λ i. record { settled = g i; squares = (h i).squares; tiles = (h i).tiles; slice = (h i).slice } };
            lowest = refl;
          }
