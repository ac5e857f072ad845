-- How large the numbers are that the calls return: the number that says no, the place of a rule, the findings of a report, a tile's number, and a count of rules.
use Prim.Native.Nat.{ℕ, zero, suc, ◌+◌, ◌-◌, ◌*◌, ◌≤◌, ◌<◌}
use native.Mathlib.Nat.{mul-suc}
use native.Mathlib.Omega.{arith}
use mathlib.Core.Bool.{Bool, true, false, cond}
use mathlib.Core.Path.{◌≡◌, ap, refl, sym, subst}
use mathlib.Core.Logic.{inl, inr, ⊎_elim, ◌⊎◌}
use mathlib.Core.List.{List, [], ◌∷◌}
use lib.Dec.{eqb}
use lib.ListN.{length}
use Rattle.plane.specs.declared.tile.Area.{Area}
use Rattle.plane.specs.Area.{squares_in}
use Rattle.plane.proofs.Listings.{listed_few}
use Rattle.plane.specs.Picture.{Picture, sum_to}
use Rattle.plane.specs.Point.{point_refusals, Pointed}
use Rattle.plane.specs.Refusal.{Lowest, Outcome}
use Rattle.plane.specs.Words.{width, height, kinds, picture_of, room_in}
use Rattle.plane.proofs.Basics.{lt_or_ge}
use Rattle.plane.proofs.FromTable.{table_plane}
use Rattle.plane.proofs.Lowests.{all_hold}
use Rattle.plane.proofs.ToTable.{named}
use Rattle.rules.specs.declared.rule.Rule.{Rule}
use Rattle.macros.specs.Expansion.{RuleList, macro_refusals, Expanded}
use Rattle.rules.specs.Vetting.{AllSound, lowest_bad}
use Rattle.rules.specs.Words.{halo_of, rules_of}
use Rattle.rules.proofs.Vetted.{lowest}
use Rattle.std.specs.Prelude.{Option, Some, None}
use Rattle.waits.specs.declared.block.Block.{Block}
use Rattle.waits.specs.Pieces.{blocks, piece_waits, pieces, waiting_pieces}
use Rattle.sheet.specs.Layout.{Layout}
use Rattle.sheet.specs.Report.{around, settled, Findings, no_findings, findings, report_refusals, Reported}
use Rattle.sweep.specs.Run.{Run, after_block, check_run, fits_block, lowest_of, turn, CheckLeft}
use Rattle.checker.specs.Check.{Checked, check_refusals}
use Rattle.checker.proofs.Checkings.{passed_fit}
use Rattle.checker.proofs.CheckStays.{left_by, run_few, run_fit}
use Rattle.layout.specs.Pack.{Narrow, NarrowCheck}

-- ---- numbers
-- every number of the list is below n
abbrev pub Within : ℕ → List (ℕ × Type 0) → Type 0
Within n [] = Unit {0}
Within n (c ∷ cs) = (c.0 < n) × Within n cs

pub lowest_within : (n : ℕ) (cs : List (ℕ × Type 0)) {a : ℕ} → 0 < n → Within n cs → Lowest cs a → a < n
lowest_within n [] z w p = omega (arith, p)
lowest_within n (c ∷ cs) z w (inl p) = omega (arith, w.0, p.1)
lowest_within n (c ∷ cs) z w (inr p) = lowest_within n cs z w.1 p.1

-- ---- report
pub bit_few : (b : Bool) → cond b 1 0 ≤ 1
bit_few true = omega arith
bit_few false = omega arith

pub row_few : (n : ℕ) (f : ℕ → ℕ) → ((i : ℕ) → f i ≤ 1) → sum_to n f ≤ n
unfolding sum_to
row_few zero f h = omega arith
row_few (suc n) f h = omega (arith, row_few n f h, h n)

pub rows_few : (n k : ℕ) (f : ℕ → ℕ) → ((i : ℕ) → f i ≤ k) → sum_to n f ≤ k * n
unfolding sum_to
rows_few zero k f h = omega arith
rows_few (suc n) k f h = omega (arith, rows_few n k f h, h n, mul-suc k n)

squares_few : (p : Picture) (k : ℕ) (a : Area) → a.x2 ≤ 4096 → a.y2 ≤ 4096 → squares_in p k a ≤ 16777216
unfolding squares_in
squares_few p k a u v =
    omega (
      arith,
      rows_few (a.y2 - a.y1) 4096 (λ j. sum_to (a.x2 - a.x1) (λ i. cond (eqb (p (a.x1 + i) (a.y1 + j)) k) 1 0))
          (λ j. omega (arith, row_few (a.x2 - a.x1) (λ i. cond (eqb (p (a.x1 + i) (a.y1 + j)) k) 1 0) (λ i. bit_few (eqb (p (a.x1 + i) (a.y1 + j)) k)))),
    )

settled_few : (ws : List ℕ) (k : ℕ) (a : Area) → settled ws k a ≤ 1
unfolding settled
settled_few ws k a = bit_few (eqb (squares_in (picture_of ws) 1 (around (width ws) (height ws) k a)) 0)

-- a rule that is the lowest bad one is one of those used
pub bad_below : (ws : List ℕ) (used t : ℕ) → (AllSound ws used t → ⊥) → lowest_bad ws used t < used
bad_below ws used t f =
    ⊎_elim (λ (u : lowest_bad ws used t < used). u) (λ (u : used ≤ lowest_bad ws used t). absurd (f (λ i v. (lowest ws used t).pass i (omega arith) (omega arith))))
    (lt_or_ge (lowest_bad ws used t) used)

-- the place is 0 but for 4, and then that of a rule used
place_few : (l : Layout) (rules : List ℕ) (used : ℕ) (a : Area) (out : List ℕ) (answer place : ℕ) → Lowest (report_refusals l rules used a out) answer → place ≡ cond (eqb answer 4) (lowest_bad rules used (kinds l.material)) 0 → place < 512
place_few l rules used a out answer place (inl p) e = let z : place ≡ 0 = rw p.1 at e in omega arith
place_few l rules used a out answer place (inr (L, inl p)) e = let z : place ≡ 0 = rw p.1 at e in omega arith
place_few l rules used a out answer place (inr (L, inr (I, inl p))) e =
    let z : place ≡ lowest_bad rules used (kinds l.material) = rw p.1 at e in
    omega (arith, bad_below rules used (kinds l.material) p.0, L.list.room, L.list.most)
place_few l rules used a out answer place (inr (L, inr (I, inr (S, inl p)))) e = let z : place ≡ 0 = rw p.1 at e in omega arith
place_few l rules used a out answer place (inr (L, inr (I, inr (S, inr (A, inl p))))) e = let z : place ≡ 0 = rw p.1 at e in omega arith
place_few l rules used a out answer place (inr (L, inr (I, inr (S, inr (A, inr (F, p)))))) e = let z : place ≡ 0 = rw p at e in omega arith

module _ {l : Layout} {rules : List ℕ} {used : ℕ} {a : Area} {out : List ℕ} where
  found_few : (answer : ℕ) (f : Findings) → Outcome (report_refusals l rules used a out) (no_findings out) (findings l (halo_of rules used) a out) answer f
      → (f.settled ≤ 1) × (f.squares ≤ 16777216) × (f.tiles ≤ 3600)
  found_few zero f o =
      let g = all_hold 0 (report_refusals l rules used a out) (omega arith, (omega arith, (omega arith, (omega arith, (omega arith, tt))))) o.number in
      let e = o.leaves in
      let L = g.0.tables in
      let I = g.1.0 in
      let A = g.1.1.1.0 in (
        omega (arith, ap (λ (x : Findings). x.settled) e, settled_few l.waiting (halo_of rules used) a),
        omega (arith, ap (λ (x : Findings). x.squares) e, squares_few (picture_of l.errors) 1 a (omega (arith, A.in_x, I.material.header.sizes.wide_most)) (omega (arith, A.in_y, I.material.header.sizes.tall_most))),
        omega (arith, ap (λ (x : Findings). x.tiles) e, listed_few l.errors 1 a, I.errors.table.room, ap room_in L.errors, L.material.most),
      )
  found_few (suc n) f o =
      let e = o.leaves in
      (omega (arith, ap (λ (x : Findings). x.settled) e), omega (arith, ap (λ (x : Findings). x.squares) e), omega (arith, ap (λ (x : Findings). x.tiles) e))

  pub report_narrow : {answer place : ℕ} {f : Findings} → Reported l rules used a out answer place f → Narrow place f.settled f.squares f.tiles
  report_narrow {answer} {place} {f} R =
      let n = found_few answer f R.outcome in
      record { place_most = place_few l rules used a out answer place R.outcome.number R.lowest; settled_most = n.0; squares_most = n.1; tiles_most = n.2 }

-- ---- point
pub point_few : {ws : List ℕ} {x y : ℕ} (answer tile : ℕ) → Pointed ws (width ws) (height ws) x y answer tile → tile < 3600
point_few {ws} {x} {y} zero tile P =
    let g = all_hold 0 (point_refusals ws (width ws) (height ws) x y) (omega arith, (omega arith, (omega arith, tt))) P.outcome.number in
    let T = g.1.0.table in
    let Q = table_plane (room_in (length ws)) ws T in
    let c = Q.cover x y g.1.1.0.in_x g.1.1.0.in_y in
    let e = named ws Q c.0 x y (record { counted = c.1; held = c.2 }) in
    omega (arith, P.outcome.leaves, e, c.1, T.room, g.0.most)
point_few (suc n) tile P = omega (arith, P.outcome.leaves)

-- ---- macros
pub macro_few : {ws after : List ℕ} {used t : ℕ} {ok : Bool} {rs : List Rule} (answer n : ℕ) → Expanded ws used t ok rs answer n after → n ≤ 512
macro_few {ws} {after} {used} {t} {ok} {rs} zero n E =
    let g = all_hold 0 (macro_refusals (length ws) used t ok (length rs)) (omega arith, (omega arith, (omega arith, (omega arith, tt)))) E.outcome.number in
    omega (arith, ap (λ (l : RuleList). l.used) E.outcome.leaves, g.0.most, g.1.1.1.0)
macro_few (suc m) n E = omega (arith, ap (λ (l : RuleList). l.used) E.outcome.leaves)

-- ---- check: the pieces done and left, its number and the place
pieces_few : (w h : ℕ) (p : Picture) → w ≤ 4096 → h ≤ 4096 → waiting_pieces w h p ≤ 65536
unfolding waiting_pieces pieces
pieces_few w h p u v =
    omega (
      arith,
      rows_few (blocks h) 256 (λ by. sum_to (blocks w) (λ bx. cond (piece_waits w h p bx by) 1 0))
          (λ by. omega (arith, row_few (blocks w) (λ bx. cond (piece_waits w h p bx by) 1 0) (λ bx. bit_few (piece_waits w h p bx by)))),
    )

-- a run's number is 0 or 7
turn_number : (b : Option Block) (f : Bool) (l : Layout) (r : Run) → (r.number ≡ 0) ⊎ (r.number ≡ 7) → ((turn b f l r).number ≡ 0) ⊎ ((turn b f l r).number ≡ 7)
turn_number None f l r e = inl refl
turn_number (Some b) true l r e = e
turn_number (Some b) false l r e = inr refl

run_number : (n : ℕ) (rs : List Rule) (k : ℕ) (l : Layout) → ((check_run n rs k l).number ≡ 0) ⊎ ((check_run n rs k l).number ≡ 7)
unfolding check_run
run_number zero rs k l = inl refl
run_number (suc n) rs k l = turn_number (lowest_of l) (fits_block l rs k (lowest_of l)) l (check_run n rs k (after_block l rs k (lowest_of l))) (run_number n rs k (after_block l rs k (lowest_of l)))

-- ---- the call
-- the place that goes with the number m
abbrev place_by : Layout → List ℕ → ℕ → ℕ → ℕ
place_by before rules used m = cond (eqb m 4) (lowest_bad rules used (kinds before.material)) 0

-- values that check may leave
record Few (place : ℕ) (x : CheckLeft) : Type 0 where
  number_few : x.number < 8
  place_few : place < 512
  done_few : x.done ≤ 65535
  left_few : x.left ≤ 65536

few_by : (before : Layout) (work rules : List ℕ) (used n t : ℕ) → n ≤ 65535 → Lowest (check_refusals before work rules used) t → Few (place_by before rules used (left_by before rules used n t).number) (left_by before rules used n t)
few_by before work rules used n zero u q =
    let r = check_run n (rules_of rules used) (halo_of rules used) before in
    let s = (run_fit n before (passed_fit {work = work} q).0).tables.waiting.table.header.sizes in
    let z : (r.number < 8) × (place_by before rules used r.number < 512) = ⊎_elim
    (λ (e : r.number ≡ 0). (omega arith, subst (λ (m : ℕ). place_by before rules used m < 512) (sym e) (omega arith)))
    (λ (e : r.number ≡ 7). (omega arith, subst (λ (m : ℕ). place_by before rules used m < 512) (sym e) (omega arith)))
    (run_number n (rules_of rules used) (halo_of rules used) before) in
    record {
      number_few = z.0;
      place_few = z.1;
      done_few = omega (arith, run_few n (rules_of rules used) (halo_of rules used) before);
      left_few = pieces_few (width r.layout.waiting) (height r.layout.waiting) (picture_of r.layout.waiting) s.wide_most s.tall_most;
    }
few_by before work rules used n (suc t) u q = record { number_few = number q; place_few = place q; done_few = omega arith; left_few = omega arith }
  where
    number : Lowest (check_refusals before work rules used) (suc t) → suc t < 8
    number (inl p) = omega (arith, p.1)
    number (inr (L, inl p)) = omega (arith, p.1)
    number (inr (L, inr (I, inl p))) = omega (arith, p.1)
    number (inr (L, inr (I, inr (S, p)))) = omega (arith, p)

    place : Lowest (check_refusals before work rules used) (suc t) → place_by before rules used (suc t) < 512
    place (inl p) = subst (λ (m : ℕ). place_by before rules used m < 512) (sym p.1) (omega arith)
    place (inr (L, inl p)) = subst (λ (m : ℕ). place_by before rules used m < 512) (sym p.1) (omega arith)
    place (inr (L, inr (I, inl p))) = subst (λ (m : ℕ). place_by before rules used m < 512) (sym p.1) (omega (arith, bad_below rules used (kinds before.material) p.0, L.list.room, L.list.most))
    place (inr (L, inr (I, inr (S, p)))) = subst (λ (m : ℕ). place_by before rules used m < 512) (sym p) (omega arith)

pub check_narrow : {before after : Layout} {work rules zeros : List ℕ} {used n answer place done left : ℕ} → n ≤ 65535 → Checked before work rules used n answer place done left after zeros → NarrowCheck place done left × (answer < 8)
check_narrow {before} {work = work} {rules = rules} {used = used} {n = n} u C =
    let e = C.leaves in
    let a = ap (λ (x : CheckLeft). x.number) e in
    let F = few_by before work rules used n C.tested u C.number in (
      record {
        place_most = omega (arith, F.place_few, C.lowest, ap (λ (m : ℕ). place_by before rules used m) a);
        done_most = omega (arith, F.done_few, ap (λ (x : CheckLeft). x.done) e);
        left_most = omega (arith, F.left_few, ap (λ (x : CheckLeft). x.left) e);
      },
      omega (arith, F.number_few, a),
    )
