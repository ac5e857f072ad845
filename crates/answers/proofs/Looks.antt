-- What check and report come to: their own outcomes, on a desk that is kept, are the model's.
use Prim.Native.Nat.{ℕ, ◌≤◌, ◌<◌}
use native.Mathlib.Omega.{arith}
use mathlib.Core.Bool.{Bool, true, false, cond}
use mathlib.Core.Path.{◌≡◌, refl, sym, ◌∙◌, ap, subst}
use mathlib.Core.List.{List, [], ◌∷◌}
use lib.ListN.{length}
use lib.Dec.{leb}
use borrow.Author.Tests.{le-leb}
use Rattle.std.specs.Prelude.{Result, Ok, Err}
use Rattle.plane.specs.declared.tile.Area.{Area}
use Rattle.plane.specs.Area.{AreaIn, tiles_in}
use Rattle.plane.specs.Listing.{Fits}
use Rattle.plane.proofs.Listings.{listed_few}
use Rattle.plane.specs.Refusal.{◌unless◌, if_done}
use Rattle.plane.specs.Words.{width, height, kinds, room_in}
use Rattle.rules.specs.Vetting.{AllSound}
use Rattle.rules.specs.Words.{rules_of, halo_of}
use Rattle.checker.specs.declared.check.Progress.{Progress}
use Rattle.checker.specs.declared.check.CheckError.{CheckError}
use Rattle.sheet.specs.declared.report.Found.{Found}
use Rattle.sheet.specs.declared.report.ReportError.{ReportError}
use Rattle.sheet.specs.declared.report.ReportError.TheVariants.{Lengths, NoTable, BadRule, Place, Full}
use Rattle.std.specs.Result.{MatchResult, IsErrAnd}
use Rattle.std.proofs.lemmas.Result.{err_from_is_err_and}
use Rattle.plane.specs.declared.answer.Refusal.{Refusal}
use Rattle.plane.specs.Answers.{refusal_number}
use Rattle.sheet.specs.Answers.{error_number, report_number, report_place, found_by}
use Rattle.checker.specs.Answers.{check_number, check_place, check_done, check_left}
use Rattle.sweep.specs.Run.{check_run, CheckLeft, ran_check}
use Rattle.checker.specs.Check.{CheckLength, Checked, refused_check}
use Rattle.sheet.specs.Layout.{Layout, RuleLength, IsLayout}
use Rattle.sheet.specs.Ready.{Fit}
use Rattle.sheet.specs.Report.{Findings, Reported, findings}
use Rattle.checker.proofs.CheckStays.{run_fit}
use Rattle.replies.specs.declared.reply.Reply.{Reply}
use Rattle.replies.specs.declared.reply.Reply.TheVariants as reply
use Rattle.desk.specs.declared.state.Desk.TheInside.{Inside}
use Rattle.desk.specs.Kept.{layout_of, model_of, Tables, Kept}
use Rattle.desk.specs.Model.{checked_by, left_by, reported_on, found_reply, halo}
use Rattle.desk.specs.Tests.{area_in}
use Rattle.desk.proofs.Decides.{decided, passed, area_is, leb_is}
use Rattle.desk.proofs.Draws.{with_tables}
use Rattle.desk.proofs.RuleLists.{halo_is}

-- ---- check
-- on a desk with a layout, what check leaves is what its run leaves
module _ (d : Inside) (K : Kept d) (ready : d.ready ≡ true) (n : ℕ) (r : Result Progress CheckError) {l : Layout} {work : List ℕ}
    (C : Checked (layout_of d) d.work d.rules d.used n (check_number r) (check_place r) (check_done r) (check_left r) l work) where
  ran : record { number = check_number r; done = check_done r; left = check_left r; layout = l } ≡ ran_check (check_run n (rules_of d.rules d.used) (halo_of d.rules d.used) (layout_of d))
  ran =
      let F = K.fit ready in
      let L : CheckLength (layout_of d) d.work d.rules d.used = record { tables = record { tables = F.lengths.tables; working = K.working ∙ sym K.tables.material }; list = F.lengths.list } in
      let four = 4 unless AllSound d.rules d.used (kinds d.material) ∷ [] in
      let z : C.tested ≡ 0 =
      passed (4 unless AllSound d.rules d.used (kinds d.material)) [] F.sound
      (passed (3 unless IsLayout (layout_of d)) four F.tables (passed (1 unless CheckLength (layout_of d) d.work d.rules d.used) (3 unless IsLayout (layout_of d) ∷ four) L C.number)) in
      C.leaves ∙ ap (λ (t : ℕ). if_done t (ran_check (check_run n (rules_of d.rules d.used) (halo_of d.rules d.used) (layout_of d))) (refused_check t (layout_of d))) z

  pub check_comes : (model_of (with_tables d l work), reply.Check (check_number r) (check_done r) (check_left r)) ≡ checked_by (model_of d) n
  unfolding checked_by
  check_comes = ap (λ (x : CheckLeft). left_by (model_of d) x) (ran ∙ ap (λ (h : ℕ). ran_check (check_run n (rules_of d.rules d.used) h (layout_of d))) (halo_is d.rules d.used))

  fits_on : Fit l d.rules d.used
  fits_on = subst (λ (x : Layout). Fit x d.rules d.used) (sym (ap (λ (x : CheckLeft). x.layout) ran)) (run_fit n (layout_of d) (K.fit ready))

-- the desk is kept, whatever the answer
pub check_kept : (d : Inside) {l : Layout} {work : List ℕ} (n : ℕ) (r : Result Progress CheckError) → Kept d → Tables l → length work ≡ length d.work
    → Checked (layout_of d) d.work d.rules d.used n (check_number r) (check_place r) (check_done r) (check_left r) l work → Kept (with_tables d l work)
check_kept d n r K T W C = record { tables = T; working = W ∙ K.working; list = K.list; used = K.used; fit = λ q. fits_on d K q n r C }

-- ---- report
-- a refusal that report's error became has its number, and what was found is found
pub mapped_err : (r : Result Found ReportError) (m : Result Found Refusal) {why : Refusal} → MatchResult r (λ x. m ≡ Ok x) (λ e. IsErrAnd m (λ y. refusal_number y ≡ error_number e)) → m ≡ Err why → report_number r ≡ refusal_number why
mapped_err (Ok x) m c e = cc
mapped_err (Err d) m c e = let p = err_from_is_err_and m c in let q = p.1 in let n = p.2 in cc

pub mapped_ok : (r : Result Found ReportError) (m : Result Found Refusal) {f : Found} → MatchResult r (λ x. m ≡ Ok x) (λ e. IsErrAnd m (λ y. refusal_number y ≡ error_number e)) → m ≡ Ok f → r ≡ Ok f
mapped_ok (Ok x) m c e = cc
mapped_ok (Err d) m c e = let p = err_from_is_err_and m c in let q = p.1 in cc

pub mapped_not : (r : Result Found ReportError) (m : Result Found Refusal) {why : Refusal} → MatchResult r (λ x. m ≡ Ok x) (λ e. IsErrAnd m (λ y. refusal_number y ≡ error_number e)) → m ≡ Err why → (f : Found) → r ≡ Ok f → ⊥
mapped_not (Ok x) m c e f o = cc
mapped_not (Err d) m c e f o = cc

-- what is not found has a number
pub positive : (r : Result Found ReportError) → ((f : Found) → r ≡ Ok f → ⊥) → 0 < report_number r
positive (Ok f) o = absurd (o f refl)
positive (Err Lengths) o = omega arith
positive (Err NoTable) o = omega arith
positive (Err (BadRule i)) o = omega arith
positive (Err Place) o = omega arith
positive (Err Full) o = omega arith

-- an area in the window, and one that is not
found : (b : Bool) {k : ℕ} (s x y : Reply) → k ≤ 0 → k ≡ cond b 0 6 → s ≡ x → s ≡ cond b x y
found true s x y u e p = p
found false s x y u e p = absurd (omega (arith, e))

none : (b : Bool) {k : ℕ} (x : Reply) (line : ℕ) → 0 < k → k ≡ cond b 0 6 → (k ≡ 6) × (reply.No k line ≡ cond b x (reply.No 6 line))
none true x line u e = absurd (omega (arith, e))
none false x line u e = (e, ap (λ (n : ℕ). reply.No n line) e)

-- does the area lie in the window
abbrev inside : Inside → Area → Bool
inside d a = area_in (width d.material) (height d.material) a

-- a listing with the room of the table is never full, so only the area decides
module _ (d : Inside) (a : Area) (line : ℕ) (K : Kept d) (ready : d.ready ≡ true) {out : List ℕ} (long : length out ≡ 400) where
  report_number_lem : {n place : ℕ} {f : Findings} → Reported (layout_of d) d.rules d.used a out n place f → n ≡ cond (inside d a) 0 6
  report_number_lem R =
      let F = K.fit ready in
      let ts = tiles_in d.errors 1 a in
      let six = 6 unless AreaIn (width d.material) (height d.material) a ∷ 7 unless Fits ts out ∷ [] in
      let four = 4 unless AllSound d.rules d.used (kinds d.material) ∷ six in
      let r : room_in (length d.errors) ≡ 400 = ap room_in K.tables.errors in
      let few : leb (length ts) (length out) ≡ true = le-leb (length ts) (length out) (omega (arith, long, r, listed_few d.errors 1 a, F.tables.errors.table.room)) in
      decided six ((6, inside d a) ∷ (7, leb (length ts) (length out)) ∷ []) (refl, (area_is (width d.material) (height d.material) a, (refl, (leb_is (length ts) (length out), tt))))
      (passed (4 unless AllSound d.rules d.used (kinds d.material)) six F.sound
      (passed (3 unless IsLayout (layout_of d)) four F.tables (passed (1 unless RuleLength (layout_of d) d.rules d.used) (3 unless IsLayout (layout_of d) ∷ four) F.lengths R.outcome.number)))
      ∙ ap (λ (b : Bool). cond (inside d a) (cond b 0 7) 6) few

  pub report_found : (r : Result Found ReportError) {f : Found} {after : List ℕ} → r ≡ Ok f → Reported (layout_of d) d.rules d.used a out (report_number r) (report_place r) (found_by r after) → reply.Report (cond f.settled 1 0) f.squares f.tiles ≡ reported_on (model_of d) line a
  unfolding reported_on
  report_found r {f} {after} e R =
      let Q = subst (λ (x : Result Found ReportError). Reported (layout_of d) d.rules d.used a out (report_number x) (report_place x) (found_by x after)) e R in
      found (inside d a) (reply.Report (cond f.settled 1 0) f.squares f.tiles) (found_reply (findings (layout_of d) (halo (rules_of d.rules d.used)) a [])) (reply.No 6 line) (omega arith) (report_number_lem Q)
      (ap found_reply Q.outcome.leaves ∙ ap (λ (k : ℕ). found_reply (findings (layout_of d) k a [])) (halo_is d.rules d.used))

  pub report_none : {n k place : ℕ} {f : Findings} → n ≡ k → 0 < k → Reported (layout_of d) d.rules d.used a out n place f → (k ≡ 6) × (reply.No k line ≡ reported_on (model_of d) line a)
  unfolding reported_on
  report_none e u R = none (inside d a) (found_reply (findings (layout_of d) (halo (rules_of d.rules d.used)) a [])) line u (sym e ∙ report_number_lem R)
