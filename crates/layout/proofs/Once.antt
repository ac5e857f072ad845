-- Each call has one outcome: two that meet its statement have the same answer and leave the same words. An answer is known by its numbers.
use Prim.Native.Nat.{ℕ, zero, suc}
use mathlib.Core.Bool.{Bool, true, false, cond}
use mathlib.Core.Path.{◌≡◌, refl, sym, ◌∙◌, ap}
use mathlib.Core.List.{List}
use lib.Dec.{eqb}
use Rattle.std.specs.Prelude.{Result, Ok, Err}
use Rattle.plane.specs.declared.answer.Refusal.{Refusal}
use Rattle.plane.specs.declared.tile.Area.{Area}
use Rattle.plane.specs.Answers.{number}
use Rattle.plane.specs.Refusal.{if_done, lowest_once, outcome_once}
use Rattle.plane.specs.Words.{kinds}
use Rattle.plane.proofs.Once.{number_once}
use Rattle.rules.specs.declared.rule.Rule.{Rule}
use Rattle.macros.specs.Expansion.{RuleList, Expanded, Widened, Spaced}
use Rattle.rules.specs.Vetting.{lowest_bad}
use Rattle.rules.specs.Words.{halo_of, rules_of}
use Rattle.checker.specs.declared.check.Progress.{Progress}
use Rattle.checker.specs.declared.check.CheckError.{CheckError}
use Rattle.checker.specs.declared.check.CheckError.TheVariants as check
use Rattle.sheet.specs.declared.report.Found.{Found}
use Rattle.sheet.specs.declared.report.ReportError.{ReportError}
use Rattle.sheet.specs.declared.report.ReportError.TheVariants as report
use Rattle.sheet.specs.Answers.{report_number, report_place, report_settled, report_squares, report_tiles, found_by}
use Rattle.checker.specs.Answers.{check_number, check_place, check_done, check_left}
use Rattle.sheet.specs.Layout.{Layout}
use Rattle.sweep.specs.Run.{check_run, CheckLeft, ran_check}
use Rattle.checker.specs.Check.{Checked, check_refusals, refused_check}
use Rattle.drawing.specs.Create.{Created}
use Rattle.drawing.specs.Paint.{Painted}
use Rattle.sheet.specs.Report.{Findings, Reported}
use Rattle.layout.specs.Pack.{pack_report, pack_point, pack_macro, pack_check, ReportPacked, PointPacked, MacroPacked, CheckPacked}

-- ---- create, as C sees it and as the enum tells it
pub c_create_once : {before after after' : Layout} {w h t r r' : ℕ} → Created before w h t r after → Created before w h t r' after' → (r ≡ r') × (after ≡ after')
c_create_once p q = outcome_once p.outcome q.outcome

pub create_once : {before after after' : Layout} {w h t : ℕ} (r r' : Result (Unit {0}) Refusal)
    → Created before w h t (number r) after → Created before w h t (number r') after' → (r ≡ r') × (after ≡ after')
create_once r r' p q = let e = c_create_once p q in (number_once r r' e.0, e.1)

-- ---- paint
pub c_paint_once : {before after after' : Layout} {work left left' : List ℕ} {a : Area} {kind r r' : ℕ}
    → Painted before work a kind r after left → Painted before work a kind r' after' left' → (r ≡ r') × (after ≡ after') × (left ≡ left')
c_paint_once p q = let e = outcome_once p.outcome q.outcome in (e.0, e.1, p.zero ∙ sym q.zero)

pub paint_once : {before after after' : Layout} {work left left' : List ℕ} {a : Area} {kind : ℕ} (r r' : Result (Unit {0}) Refusal)
    → Painted before work a kind (number r) after left → Painted before work a kind (number r') after' left' → (r ≡ r') × (after ≡ after') × (left ≡ left')
paint_once r r' p q = let e = c_paint_once p q in (number_once r r' e.0, e.1, e.2)

-- ---- check
-- an answer is known by its numbers
check_of : ℕ → ℕ → ℕ → ℕ → Result Progress CheckError
check_of zero p d l = Ok (record { done = d; left = l })
check_of (suc zero) p d l = Err check.Lengths
check_of (suc (suc zero)) p d l = Err check.Lengths
check_of (suc (suc (suc zero))) p d l = Err check.NoTable
check_of (suc (suc (suc (suc zero)))) p d l = Err (check.BadRule p)
check_of (suc (suc (suc (suc (suc n))))) p d l = Err (check.Full (record { done = d; left = l }))

check_known : (a : Result Progress CheckError) → check_of (check_number a) (check_place a) (check_done a) (check_left a) ≡ a
unfolding check_of
check_known (Ok p) = refl
check_known (Err check.Lengths) = refl
check_known (Err check.NoTable) = refl
check_known (Err (check.BadRule i)) = refl
check_known (Err (check.Full p)) = refl

-- two checks have the same numbers and leave the same words
pub checks_once : {before after after' : Layout} {work rules zeros zeros' : List ℕ} {used n a a' p p' d d' f f' : ℕ}
    → Checked before work rules used n a p d f after zeros → Checked before work rules used n a' p' d' f' after' zeros'
    → (◌≡◌ {A = CheckLeft} (record { number = a; done = d; left = f; layout = after }) (record { number = a'; done = d'; left = f'; layout = after' })) × (p ≡ p') × (zeros ≡ zeros')
checks_once {before} {work = work} {rules = rules} {used = used} {n = n} P Q =
    let t = lowest_once (check_refusals before work rules used) P.number Q.number in
    let e = P.leaves ∙ (ap {B = CheckLeft} (λ (m : ℕ). if_done m (ran_check (check_run n (rules_of rules used) (halo_of rules used) before)) (refused_check m before)) t ∙ sym Q.leaves) in
    (e, P.lowest ∙ (ap (λ (x : CheckLeft). cond (eqb x.number 4) (lowest_bad rules used (kinds before.material)) 0) e ∙ sym Q.lowest), P.zero ∙ sym Q.zero)

pub check_once : {before after after' : Layout} {work rules zeros zeros' : List ℕ} {used n : ℕ} (r r' : Result Progress CheckError)
    → Checked before work rules used n (check_number r) (check_place r) (check_done r) (check_left r) after zeros
    → Checked before work rules used n (check_number r') (check_place r') (check_done r') (check_left r') after' zeros'
    → (r ≡ r') × (after ≡ after') × (zeros ≡ zeros')
check_once r r' P Q =
    let e = checks_once P Q in
    (sym (check_known r) ∙ ((λ i. check_of (e.0 i).number (e.1 i) (e.0 i).done (e.0 i).left) ∙ check_known r'), ap (λ (x : CheckLeft). x.layout) e.0, e.2)

-- the same, packed
pub c_check_once : {before after after' : Layout} {work rules zeros zeros' : List ℕ} {used n r r' : ℕ}
    → CheckPacked before work rules used n r after zeros → CheckPacked before work rules used n r' after' zeros' → (r ≡ r') × (after ≡ after') × (zeros ≡ zeros')
c_check_once P Q =
    let e = checks_once P.checked Q.checked in
    (P.packed ∙ ((λ i. pack_check (e.0 i).number (e.1 i) (e.0 i).done (e.0 i).left) ∙ sym Q.packed), ap (λ (x : CheckLeft). x.layout) e.0, e.2)

-- ---- report
-- an answer is known by its numbers
report_of : ℕ → ℕ → ℕ → ℕ → ℕ → Result Found ReportError
report_of zero p s q n = Ok (record { settled = eqb s 1; squares = q; tiles = n })
report_of (suc zero) p s q n = Err report.Lengths
report_of (suc (suc zero)) p s q n = Err report.Lengths
report_of (suc (suc (suc zero))) p s q n = Err report.NoTable
report_of (suc (suc (suc (suc zero)))) p s q n = Err (report.BadRule p)
report_of (suc (suc (suc (suc (suc zero))))) p s q n = Err report.Place
report_of (suc (suc (suc (suc (suc (suc zero)))))) p s q n = Err report.Place
report_of (suc (suc (suc (suc (suc (suc (suc m))))))) p s q n = Err report.Full

settled_known : (b : Bool) → eqb (cond b 1 0) 1 ≡ b
settled_known true = refl
settled_known false = refl

report_known : (r : Result Found ReportError) → report_of (report_number r) (report_place r) (report_settled r) (report_squares r) (report_tiles r) ≡ r
unfolding report_of
report_known (Ok f) = λ i. Ok (record { settled = settled_known f.settled i; squares = f.squares; tiles = f.tiles })
report_known (Err report.Lengths) = refl
report_known (Err report.NoTable) = refl
report_known (Err (report.BadRule i)) = refl
report_known (Err report.Place) = refl
report_known (Err report.Full) = refl

-- two reports have the same number, place and findings
pub reports_once : {l : Layout} {rules : List ℕ} {used : ℕ} {a : Area} {out : List ℕ} {n n' p p' : ℕ} {f f' : Findings}
    → Reported l rules used a out n p f → Reported l rules used a out n' p' f' → (n ≡ n') × (p ≡ p') × (f ≡ f')
reports_once {l} {rules} {used} P Q =
    let e = outcome_once P.outcome Q.outcome in
    (e.0, P.lowest ∙ (ap (λ (n : ℕ). cond (eqb n 4) (lowest_bad rules used (kinds l.material)) 0) e.0 ∙ sym Q.lowest), e.1)

pub report_once : {l : Layout} {rules : List ℕ} {used : ℕ} {a : Area} {out after after' : List ℕ} (r r' : Result Found ReportError)
    → Reported l rules used a out (report_number r) (report_place r) (found_by r after) → Reported l rules used a out (report_number r') (report_place r') (found_by r' after') → (r ≡ r') × (after ≡ after')
report_once r r' P Q =
    let e = reports_once P Q in
    (sym (report_known r) ∙ ((λ i. report_of (e.0 i) (e.1 i) (e.2 i).settled (e.2 i).squares (e.2 i).tiles) ∙ report_known r'), ap (λ (f : Findings). f.slice) e.2)

-- the same, packed
pub c_report_once : {l : Layout} {rules : List ℕ} {used : ℕ} {a : Area} {out after after' : List ℕ} {r r' : ℕ}
    → ReportPacked l rules used a out r after → ReportPacked l rules used a out r' after' → (r ≡ r') × (after ≡ after')
c_report_once P Q =
    let e = reports_once P.reported Q.reported in
    (P.packed ∙ ((λ i. pack_report (e.0 i) (e.1 i) (e.2 i).settled (e.2 i).squares (e.2 i).tiles) ∙ sym Q.packed), ap (λ (f : Findings). f.slice) e.2)

-- ---- point, packed
pub c_point_once : {ws : List ℕ} {x y r r' : ℕ} → PointPacked ws x y r → PointPacked ws x y r' → r ≡ r'
c_point_once P Q =
    let e = outcome_once P.pointed.outcome Q.pointed.outcome in
    P.packed ∙ ((λ i. pack_point (e.0 i) (e.1 i)) ∙ sym Q.packed)

-- ---- the macros, packed
macro_once : {ws after after' : List ℕ} {used t : ℕ} {ok : Bool} {rs : List Rule} {r r' : ℕ}
    → MacroPacked (λ n k. Expanded ws used t ok rs n k after) r → MacroPacked (λ n k. Expanded ws used t ok rs n k after') r' → (r ≡ r') × (after ≡ after')
macro_once P Q =
    let e = outcome_once P.made.outcome Q.made.outcome in
    (P.packed ∙ ((λ i. pack_macro (e.0 i) (e.1 i).used) ∙ sym Q.packed), ap (λ (l : RuleList). l.words) e.1)

pub c_width_once : {ws after after' : List ℕ} {used t r r' : ℕ} (s d reason : ℕ)
    → MacroPacked (λ n k. Widened ws used t s d reason n k after) r → MacroPacked (λ n k. Widened ws used t s d reason n k after') r' → (r ≡ r') × (after ≡ after')
c_width_once s d reason P Q = macro_once P Q

pub c_spacing_once : {ws after after' : List ℕ} {used t r r' : ℕ} (a b d touch reason : ℕ)
    → MacroPacked (λ n k. Spaced ws used t a b d touch reason n k after) r → MacroPacked (λ n k. Spaced ws used t a b d touch reason n k after') r' → (r ≡ r') × (after ≡ after')
c_spacing_once a b d touch reason P Q = macro_once P Q
