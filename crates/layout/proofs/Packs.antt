-- The number that C is given holds the answer: each value is within the range of its bits, so it is found again there, and all other bits are 0.
use Prim.Native.Nat.{ℕ, ◌^◌, ◌<◌, ◌≤◌}
use native.Mathlib.Omega.{arith}
use mathlib.Core.Bool.{Bool}
use mathlib.Core.Path.{◌≡◌, subst₂, subst₃}
use mathlib.Core.List.{List}
use lib.ListN.{length}
use Rattle.plane.specs.declared.tile.Area.{Area}
use Rattle.plane.specs.Point.{point_refusals, Pointed}
use Rattle.plane.specs.Words.{width, height}
use Rattle.rules.specs.declared.rule.Rule.{Rule}
use Rattle.macros.specs.Expansion.{macro_refusals, Expanded}
use Rattle.drawing.specs.Create.{create_refusals, Created}
use Rattle.sheet.specs.Layout.{Layout}
use Rattle.drawing.specs.Paint.{paint_refusals, Painted}
use Rattle.sheet.specs.Report.{Findings, report_refusals, Reported}
use Rattle.checker.specs.Check.{Checked}
use Rattle.layout.specs.Pack.{bits, pack_report, Narrow, ReportPacked, PointPacked, MacroPacked, CheckPacked, NarrowCheck, pack_check}
use Rattle.layout.proofs.Ranges.{lowest_within, report_narrow, point_few, macro_few, check_narrow}

-- ---- create and paint: the number is all that they return
pub create_number : {before after : Layout} {w h t r : ℕ} → Created before w h t r after → (bits 0 7 r ≡ r) × (r < 2 ^ 8)
create_number {before} {after} {w} {h} {t} {r} p =
    let u : r < 8 = lowest_within 8 (create_refusals before w h t) (omega arith) (omega arith, (omega arith, tt)) p.outcome.number in
    (omega arith, omega arith)

pub paint_number : {before after : Layout} {work left : List ℕ} {a : Area} {kind r : ℕ} → Painted before work a kind r after left → (bits 0 7 r ≡ r) × (r < 2 ^ 8)
paint_number {before} {after} {work} {left} {a} {kind} {r} p =
    let u : r < 8 = lowest_within 8 (paint_refusals before work a kind) (omega arith) (omega arith, (omega arith, (omega arith, (omega arith, (omega arith, tt))))) p.outcome.number in
    (omega arith, omega arith)

-- ---- report: each value in its bits
record InBits (number place settled squares tiles r : ℕ) : Type 0 where
  first : number ≡ bits 0 7 r
  second : place ≡ bits 8 16 r
  third : settled ≡ bits 17 17 r
  fourth : squares ≡ bits 18 42 r
  fifth : tiles ≡ bits 43 55 r
  none : r < 2 ^ 56

in_bits : {n p s q t r : ℕ} → n < 8 → Narrow p s q t → r ≡ pack_report n p s q t → InBits n p s q t r
in_bits u N e = record { first = omega arith; second = omega arith; third = omega arith; fourth = omega arith; fifth = omega arith; none = omega arith }

pub report_unpacks : {l : Layout} {rules : List ℕ} {used : ℕ} {a : Area} {out after : List ℕ} {r : ℕ} → ReportPacked l rules used a out r after
    → Reported l rules used a out (bits 0 7 r) (bits 8 16 r) (record { settled = bits 17 17 r; squares = bits 18 42 r; tiles = bits 43 55 r; slice = after }) × (r < 2 ^ 56)
report_unpacks {l} {rules} {used} {a} {out} {after} P =
    let u : P.answer < 8 = lowest_within 8 (report_refusals l rules used a out) (omega arith) (omega arith, (omega arith, (omega arith, (omega arith, (omega arith, tt))))) P.reported.outcome.number in
    let B = in_bits u (report_narrow P.reported) P.packed in (
      subst₃ (λ (n p : ℕ) (f : Findings). Reported l rules used a out n p f) B.first B.second
          (λ i. record { settled = B.third i; squares = B.fourth i; tiles = B.fifth i; slice = after }) P.reported,
      B.none,
    )

-- ---- point
pub point_unpacks : {ws : List ℕ} {x y r : ℕ} → PointPacked ws x y r → Pointed ws (width ws) (height ws) x y (bits 0 7 r) (bits 17 28 r) × (r < 2 ^ 29) × (bits 8 16 r ≡ 0)
point_unpacks {ws} {x} {y} {r} P =
    let u : P.answer < 8 = lowest_within 8 (point_refusals ws (width ws) (height ws) x y) (omega arith) (omega arith, (omega arith, (omega arith, tt))) P.pointed.outcome.number in
    let v = point_few P.answer P.tile P.pointed in
    let e = P.packed in
    (subst₂ (λ (n i : ℕ). Pointed ws (width ws) (height ws) x y n i) (omega arith) (omega arith) P.pointed, omega arith, omega arith)

-- ---- the macros; width and spacing are `Expanded` with their rules
pub macro_unpacks : {ws after : List ℕ} {used t : ℕ} {ok : Bool} {rs : List Rule} {r : ℕ} → MacroPacked (λ n k. Expanded ws used t ok rs n k after) r
    → Expanded ws used t ok rs (bits 0 7 r) (bits 17 26 r) after × (r < 2 ^ 27) × (bits 8 16 r ≡ 0)
macro_unpacks {ws} {after} {used} {t} {ok} {rs} {r} P =
    let u : P.answer < 8 = lowest_within 8 (macro_refusals (length ws) used t ok (length rs)) (omega arith) (omega arith, (omega arith, (omega arith, (omega arith, tt)))) P.made.outcome.number in
    let v = macro_few P.answer P.used P.made in
    let e = P.packed in
    (subst₂ (λ (n k : ℕ). Expanded ws used t ok rs n k after) (omega arith) (omega arith) P.made, omega arith, omega arith)

-- ---- check: each value in its bits
module _ (a p d l r : ℕ) (u : a < 8) (N : NarrowCheck p d l) (e : r ≡ pack_check a p d l) where
  number_bits : a ≡ bits 0 7 r
  number_bits = omega arith

  place_bits : p ≡ bits 8 16 r
  place_bits = omega arith

  done_bits : d ≡ bits 17 32 r
  done_bits = omega arith

  left_bits : l ≡ bits 33 49 r
  left_bits = omega arith

  no_more_bits : r < 2 ^ 50
  no_more_bits = omega arith

pub check_unpacks : {before after : Layout} {work rules zeros : List ℕ} {used n r : ℕ} → n ≤ 65535 → CheckPacked before work rules used n r after zeros
    → Checked before work rules used n (bits 0 7 r) (bits 8 16 r) (bits 17 32 r) (bits 33 49 r) after zeros × (r < 2 ^ 50)
check_unpacks {before} {after} {work} {rules} {zeros} {used} {n} {r} few P =
    let N = check_narrow few P.checked in (
      subst₂ (λ (d l : ℕ). Checked before work rules used n (bits 0 7 r) (bits 8 16 r) d l after zeros)
          (done_bits P.answer P.place P.done P.left r N.1 N.0 P.packed)
          (left_bits P.answer P.place P.done P.left r N.1 N.0 P.packed)
          (subst₂ (λ (a p : ℕ). Checked before work rules used n a p P.done P.left after zeros)
          (number_bits P.answer P.place P.done P.left r N.1 N.0 P.packed)
          (place_bits P.answer P.place P.done P.left r N.1 N.0 P.packed)
          P.checked),
      no_more_bits P.answer P.place P.done P.left r N.1 N.0 P.packed,
    )
