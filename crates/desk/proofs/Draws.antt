-- What new and paint come to: create's and paint's own outcomes, on a desk that is kept, are the model's.
use Prim.Native.Nat.{ℕ, zero, suc, ◌≤◌, ◌<◌}
use native.Mathlib.Omega.{arith}
use mathlib.Core.Bool.{Bool, true, false}
use mathlib.Core.Path.{◌≡◌, refl, sym, ◌∙◌, ap, subst}
use mathlib.Core.List.{List, [], ◌∷◌}
use lib.ListN.{length}
use lib.Dec.{ltb}
use Rattle.plane.specs.declared.tile.Area.{Area}
use Rattle.plane.specs.Refusal.{◌unless◌}
use Rattle.plane.specs.Area.{AreaIn}
use Rattle.plane.specs.Picture.{joined}
use Rattle.plane.specs.Words.{width, height, kinds, room_in, InRange, TableLength}
use Rattle.plane.proofs.Lowests.{left_as_is}
use Rattle.tables.specs.Like.{painted_of}
use Rattle.tables.proofs.Whole.{table_size}
use Rattle.rules.specs.Vetting.{ListLength, AllSound}
use Rattle.rules.specs.Words.{rules_of}
use Rattle.drawing.specs.Create.{Created, fresh}
use Rattle.sheet.specs.Layout.{Layout, room, OneLength, WorkLength, IsLayout}
use Rattle.drawing.specs.Paint.{BothFit, Painted, painted_layout}
use Rattle.drawing.proofs.Stays.{create_makes, paint_keeps}
use Rattle.replies.specs.declared.reply.Reply.TheVariants as reply
use Rattle.desk.specs.declared.state.Desk.TheInside.{Inside}
use Rattle.desk.specs.Kept.{layout_of, model_of, Tables, Kept}
use Rattle.desk.specs.Model.{Model, said, opened, painted_by, in_window}
use Rattle.desk.specs.Tests.{first_no, in_range, both_fit}
use Rattle.desk.proofs.Decides.{decided, passed, range_is, area_is, fit_is, ltb_is}

-- ---- the desk's lengths are right
room_length : {n : ℕ} → n ≡ 3604 → TableLength n
room_length e = subst (λ (n : ℕ). TableLength n) (sym e) (record { words = refl; least = omega arith; most = omega arith })

pub one_length : {l : Layout} → Tables l → OneLength l
one_length T = record { material = room_length T.material; errors = T.errors ∙ sym T.material; waiting = T.waiting ∙ sym T.material }

pub list_length : {n used : ℕ} → n ≡ 4096 → used ≤ 512 → ListLength n used
list_length {used = used} e u = subst (λ (n : ℕ). ListLength n used) (sym e) (record { words = refl; most = omega arith; room = u })

-- ---- refused
-- a number that says no
pub said_no : {f n : ℕ} (line : ℕ) (new old : Model) → 0 < n → n ≡ f → (old, reply.No n line) ≡ said f line new old
said_no {n = zero} line new old u e = absurd (omega arith)
said_no {n = suc n} line new old u e = ap (λ (k : ℕ). said k line new old) e

-- the desk d with other tables and another working room
abbrev pub with_tables : Inside → Layout → List ℕ → Inside
with_tables d l work = record d { material = l.material; errors = l.errors; waiting = l.waiting; work = work }

-- what was lent stayed as it was, so the desk is as it was
pub tables_stay : (d : Inside) {l : Layout} {work : List ℕ} → Kept d → l ≡ layout_of d → length work ≡ length d.work → Kept (with_tables d l work) × (model_of (with_tables d l work) ≡ model_of d)
tables_stay d {l} {work} K e w =
    subst (λ (x : Layout). Kept (with_tables d x work) × (model_of (with_tables d x work) ≡ model_of d)) (sym e)
    (record { tables = K.tables; working = w ∙ K.working; list = K.list; used = K.used; fit = K.fit }, refl)

-- ---- new
-- the desk with a new layout
abbrev pub opened_desk : Inside → Layout → Inside
opened_desk d l = record d { material = l.material; errors = l.errors; waiting = l.waiting; used = 0; ready = true; painted = false }

module _ (d : Inside) (K : Kept d) (line w h t : ℕ) {l : Layout} where
  new_number : {n : ℕ} → Created (layout_of d) w h t n l → n ≡ first_no ((2, in_range w h t) ∷ [])
  new_number C = decided (2 unless InRange w h t ∷ []) ((2, in_range w h t) ∷ []) (refl, (range_is w h t, tt)) (passed (1 unless OneLength (layout_of d)) (2 unless InRange w h t ∷ []) (one_length K.tables) C.outcome.number)

  pub new_no : {n : ℕ} → Created (layout_of d) w h t n l → 0 < n → Kept (with_tables d l d.work) × ((model_of (with_tables d l d.work), reply.No n line) ≡ opened (model_of d) line w h t)
  unfolding opened
  new_no {n} C u =
      let S = tables_stay d {work = d.work} K (C.outcome.leaves ∙ sym (left_as_is n (fresh (room (layout_of d)) w h t) (layout_of d) u)) refl in
      (S.0, ap (λ (m : Model). (m, reply.No n line)) S.1 ∙ said_no line (record { ready = true; painted = false; layout = fresh 400 w h t; rules = [] }) (model_of d) u (new_number C))

  pub new_ok : Created (layout_of d) w h t 0 l → Tables l → Kept (opened_desk d l) × ((model_of (opened_desk d l), reply.Ok) ≡ opened (model_of d) line w h t)
  unfolding opened rules_of joined
  new_ok C T =
      let S = create_makes C in
      let r : room (layout_of d) ≡ 400 = ap room_in K.tables.material in (
        record {
          tables = T;
          working = K.working;
          list = K.list;
          used = omega arith;
          fit = λ _. record { lengths = record { tables = S.lengths; list = list_length K.list (omega arith) }; tables = S.tables; sound = λ i u. absurd (omega arith) };
        },
        ap (λ (x : Layout). (record { ready = true; painted = false; layout = x; rules = [] }, reply.Ok)) (C.outcome.leaves ∙ ap (λ (c : ℕ). fresh c w h t) r)
            ∙ ap (λ (n : ℕ). said n line (record { ready = true; painted = false; layout = fresh 400 w h t; rules = [] }) (model_of d)) (new_number C),
      )

-- ---- paint
-- the tests of a desk, its model with a paint, and the desk with its layout painted
abbrev paint_tests : Inside → Area → ℕ → List (ℕ × Bool)
paint_tests d a k = (5, ltb k (kinds d.material)) ∷ (6, in_window (model_of d) a) ∷ (7, both_fit (layout_of d) a k) ∷ []

abbrev after_paint : Inside → Area → ℕ → Model
after_paint d a k = record { ready = d.ready; painted = true; layout = painted_layout (layout_of d) a k; rules = rules_of d.rules d.used }

abbrev pub painted_desk : Inside → Layout → List ℕ → Bool → Inside
painted_desk d l work p = record d { material = l.material; errors = l.errors; waiting = l.waiting; work = work; painted = p }

module _ (d : Inside) (K : Kept d) (k : ℕ) (a : Area) {l : Layout} {work : List ℕ} (W : length work ≡ length d.work) where
  -- the desk is kept, whatever it notes of the paint
  pub paint_kept : (p : Bool) → Painted (layout_of d) d.work a k 0 l work → Tables l → Kept (painted_desk d l work p)
  paint_kept p P T = record {
    tables = T;
    working = W ∙ K.working;
    list = K.list;
    used = K.used;
    fit = λ q.
        let F = K.fit q in
        let S = paint_keeps P (record { lengths = F.lengths.tables; tables = F.tables }) in
        let m = d.material in
        let k' : kinds l.material ≡ kinds m =
        ap (λ (x : Layout). kinds x.material) P.outcome.leaves ∙ (table_size (room_in (length m)) (width m) (height m) (kinds m) (painted_of m a k)).2 in
        record { lengths = record { tables = S.lengths; list = F.lengths.list }; tables = S.tables; sound = subst (λ (t : ℕ). AllSound d.rules d.used t) (sym k') F.sound };
  }

  -- ---- on a desk with a layout
  module _ (ready : d.ready ≡ true) (line : ℕ) where
    paint_number : {n : ℕ} → Painted (layout_of d) d.work a k n l work → n ≡ first_no (paint_tests d a k)
    paint_number P =
        let F = K.fit ready in
        let L : WorkLength (layout_of d) d.work = record { tables = F.lengths.tables; working = K.working ∙ sym K.tables.material } in
        let rest = 5 unless (k < kinds d.material) ∷ 6 unless AreaIn (width d.material) (height d.material) a ∷ 7 unless BothFit (layout_of d) a k ∷ [] in
        decided rest (paint_tests d a k) (refl, (ltb_is k (kinds d.material), (refl, (area_is (width d.material) (height d.material) a, (refl, (fit_is (layout_of d) a k, tt))))))
        (passed (3 unless IsLayout (layout_of d)) rest F.tables (passed (1 unless WorkLength (layout_of d) d.work) (3 unless IsLayout (layout_of d) ∷ rest) L P.outcome.number))

    pub paint_no : {n : ℕ} → Painted (layout_of d) d.work a k n l work → 0 < n → (model_of (with_tables d l work), reply.No n line) ≡ painted_by (model_of d) line a k
    unfolding painted_by
    paint_no {n} P u =
        let S = tables_stay d {work = work} K (P.outcome.leaves ∙ sym (left_as_is n (painted_layout (layout_of d) a k) (layout_of d) u)) W in
        ap (λ (m : Model). (m, reply.No n line)) S.1 ∙ said_no line (after_paint d a k) (model_of d) u (paint_number P)

    pub paint_ok : Painted (layout_of d) d.work a k 0 l work → (model_of (painted_desk d l work true), reply.Ok) ≡ painted_by (model_of d) line a k
    unfolding painted_by
    paint_ok P =
        ap (λ (x : Layout). (record { ready = d.ready; painted = true; layout = x; rules = rules_of d.rules d.used }, reply.Ok)) P.outcome.leaves
        ∙ ap (λ (n : ℕ). said n line (after_paint d a k) (model_of d)) (paint_number P)
