-- What create makes is a sound layout, and paint keeps one whatever it answers: the steps that a history is made of.
use Prim.Native.Nat.{ℕ, zero, suc, ◌+◌, ◌*◌, ◌≤◌, ◌<◌}
use native.Mathlib.Omega.{arith}
use mathlib.Core.Path.{◌≡◌, sym, ◌∙◌, subst}
use mathlib.Core.List.{List}
use lib.ListN.{length}
use Rattle.plane.specs.declared.tile.Area.{Area}
use Rattle.plane.specs.Picture.{table, space, tiles}
use Rattle.plane.specs.Words.{width, height, kinds, room_in, TableLength, InRange}
use Rattle.plane.proofs.Lowests.{all_hold}
use Rattle.tables.specs.Like.{painted_of}
use Rattle.tables.proofs.Whole.{painted_table, as_picture, table_size, table_words}
use Rattle.tables.proofs.OneTile.{space_one, space_is_table}
use Rattle.sheet.specs.Layout.{Layout, room, Marks, SoundLayout}
use Rattle.drawing.specs.Create.{fresh, create_refusals, Created}
use Rattle.drawing.specs.Paint.{BothFit, painted_layout, paint_refusals, Painted}

length_is : {n c : ℕ} → n ≡ 4 + 9 * c → 1 ≤ c → c ≤ 3600 → TableLength n
length_is e a b = record { words = omega (arith, e); least = omega (arith, e); most = omega (arith, e) }

-- ---- create
fresh_sound : (c w h t : ℕ) → 1 ≤ c → c ≤ 3600 → InRange w h t → SoundLayout (fresh c w h t)
fresh_sound c w h t a b R =
    let u : length (tiles w h space) ≤ c = omega (arith, space_one w h R.wide R.tall) in
    let e = table_words c w h t space u in
    let e₂ = table_words c w h 2 space u in
    let s = table_size c w h t space in
    let s₂ = table_size c w h 2 space in
    let R₂ : InRange w h 2 = record { wide = R.wide; wide_most = R.wide_most; tall = R.tall; tall_most = R.tall_most; two = omega arith; sixteen = omega arith } in
    let m : Marks (table c w h t space) (table c w h 2 space) = record { table = as_picture (space_is_table a R₂); wide = s₂.0 ∙ sym s.0; tall = s₂.1 ∙ sym s.1; two = s₂.2 } in
    record {
      lengths = record { material = length_is e a b; errors = e₂ ∙ sym e; waiting = e₂ ∙ sym e };
      tables = record { material = as_picture (space_is_table a R); errors = m; waiting = m };
    }

pub create_makes : {before after : Layout} {w h t : ℕ} → Created before w h t 0 after → SoundLayout after
create_makes {before} {after} {w} {h} {t} p =
    let g = all_hold 0 (create_refusals before w h t) (omega arith, (omega arith, tt)) p.outcome.number in
    subst (λ (l : Layout). SoundLayout l) (sym p.outcome.leaves) (fresh_sound (room before) w h t g.0.material.least g.0.material.most g.1.0)

-- ---- paint
pub painted_sound : {l : Layout} (a : Area) {kind : ℕ} → SoundLayout l → kind < kinds l.material → BothFit l a kind → SoundLayout (painted_layout l a kind)
painted_sound {l} a {kind} S k F =
    let L = S.lengths in
    let I = S.tables in
    let m = l.material in
    let q = l.waiting in
    let e = table_words (room_in (length m)) (width m) (height m) (kinds m) (painted_of m a kind) F.material in
    let e₂ = table_words (room_in (length q)) (width q) (height q) (kinds q) (painted_of q a 1) F.waiting in
    let s = table_size (room_in (length m)) (width m) (height m) (kinds m) (painted_of m a kind) in
    let s₂ = table_size (room_in (length q)) (width q) (height q) (kinds q) (painted_of q a 1) in
    record {
      lengths = record {
        material = length_is e L.material.least L.material.most;
        errors = omega (arith, e, L.errors, L.material.words);
        waiting = omega (arith, e, e₂, L.waiting, L.material.words);
      };
      tables = record {
        material = as_picture (painted_table a kind I.material k F.material);
        errors = record { table = I.errors.table; wide = I.errors.wide ∙ sym s.0; tall = I.errors.tall ∙ sym s.1; two = I.errors.two };
        waiting = record {
          table = as_picture (painted_table a 1 I.waiting.table (omega (arith, I.waiting.two)) F.waiting);
          wide = s₂.0 ∙ (I.waiting.wide ∙ sym s.0);
          tall = s₂.1 ∙ (I.waiting.tall ∙ sym s.1);
          two = s₂.2 ∙ I.waiting.two;
        };
      };
    }

-- whatever the answer: a paint that is refused leaves the layout as it is
pub paint_keeps : {before after : Layout} {work left : List ℕ} {a : Area} {kind answer : ℕ} → Painted before work a kind answer after left → SoundLayout before → SoundLayout after
paint_keeps {before} {after} {work} {a = a} {kind = kind} {answer = zero} p S =
    let g = all_hold 0 (paint_refusals before work a kind) (omega arith, (omega arith, (omega arith, (omega arith, (omega arith, tt))))) p.outcome.number in
    subst (λ (l : Layout). SoundLayout l) (sym p.outcome.leaves) (painted_sound a S g.1.1.0 g.1.1.1.1.0)
paint_keeps {answer = suc n} p S = subst (λ (l : Layout). SoundLayout l) (sym p.outcome.leaves) S
