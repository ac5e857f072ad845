-- What the tables show after create and paint: the pictures that a history speaks of.
use Prim.Native.Nat.{ℕ, zero, suc, ◌≤◌, ◌<◌}
use native.Mathlib.Omega.{arith}
use mathlib.Core.Path.{◌≡◌, ◌∙◌, ap}
use mathlib.Core.List.{List}
use lib.ListN.{length}
use Rattle.plane.specs.declared.tile.Area.{Area}
use Rattle.plane.specs.Picture.{space, tiles, painted}
use Rattle.plane.specs.Words.{width, height, kinds, picture_of, room_in, InRange, PictureTable}
use Rattle.plane.proofs.Lowests.{all_hold}
use Rattle.tables.specs.Like.{HasRoom, painted_of, table_like}
use Rattle.tables.proofs.OneTile.{space_one}
use Rattle.tables.proofs.Whole.{made_shows, painted_types, table_size}
use Rattle.sheet.specs.Layout.{Layout, room}
use Rattle.drawing.specs.Create.{create_refusals, Created}
use Rattle.drawing.specs.Paint.{paint_refusals, Painted}

-- a table painted shows the picture painted
painted_shows : {ws vs : List ℕ} (a : Area) (k : ℕ) → PictureTable ws → k < kinds ws → HasRoom ws (painted_of ws a k) → vs ≡ table_like ws (painted_of ws a k)
    → (x y : ℕ) → x < width ws → y < height ws → picture_of vs x y ≡ painted (picture_of ws) a k x y
painted_shows {ws} {vs} a k T u r e = made_shows (room_in (length ws)) (width ws) (height ws) (kinds ws) (painted_of ws a k) vs e r T.header.sizes (painted_types a k T u)

-- ---- create: all is space, nothing is an error, and nothing waits
pub create_shows : {before after : Layout} {w h t : ℕ} → Created before w h t 0 after → (x y : ℕ) → x < w → y < h
    → (picture_of after.material x y ≡ 0) × (picture_of after.errors x y ≡ 0) × (picture_of after.waiting x y ≡ 0)
create_shows {before} {after} {w} {h} {t} p x y u v =
    let g = all_hold 0 (create_refusals before w h t) (omega arith, (omega arith, tt)) p.outcome.number in
    let R = g.1.0 in
    let R₂ : InRange w h 2 = record { wide = R.wide; wide_most = R.wide_most; tall = R.tall; tall_most = R.tall_most; two = omega arith; sixteen = omega arith } in
    let r : length (tiles w h space) ≤ room before = omega (arith, space_one w h R.wide R.tall, g.0.material.least) in
    let e = p.outcome.leaves in (
      made_shows (room before) w h t space after.material (ap (λ (l : Layout). l.material) e) r R (λ i j m n. omega (arith, R.two)) x y u v,
      made_shows (room before) w h 2 space after.errors (ap (λ (l : Layout). l.errors) e) r R₂ (λ i j m n. omega arith) x y u v,
      made_shows (room before) w h 2 space after.waiting (ap (λ (l : Layout). l.waiting) e) r R₂ (λ i j m n. omega arith) x y u v,
    )

pub create_size : {before after : Layout} {w h t : ℕ} → Created before w h t 0 after → (width after.material ≡ w) × (height after.material ≡ h) × (kinds after.material ≡ t)
create_size {before} {w = w} {h = h} {t = t} p =
    let e = ap (λ (l : Layout). l.material) p.outcome.leaves in
    let s = table_size (room before) w h t space in
    (ap width e ∙ s.0, ap height e ∙ s.1, ap kinds e ∙ s.2)

-- ---- paint: the area has the type, and waits; the errors are as they were
pub paint_shows : {before after : Layout} {work left : List ℕ} {a : Area} {kind : ℕ} → Painted before work a kind 0 after left
    → (x y : ℕ) → x < width before.material → y < height before.material
    → (picture_of after.material x y ≡ painted (picture_of before.material) a kind x y) × (picture_of after.waiting x y ≡ painted (picture_of before.waiting) a 1 x y)
paint_shows {before} {after} {work} {left} {a} {kind} p x y u v =
    let g = all_hold 0 (paint_refusals before work a kind) (omega arith, (omega arith, (omega arith, (omega arith, (omega arith, tt))))) p.outcome.number in
    let I = g.1.0 in
    let F = g.1.1.1.1.0 in
    let e = p.outcome.leaves in (
      painted_shows a kind I.material g.1.1.0 F.material (ap (λ (l : Layout). l.material) e) x y u v,
      painted_shows a 1 I.waiting.table (omega (arith, I.waiting.two)) F.waiting (ap (λ (l : Layout). l.waiting) e) x y (omega (arith, I.waiting.wide)) (omega (arith, I.waiting.tall)),
    )

-- whatever the answer
pub paint_errors : {before after : Layout} {work left : List ℕ} {a : Area} {kind answer : ℕ} → Painted before work a kind answer after left → after.errors ≡ before.errors
paint_errors {answer = zero} p = ap (λ (l : Layout). l.errors) p.outcome.leaves
paint_errors {answer = suc n} p = ap (λ (l : Layout). l.errors) p.outcome.leaves

pub paint_size : {before after : Layout} {work left : List ℕ} {a : Area} {kind answer : ℕ} → Painted before work a kind answer after left
    → (width after.material ≡ width before.material) × (height after.material ≡ height before.material) × (kinds after.material ≡ kinds before.material)
paint_size {before} {a = a} {kind = kind} {answer = zero} p =
    let m = before.material in
    let e = ap (λ (l : Layout). l.material) p.outcome.leaves in
    let s = table_size (room_in (length m)) (width m) (height m) (kinds m) (painted_of m a kind) in
    (ap width e ∙ s.0, ap height e ∙ s.1, ap kinds e ∙ s.2)
paint_size {answer = suc n} p =
    let e = ap (λ (l : Layout). l.material) p.outcome.leaves in
    (ap width e, ap height e, ap kinds e)
