-- Tests that decide a call's conditions give the call's number: the lowest whose condition is broken is that of the first test that fails.
use Prim.Native.Nat.{ℕ, ◌≤◌, ◌<◌}
use mathlib.Core.Bool.{Bool, true, false, cond, ◌&&◌}
use mathlib.Core.Path.{◌≡◌, refl, sym, ◌∙◌}
use mathlib.Core.Logic.{◌⊎◌, inl, inr}
use mathlib.Core.List.{List, [], ◌∷◌}
use lib.Dec.{leb, ltb}
use lib.ListN.{length}
use borrow.Author.Tests.{leb-true, le-leb, ltb-true, lt-ltb}
use Rattle.plane.specs.declared.tile.Area.{Area}
use Rattle.plane.specs.Area.{AreaIn}
use Rattle.plane.specs.Refusal.{Lowest}
use Rattle.plane.specs.Picture.{tiles}
use Rattle.plane.specs.Words.{width, height, room_in, InRange}
use Rattle.plane.proofs.Basics.{tf, and_left, and_right, and_both}
use Rattle.tables.specs.Like.{HasRoom, painted_of}
use Rattle.sheet.specs.Layout.{Layout}
use Rattle.drawing.specs.Paint.{BothFit}
use Rattle.desk.specs.Tests.{first_no, in_range, area_in, has_room, both_fit}

-- a test decides a condition
pub record Decides (b : Bool) (P : Type 0) : Type 0 where
  pub holds : b ≡ true → P
  pub back : P → b ≡ true

-- ---- the number
-- the tests decide the conditions, one by one and under the same numbers
abbrev pub AllDecide : List (ℕ × Type 0) → List (ℕ × Bool) → Type 0
AllDecide [] [] = Unit {0}
AllDecide [] (b ∷ bs) = ⊥
AllDecide (c ∷ cs) [] = ⊥
AllDecide (c ∷ cs) (b ∷ bs) = (c.0 ≡ b.0) × (Decides b.1 c.1 × AllDecide cs bs)

first : (b : Bool) {P Q : Type 0} {n m k a : ℕ} → n ≡ m → Decides b P → (Q → a ≡ k) → ((P → ⊥) × (a ≡ n)) ⊎ (P × Q) → a ≡ cond b k m
first true e D q (inl p) = absurd (p.0 (D.holds refl))
first true e D q (inr p) = q p.1
first false e D q (inl p) = p.1 ∙ e
first false e D q (inr p) = tf (sym (D.back p.0))

pub decided : (cs : List (ℕ × Type 0)) (bs : List (ℕ × Bool)) {a : ℕ} → AllDecide cs bs → Lowest cs a → a ≡ first_no bs
decided [] [] D p = p
decided [] (b ∷ bs) D p = absurd D
decided (c ∷ cs) [] D p = absurd D
decided (c ∷ cs) (b ∷ bs) D p = first b.1 D.0 D.1.0 (decided cs bs D.1.1) p

-- a condition that holds is no reason
pub passed : (c : ℕ × Type 0) (cs : List (ℕ × Type 0)) {a : ℕ} → c.1 → Lowest (c ∷ cs) a → Lowest cs a
passed c cs h (inl p) = absurd (p.0 h)
passed c cs h (inr p) = p.1

-- ---- the tests
pub test_is : (b : Bool) → Decides b (b ≡ true)
test_is b = record { holds = λ e. e; back = λ e. e }

pub leb_is : (x y : ℕ) → Decides (leb x y) (x ≤ y)
leb_is x y = record { holds = leb-true x y; back = le-leb x y }

pub ltb_is : (x y : ℕ) → Decides (ltb x y) (x < y)
ltb_is x y = record { holds = ltb-true x y; back = lt-ltb x y }

pair : {b c : Bool} {P Q : Type 0} → Decides b P → Decides c Q → Decides (b && c) (P × Q)
pair {b} {c} D E = record { holds = λ e. (D.holds (and_left b c e), E.holds (and_right b c e)); back = λ p. and_both b c (D.back p.0) (E.back p.1) }

read_as : {b : Bool} {P Q : Type 0} → (P → Q) → (Q → P) → Decides b P → Decides b Q
read_as f g D = record { holds = λ e. f (D.holds e); back = λ q. D.back (g q) }

pub range_is : (w h t : ℕ) → Decides (in_range w h t) (InRange w h t)
unfolding in_range
range_is w h t =
    read_as (λ x. record { wide = x.0.0; wide_most = x.0.1; tall = x.1.0.0; tall_most = x.1.0.1; two = x.1.1.0; sixteen = x.1.1.1 })
    (λ r. ((r.wide, r.wide_most), ((r.tall, r.tall_most), (r.two, r.sixteen))))
    (pair (pair (leb_is 1 w) (leb_is w 4096)) (pair (pair (leb_is 1 h) (leb_is h 4096)) (pair (leb_is 2 t) (leb_is t 16))))

pub area_is : (w h : ℕ) (a : Area) → Decides (area_in w h a) (AreaIn w h a)
unfolding area_in
area_is w h a =
    read_as (λ x. record { some_x = x.0.0; some_y = x.0.1; in_x = x.1.0; in_y = x.1.1 }) (λ r. ((r.some_x, r.some_y), (r.in_x, r.in_y)))
    (pair (pair (ltb_is a.x1 a.x2) (ltb_is a.y1 a.y2)) (pair (leb_is a.x2 w) (leb_is a.y2 h)))

room_is : (ws : List ℕ) (a : Area) (k : ℕ) → Decides (has_room ws a k) (HasRoom ws (painted_of ws a k))
unfolding has_room
room_is ws a k = leb_is (length (tiles (width ws) (height ws) (painted_of ws a k))) (room_in (length ws))

pub fit_is : (l : Layout) (a : Area) (k : ℕ) → Decides (both_fit l a k) (BothFit l a k)
unfolding both_fit
fit_is l a k = read_as (λ x. record { material = x.0; waiting = x.1 }) (λ r. (r.material, r.waiting)) (pair (room_is l.material a k) (room_is l.waiting a 1))
