-- What the steps of paint promise one another; no reader of its promise needs it.
use Rattle.std.specs.Prelude.{Option, Some, None, ℕ, ◌≡◌, List, take}
use Rattle.plane.specs.declared.tile.Area.{Area}
use Rattle.plane.specs.Refusal.{Lowest, Outcome}
use Rattle.tables.specs.Like.{table_like, HasRoom, painted_of}
use Rattle.sheet.specs.Layout.{Layout}
use Rattle.drawing.specs.Paint.{paint_refusals, painted_layout}

-- paint's refusals but for the last, want of room
abbrev pub paint_tests : Layout → List ℕ → Area → ℕ → List (ℕ × Type 0)
paint_tests before work a kind = take 4 (paint_refusals before work a kind)

-- the tests of paint
pub record PaintTested (before : Layout) (work : List ℕ) (a : Area) (kind answer : ℕ) : Type 0 where
  pub number : Lowest (paint_tests before work a kind) answer

-- material m and waiting q became m' and q': both painted
pub record BothPainted (m q : List ℕ) (a : Area) (kind : ℕ) (m' q' : List ℕ) : Type 0 where
  pub room : HasRoom m (painted_of m a kind)
  pub room_waiting : HasRoom q (painted_of q a 1)
  pub material : m' ≡ table_like m (painted_of m a kind)
  pub waiting : q' ≡ table_like q (painted_of q a 1)

-- or neither, for want of room
pub record NonePainted (m q : List ℕ) (a : Area) (kind : ℕ) (m' q' : List ℕ) : Type 0 where
  pub full : HasRoom m (painted_of m a kind) → HasRoom q (painted_of q a 1) → ⊥
  pub material : m' ≡ m
  pub waiting : q' ≡ q

abbrev pub PaintedBoth : List ℕ → List ℕ → Area → ℕ → Option (Unit {0}) → List ℕ → List ℕ → Type 0
PaintedBoth m q a kind (Some u) m' q' = BothPainted m q a kind m' q'
PaintedBoth m q a kind None m' q' = NonePainted m q a kind m' q'

-- paint, but for the working room
abbrev pub PaintedTables : Layout → List ℕ → Area → ℕ → ℕ → Layout → Type 0
PaintedTables before work a kind answer after = Outcome (paint_refusals before work a kind) before (painted_layout before a kind) answer after
