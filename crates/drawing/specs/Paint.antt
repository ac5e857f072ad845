-- What paint promises.
use Rattle.std.specs.Prelude.{ℕ, ◌<◌, ◌≡◌, List, [], ◌∷◌, length, replicate}
use Rattle.plane.specs.declared.tile.Area.{Area}
use Rattle.plane.specs.Area.{AreaIn}
use Rattle.plane.specs.Refusal.{◌unless◌, Outcome}
use Rattle.plane.specs.Words.{width, height, kinds}
use Rattle.tables.specs.Like.{table_like, HasRoom, painted_of}
use Rattle.sheet.specs.Layout.{Layout, WorkLength, IsLayout}

-- material and waiting, both painted, have no more tiles than room
pub record BothFit (l : Layout) (a : Area) (kind : ℕ) : Type 0 where
  pub material : HasRoom l.material (painted_of l.material a kind)
  pub waiting : HasRoom l.waiting (painted_of l.waiting a 1)

-- the area of the material set to a type, and the area waiting; errors stay
abbrev pub painted_layout : Layout → Area → ℕ → Layout
painted_layout l a kind = record {
  material = table_like l.material (painted_of l.material a kind);
  errors = l.errors;
  waiting = table_like l.waiting (painted_of l.waiting a 1);
}

-- when paint says no
abbrev pub paint_refusals : Layout → List ℕ → Area → ℕ → List (ℕ × Type 0)
paint_refusals before work a kind =
    1 unless WorkLength before work
    ∷ 3 unless IsLayout before
    ∷ 5 unless (kind < kinds before.material)
    ∷ 6 unless AreaIn (width before.material) (height before.material) a
    ∷ 7 unless BothFit before a kind
    ∷ []

-- paint on the slices `before` and the working room: its number, and the slices afterwards
pub record Painted (before : Layout) (work : List ℕ) (a : Area) (kind answer : ℕ) (after : Layout) (work_after : List ℕ) : Type 0 where
  pub outcome : Outcome (paint_refusals before work a kind) before (painted_layout before a kind) answer after
  pub zero : work_after ≡ replicate (length work) 0
