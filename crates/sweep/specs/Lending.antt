-- The layout that is lent to a run, and that the same slices stay lent.
use Rattle.std.specs.Prelude.{◌≡◌, length}
use Rattle.sweep.specs.declared.lent.Lent.{Lent}
use Rattle.sheet.specs.Layout.{Layout, lent}

-- the layout
abbrev pub layout_of : Lent → Layout
layout_of l = lent l.material.now l.errors.now l.waiting.now

-- the same slices, with the same material and a working room as long
pub record Kept (old new : Lent) : Type 0 where
  pub material : new.material.now ≡ old.material.now
  pub working : length new.work.now ≡ length old.work.now
  pub errors : new.errors.ghost_name ≡ old.errors.ghost_name
  pub waiting : new.waiting.ghost_name ≡ old.waiting.ghost_name
  pub work : new.work.ghost_name ≡ old.work.ghost_name
