-- `calm`. The tile at the block's corner covers the window's squares near the block; it is space, or nothing near the block is outside the window.
use mathlib.Core.Path.{refl}
use Rattle.piece.proofs.Calms.{calm_space, calm_inside, covering}
use Rattle.piece.proofs.calm.calm.Goals as goal

pub returns-then-corner-eq0 : goal.returns-then-corner-eq0
returns-then-corner-eq0 c =
    let p = c.requires in
    let e = rw (c.width-w.ensures.value, c.height-h.ensures.value, c.of-table.ensures) at c.near_area.ensures in
    let n = rw c.of-table.ensures at c.seek.ensures in
    λ _. calm_space p.0 n.counted refl (rw c.of-table.ensures at c.tile-corner.ensures.value) (covering c.covers.result c.covers.ensures c.if-covers.true e) c.if-corner-eq0.true

pub returns-else-corner-eq0 : goal.returns-else-corner-eq0
returns-else-corner-eq0 c =
    let p = c.requires in
    let e = rw (c.width-w.ensures.value, c.height-h.ensures.value, c.of-table.ensures) at c.near_area.ensures in
    let n = rw c.of-table.ensures at c.seek.ensures in
    let I = rw (c.width-w.ensures.value, c.height-h.ensures.value, c.of-table.ensures) at c.interior.ensures in
    λ f. calm_inside p.0 n.counted refl (rw c.of-table.ensures at c.tile-corner.ensures.value) (covering c.covers.result c.covers.ensures c.if-covers.true e) (rw f at I)
