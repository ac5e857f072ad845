-- A plane's next tile at the border stands on the last (`border_next`).
use native.Mathlib.Omega.{arith}
use mathlib.Core.Path.{sym, ◌∙◌, ap}
use Rattle.plane.specs.declared.tile.Tile.{Tile}
use Rattle.vet.proofs.Checked.{border_past, border_more, border_next}
use Rattle.vet.proofs.tiles.Listed.column.Goals as goal
use Rattle.vet.proofs.tiles.Listed.column.Goals.{then-a-eq0+else-a-edge, else-a-eq0}

pub returns-then-a-edge : goal.returns-then-a-edge
returns-then-a-edge c = let l = c.loop-i in
    let e = c.tile-a.ensures in
    λ P. c.if-a-edge.true (ap (λ (a : Tile). a.bottom) e ∙ border_next _ l.edge l.i P (omega arith) l.invariant (sym (ap (λ (a : Tile). a.left) e) ∙ c.if-a-eq0.true))

pub loop-i-preserved : goal.loop-i-preserved
loop-i-preserved c = let l = c.loop-i in
    let t = c.args.self.words.now in
    let e = c.tile-a.ensures in
    elim c.if-a-eq0.branch [
      | then-a-eq0+else-a-edge w ↦ rw (w.edge-is ∙ ap (λ (a : Tile). a.top) e)
          (border_more t l.edge l.i c.requires (omega arith) l.invariant (sym (ap (λ (a : Tile). a.left) e) ∙ w.if-a-eq0.true) (sym (ap (λ (a : Tile). a.bottom) e) ∙ w.if-a-edge.false))
      | else-a-eq0 w ↦ rw w.edge-is (border_past t l.edge l.i l.invariant (λ q. w.if-a-eq0.false (ap (λ (a : Tile). a.left) e ∙ q)))
    ]
