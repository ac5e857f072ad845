-- A plane's next tile begins where tile i ends (`down_begins`), and has another type (`down_differs`).
use mathlib.Core.Path.{sym}
use Rattle.vet.proofs.Checked.{down_begins, down_differs}
use Rattle.vet.proofs.frames.Sewn.side.Goals as goal
use Rattle.vet.proofs.frames.Sewn.side.Goals.{then-b-a-via-then-b-a, then-b-a-via-else-b-a+then-b-a-2}

pub returns-then-b-a : goal.returns-then-b-a
returns-then-b-a c = λ P. let t = c.args.self.tiles.words.now in
    let u = rw c.tile-a.ensures at c.loop-y-test.true in
    elim c.then-b-a.branch [
      | then-b-a-via-then-b-a w ↦ (rw (c.tile-a.ensures, c.tile-b.ensures) at w.if-b-a.true) (down_begins t c.args.i c.loop-y.y c.loop-y.s P c.requires c.loop-y.invariant u)
      | then-b-a-via-else-b-a+then-b-a-2 w ↦ down_differs t c.args.i c.loop-y.y c.loop-y.s P c.requires c.loop-y.invariant u (sym (rw (c.tile-a.ensures, c.tile-b.ensures) at w.if-b-a-2.true))
    ]
