-- `Marker::mark_pair`. Each turn adds one rule of the cell more, and those up to the next mark nothing.
use Rattle.edges.proofs.Chains.{first_of, next_of, chain_start, chain_more}
use mathlib.Core.Path.{◌∙◌}
use Rattle.edges.proofs.near.Marker.mark_pair.Goals as goal

pub loop-i-init : goal.loop-i-init
loop-i-init c =
    rw (← c.self.view_is)
    (let N = first_of c.self.invariant.1 c.args.a c.args.b c.cell_of.ensures.0 c.from-i.ensures in
    (N.own, chain_start _ _ _ _ _ c.args.s.steps c.args.s.low (rw (← c.self.view_is) at c.requires) N))

pub loop-i-preserved : goal.loop-i-preserved
loop-i-preserved c =
    let I = rw (← c.self.view_is) at c.loop-i.invariant in
    rw (← c.self.view_is)
    (let N = next_of c.self.invariant.1 c.loop-i.i c.loop-i-test.true c.from-i-in-loop-i.ensures in (
      λ u. N.own u ∙ I.0 c.loop-i-test.true,
      chain_more _ _ _ _ _ c.args.s.steps c.args.s.low (rw (← c.self.view_is) at c.requires) c.loop-i-test.true (I.0 c.loop-i-test.true) N I.1 (rw (← c.self.view_is) at c.mark_nth.ensures),
    ))
