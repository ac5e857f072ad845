-- `Chains::of`. From the last rule down, each turn chains one more.
use Rattle.edges.proofs.Chains.{chains_none, chains_down}
use native.Mathlib.Omega.{arith}
use Rattle.edges.proofs.cells.Chains.of.Goals as goal

pub loop-i-init : goal.loop-i-init
loop-i-init c = chains_none _ _ c.requires.1

pub loop-i-preserved : goal.loop-i-preserved
loop-i-preserved c = chains_down (omega arith) (omega arith) c.requires.1 c.loop-i.invariant c.put.ensures
