-- A shared tile has the stitches of its old number, by `links_like`.
use native.Mathlib.Omega.{arith}
use Rattle.stitches.proofs.Moves.{links_like}
use Rattle.stitches.proofs.restitch.links_before.Goals as goal

pub returns-then-s-i : goal.returns-then-s-i
returns-then-s-i c = let A = c.requires.alike in links_like (A.last _ _ (omega arith) (omega (arith, A.ends, c.requires.n_in_bounds, c.if-s-i.true)) (omega (arith, c.if-s-i.true))) c.links_at-then-s-i.ensures
