-- By what the walk found (`pointed_by_walk`).
use Rattle.ask.proofs.Asked.{pointed_by_walk}
use Rattle.ask.proofs.query.point_at.Goals as goal

pub returns : goal.returns
returns c = let t = c.in_ok-table.ensures in rw c.ok_or.ensures.value (pointed_by_walk t.answer c.find.result (rw t.table.0 at c.find.ensures))
