-- Where the lengths and the tables are right, the rules' test decides (`ready_by_rules`).
use Rattle.sheet.proofs.Shapes.{ready_by_rules}
use Rattle.sheet.proofs.shape.Layout.ready.Goals as goal

pub returns : goal.returns
returns c = ready_by_rules c.if-not-one_length.ensures c.if-not-list_length.ensures c.if-not-is_layout.ensures c.vet.result c.map_err.result c.vet.ensures c.map_err.ensures.cases
