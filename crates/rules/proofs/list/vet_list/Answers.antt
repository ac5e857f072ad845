-- `vet_list`. Where neither the length nor T speaks against the list, the rules' test decides.
use Rattle.rules.proofs.Vetted.{list_vetted}
use Rattle.rules.proofs.list.vet_list.Goals as goal

pub returns : goal.returns
returns c = list_vetted c.args.rules.words.now c.args.rules.used c.args.t c.vet.result c.map_err.result c.in_ok-list_tests.ensures c.vet.ensures c.map_err.ensures.cases
