-- `turn`. The chunk is what hear left at the start of the buffer, and what say is handed is what feed left at the start of `out`.
use Rattle.session.proofs.Turns.{turned_at}
use Rattle.session.proofs.turn.Session.turn.Goals as goal

pub returns : goal.returns
returns g c =
    let h = c.hear-k.ensures in
    let s = c.say.ensures in
    turned_at c.hear-k.auto.buf h.hears c.feed-n.ensures s.says h.taken h.whole s.put
