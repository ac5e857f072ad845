-- The tile k, or the last that begins at the square or before it; else none where k holds the square under, or a scan.
use native.Mathlib.Omega.{arith}
use Rattle.slots.proofs.Places.{low_back, low_free, low_under}
use Rattle.slots.proofs.slots.Slots.find_low.Goals as goal

pub returns-then-i-eq0 : goal.returns-then-i-eq0
returns-then-i-eq0 c = low_free _ _ _ c.requires.sorted.order c.past.ensures c.place_of-i.ensures (λ j u. absurd (omega arith))

pub returns-then-is_under : goal.returns-then-is_under
returns-then-is_under c = low_under _ _ c.requires.sorted c.past.ensures c.place_of-i.ensures (omega arith) c.if-held_at-2.ensures c.if-held_at.ensures c.if-is_under.ensures

pub returns : goal.returns
returns c = low_back _ _ _ c.requires.sorted.order c.past.ensures c.place_of-i.ensures _ c.find_back.ensures
