-- A row is a turn by itself; a piece done and one without room are one law each.
use Rattle.sweep.proofs.Turns.{lowest_piece_lem, turn_done, turn_full}
use mathlib.Core.Path.{refl}
use Rattle.sweep.proofs.lent.Lent.one_turn.Goals as goal

pub check_piece-requires : goal.check_piece-requires
check_piece-requires c = lowest_piece_lem c.requires.fit c.requires.lowest c.requires.working

pub returns-in-Some-clause-turned : goal.returns-in-Some-clause-turned
returns-in-Some-clause-turned c = turn_done c.requires.fit c.requires.lowest c.requires.some (rw c.in-Some.is at c.check_piece.ensures.tried) refl

pub returns-in-None-clause-turned : goal.returns-in-None-clause-turned
returns-in-None-clause-turned c = turn_full c.requires.fit c.requires.lowest c.requires.some (rw c.in-None.is at c.check_piece.ensures.tried) refl
