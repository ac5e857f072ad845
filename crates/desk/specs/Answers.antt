-- What a command is answered with.
use Rattle.std.specs.Prelude.{ℕ, Bool, true, false, Result, Ok, Err}
use Rattle.plane.specs.Answers.{refusal_number}
use Rattle.replies.specs.declared.reply.Reply.{Reply}
use Rattle.replies.specs.declared.reply.Reply.TheVariants as reply
use Rattle.desk.specs.declared.state.Refused.{Refused}
use Rattle.desk.specs.declared.state.Refused.TheVariants.{By, OutOfTurn, Unknown}

-- the number of a refusal
abbrev pub refused_number : Refused → ℕ
refused_number (By why) = refusal_number why
refused_number OutOfTurn = 8
refused_number Unknown = 9

-- the reply to a command on a line
abbrev pub told : Result Reply Refused → ℕ → Reply
told (Ok r) line = r
told (Err why) line = reply.No (refused_number why) line

-- rules are not taken after a paint
abbrev pub may_rule : Bool → Result (Unit {0}) Refused
may_rule true = Err OutOfTurn
may_rule false = Ok tt
