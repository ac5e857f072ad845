-- The session as a machine over the bytes of its input: what it holds, and what it writes.
use Rattle.std.specs.Prelude.{ℕ, ◌+◌, Bool, true, false, cond, Option, None, List, [], ◌∷◌, ◌++◌, eqb}
use Rattle.text.specs.Line.{too_long}
use Rattle.commands.specs.Command.{command_of}
use Rattle.replies.specs.Reply.{reply_bytes}
use Rattle.commands.specs.declared.command.Command.{Command}
use Rattle.replies.specs.declared.reply.Reply.{Reply}
use Rattle.desk.specs.Model as desk

-- the bytes of the line so far, the desk, and how many lines have ended
pub record Model : Type 0 where
  pub bytes : List ℕ
  pub desk : desk.Model
  pub lines : ℕ

-- nothing read, no layout, no rules
abbrev pub start : Model
start = record { bytes = []; desk = desk.blank; lines = 0 }

-- the command of a line: none if it is over 200 bytes
abbrev pub command_in : List ℕ → Option Command
command_in p = cond (too_long p) None (command_of p)

-- the desk after the line that was read, and the reply to it
abbrev pub answer_to : Model → desk.Model × Reply
answer_to m = desk.answered m.desk (m.lines + 1) (command_in m.bytes)

-- a line ends
abbrev pub ended : Model → Model
ended m = record { bytes = []; desk = (answer_to m).0; lines = m.lines + 1 }

-- what is written at its end
abbrev pub said_to : Model → List ℕ
said_to m = reply_bytes (answer_to m).1

-- a byte of a line
abbrev pub longer : Model → ℕ → Model
longer m b = record { bytes = m.bytes ++ (b ∷ []); desk = m.desk; lines = m.lines }

-- a byte, byte 10 being a line end, and what is written at it
abbrev pub stepped : Model → ℕ → Model
stepped m b = cond (eqb b 10) (ended m) (longer m b)

abbrev pub spoken : Model → ℕ → List ℕ
spoken m b = cond (eqb b 10) (said_to m) []

-- bytes, one after the other, and what is written at them
unfoldable pub fed : Model → List ℕ → Model
fed m [] = m
fed m (b ∷ l) = fed (stepped m b) l

unfoldable pub output : Model → List ℕ → List ℕ
output m [] = []
output m (b ∷ l) = spoken m b ++ output (stepped m b) l

-- has the line any bytes
abbrev pub begun : List ℕ → Bool
begun [] = false
begun (b ∷ l) = true

-- what is written at the end of the input: a last line may lack its line end
abbrev pub last_words : Model → List ℕ
last_words m = cond (begun m.bytes) (said_to m) []

-- what it holds then: the last line has ended
abbrev pub closed : Model → Model
closed m = cond (begun m.bytes) (ended m) m

-- all that the program writes on an input
abbrev pub written : List ℕ → List ℕ
written input = output start input ++ last_words (fed start input)
