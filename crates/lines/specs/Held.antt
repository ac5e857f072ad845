-- How the program's state holds the session, and what each function does to it.
use Rattle.std.specs.Prelude.{ℕ, ◌+◌, ◌*◌, ◌≤◌, ◌≡◌, List, ◌++◌, length, take}
use Rattle.text.specs.Line.{Reads}
use Rattle.text.specs.declared.writer.Writer.{Writer}
use Rattle.replies.specs.declared.reply.Reply.{Reply}
use Rattle.lines.specs.declared.state.State.{State}
use Rattle.lines.specs.Session.{Model, ended, answer_to, stepped, spoken, fed, output}

-- the state holds the session m
pub record Holds (s : State) (m : Model) : Type 0 where
  pub reads : Reads s.text m.bytes
  pub desk : s.desk.model ≡ m.desk
  pub lines : s.lines ≡ m.lines

-- a line ended
pub record LineEnded (s : State) (reply : Reply) (s' : State) : Type 0 where
  pub lines : s'.lines ≡ s.lines + 1
  pub holds : (m : Model) → Holds s m → Holds s' (ended m) × (reply ≡ (answer_to m).1)

-- a byte was taken, and what is said at it was put
pub record Stepped (s : State) (b : ℕ) (out : Writer) (s' : State) (out' : Writer) : Type 0 where
  pub lines : s'.lines ≤ s.lines + 1
  pub most : out'.at ≤ out.at + 80
  pub long : length out'.out.now ≡ length out.out.now
  pub same : out'.out.ghost_name ≡ out.out.ghost_name
  pub holds : (m : Model) → Holds s m → Holds s' (stepped m b) × (take out'.at out'.out.now ≡ take out.at out.out.now ++ spoken m b)

-- a chunk was taken: the replies to the lines that end in it are the first n bytes of out
pub record Took (s : State) (chunk : List ℕ) (s' : State) (n : ℕ) (out : List ℕ) : Type 0 where
  pub lines : s'.lines ≤ s.lines + length chunk
  pub most : n ≤ length chunk * 80
  pub within : n ≤ length out
  pub holds : (m : Model) → Holds s m → Holds s' (fed m chunk) × (take n out ≡ output m chunk)
