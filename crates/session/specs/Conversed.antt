-- What a turn and the whole session promise.
use Rattle.std.specs.Prelude.{ℕ, ◌+◌, ◌^◌, ◌≤◌, ◌<◌, true, ◌≡◌, List, ◌++◌, length, Option}
use Rattle.std.specs.Io.KnownBytes.{Appends, Consumes}
use Rattle.session.specs.declared.wire.Wire.{Wire}
use Rattle.session.specs.declared.turn.Session.{Session}
use Rattle.lines.specs.Session.{Model, fed, output, written}
use Rattle.lines.specs.Held.{Holds}
use Rattle.session.specs.Wire.{Passed, heard_in, said_in, Carried}
use Rattle.session.specs.Exchange.{exchange, talk}

-- a turn: a chunk was heard and taken, and the replies to the lines that end in it were said; an open wire has heard some bytes
pub record Turned (x y : Session) : Type 0 where
  pub chunk : List ℕ
  pub few : length chunk ≤ 512
  pub some : y.wire.open ≡ true → 0 < length chunk
  pub lines : y.state.lines ≤ x.state.lines + 512
  pub ins : y.wire.heard ≤ x.wire.heard + 512
  pub outs : y.wire.said ≤ x.wire.said + 40960
  pub holds : (m : Model) → Holds x.state m → Holds y.state (fed m chunk) × ((log : List Passed) → Carried x.wire log → Carried y.wire (log ++ exchange m chunk))

-- the whole session: what was said is what `written` says of what was heard, and it ended since the wire was closed, or after 2^48 bytes
pub record Conversed (w : Wire) : Type 0 where
  pub chunks : List (List ℕ)
  pub passed : Carried w (talk chunks)
  pub answers : said_in (talk chunks) ≡ written (heard_in (talk chunks))
  pub ended : w.open ≡ true → 2 ^ 48 ≤ length (heard_in (talk chunks))

-- ---- at a reader and a writer: left is what the reader has left to give and held what the writer holds, where that is known
-- a turn: what was heard is what the reader lost, and what was said is what the writer gained if no write has failed
pub record TurnedAt (x y : Session) (left left' held held' : Option (List ℕ)) : Type 0 where
  pub turned : Turned x y
  pub taken : Consumes left left' turned.chunk
  pub put : y.wire.whole ≡ true → (x.wire.whole ≡ true) × ((m : Model) → Holds x.state m → Appends held held' (output m turned.chunk))

-- the whole session
pub record ConversedAt (w : Wire) (left left' held held' : Option (List ℕ)) : Type 0 where
  pub conversed : Conversed w
  pub taken : Consumes left left' (heard_in (talk conversed.chunks))
  pub put : w.whole ≡ true → Appends held held' (said_in (talk conversed.chunks))
