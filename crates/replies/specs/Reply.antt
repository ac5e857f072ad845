-- The session's reply lines, as bytes with their line end (byte 10).
use Rattle.std.specs.Prelude.{List, [], ◌∷◌, ◌++◌, ℕ}
use Rattle.text.specs.Decimal.{decimal}
use Rattle.replies.specs.declared.reply.Reply.{Reply}
use Rattle.replies.specs.declared.reply.Reply.TheVariants.{Ok, No, Check, Report}

-- a blank and a number
abbrev pub spaced : ℕ → List ℕ
spaced n = 32 ∷ decimal n

-- the end of a line: numbers, each behind a blank, and the line end
abbrev pub ended : List ℕ → List ℕ
ended [] = 10 ∷ []
ended (n ∷ ns) = spaced n ++ ended ns

-- `ok`, `no number line`, `check answer done left`, `report settled squares tiles`
abbrev pub reply_bytes : Reply → List ℕ
reply_bytes Ok = 111 ∷ 107 ∷ 10 ∷ []
reply_bytes (No n l) = (110 ∷ 111 ∷ []) ++ (spaced n ++ (spaced l ++ (10 ∷ [])))
reply_bytes (Check a d l) = (99 ∷ 104 ∷ 101 ∷ 99 ∷ 107 ∷ []) ++ (spaced a ++ (spaced d ++ (spaced l ++ (10 ∷ []))))
reply_bytes (Report s q t) = (114 ∷ 101 ∷ 112 ∷ 111 ∷ 114 ∷ 116 ∷ []) ++ (spaced s ++ (spaced q ++ (spaced t ++ (10 ∷ []))))
