-- Worked replies, by computing.
use Rattle.std.specs.Prelude.{◌≡◌, refl, [], ◌∷◌}
use Rattle.text.specs.Decimal.{decimal_in}
use Rattle.replies.specs.Reply.{reply_bytes}
use Rattle.replies.specs.declared.reply.Reply.TheVariants as R

-- a refusal: `no 6 13`
pub refused : reply_bytes (R.No 6 13) ≡ 110 ∷ 111 ∷ 32 ∷ 54 ∷ 32 ∷ 49 ∷ 51 ∷ 10 ∷ []
unfolding decimal_in
refused = refl

-- a check: `check 0 1 0`
pub checked : reply_bytes (R.Check 0 1 0) ≡ 99 ∷ 104 ∷ 101 ∷ 99 ∷ 107 ∷ 32 ∷ 48 ∷ 32 ∷ 49 ∷ 32 ∷ 48 ∷ 10 ∷ []
unfolding decimal_in
checked = refl

-- a report: `report 1 5 1`
pub reported : reply_bytes (R.Report 1 5 1) ≡ 114 ∷ 101 ∷ 112 ∷ 111 ∷ 114 ∷ 116 ∷ 32 ∷ 49 ∷ 32 ∷ 53 ∷ 32 ∷ 49 ∷ 10 ∷ []
unfolding decimal_in
reported = refl
