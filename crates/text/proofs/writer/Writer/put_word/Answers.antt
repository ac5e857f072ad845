-- `put_word`. The word stands where it was copied to.
use Rattle.std.proofs.Common.{refl, arith, rules}
use Rattle.text.proofs.Puts.{put_slice}
use Rattle.text.proofs.writer.Writer.put_word.Goals as goal

pub returns : goal.returns
returns c = record { put = put_slice _ _ _ _ _ c.requires (omega arith) c.copy_from_slice.ensures.after; long = search rules; same = refl }
