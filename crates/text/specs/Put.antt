-- Bytes put into a lent slice: the one contract of everything that appends.
use Rattle.std.specs.Prelude.{◌≡◌, List, ◌++◌, ℕ, ◌+◌, ◌≤◌, length, take, drop}
use Rattle.text.specs.declared.writer.Writer.{Writer}

-- bs are put at `at`: what stands before and after them stays, and r is the place after them
pub record Put (before after : List ℕ) (at r : ℕ) (bs : List ℕ) : Type 0 where
  pub next : r ≡ at + length bs
  pub is : take r after ≡ take at before ++ bs
  pub rest : drop r after ≡ drop r before

-- a writer has room for n bytes more
abbrev pub Room : Writer → ℕ → Type 0
Room w n = w.at + n ≤ length w.out.now

-- a writer has put bs, and goes on behind them in the same slice
pub record Puts (w w' : Writer) (bs : List ℕ) : Type 0 where
  pub put : Put w.out.now w'.out.now w.at w'.at bs
  pub long : length w'.out.now ≡ length w.out.now
  pub same : w'.out.ghost_name ≡ w.out.ghost_name
