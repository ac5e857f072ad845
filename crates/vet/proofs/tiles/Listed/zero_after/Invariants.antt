-- `all` says whether the words passed behind the last tile are zero.
use Rattle.std.proofs.Common.{ℕ, ◌≤◌, ◌<◌, ◌+◌, ◌*◌, ◌≡◌, get_or}
use Rattle.plane.specs.Words.{count, Says}
use Rattle.vet.proofs.tiles.Listed.zero_after.Given as goal

abbrev pub invariant-loop-word : goal.invariant-loop-word
invariant-loop-word l = Says l.all ((j : ℕ) → 4 + 9 * count l.self.words.now ≤ j → j < 4 + 9 * count l.self.words.now + l.word-index → get_or l.self.words.now j 0 ≡ 0)
