-- A row read run by run: what is left of it is known to be of the same row, and the next run is the row's.
use Prim.Native.Nat.{ℕ, ◌≤◌}
use native.Mathlib.Omega.{arith}
use mathlib.Core.List.{List}
use mathlib.Core.Path.{◌≡◌, ◌∙◌}
use Rattle.piece.specs.declared.run.Run.{Run}
use Rattle.piece.specs.declared.run.Runs.{Runs}
use Rattle.piece.specs.Runs.{RunAt, RowLeft}

module _ {ws : List ℕ} {x1 y x2 : ℕ} {s : Runs} (L : RowLeft ws x1 y x2 s) where
  pub run_here : {r : Run} → RunAt s.table.now s.x s.y s.end r → RunAt ws s.x y x2 r
  run_here r = rw (L.words, L.row, L.last) at r

  pub left_more : {r : Run} {t : Runs} → RunAt s.table.now s.x s.y s.end r × (t.table.now ≡ s.table.now) × (t.x ≡ r.end) × (t.y ≡ s.y) × (t.end ≡ s.end) → RowLeft ws x1 y x2 t
  left_more h = record { words = h.1 ∙ L.words; row = h.3 ∙ L.row; last = h.4 ∙ L.last; from = omega (arith, h.0.some, h.2, L.from); to = omega (arith, h.0.most, h.2, L.last) }

  -- at its end the row is read
  pub left_none : s.end ≤ s.x → s.x ≡ x2
  left_none e = omega (arith, L.last, L.to)
