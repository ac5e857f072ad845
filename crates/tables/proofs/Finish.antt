-- The last steps of a table: the tiles built are tight, and with stitches, header and zero words they are the one table of the picture.
use Prim.Native.Nat.{ℕ, ◌+◌, ◌*◌, ◌<◌}
use native.Mathlib.Omega.{arith}
use mathlib.Core.Path.{◌≡◌, sym, ◌∙◌, ap, ap₂, subst}
use mathlib.Core.List.{List, Memᴰ}
use lib.ListN.{length, get_or}
use Rattle.plane.specs.declared.tile.Tile.{Tile}
use Rattle.plane.specs.Picture.{Picture, table, tile_words, tiles}
use Rattle.plane.specs.Strips.{Ordered, Precedes, Strip}
use Rattle.plane.specs.Words.{tile_of}
use Rattle.strips.specs.Cover.{AllBuilt, Part}
use Rattle.stitches.specs.Stitch.{StitchedTo, Tight, tiles_to}
use Rattle.tables.specs.Tables.{Cleared, Headed}
use Rattle.plane.proofs.Index.{length_up_to, mem_up_to, nth, nth_up_to, ordered_nth}
use Rattle.plane.proofs.Tables.{written_is}
use Rattle.plane.proofs.Tiling.{tiles_strips}
use Rattle.strips.proofs.Grows.{part_sorted}

module _ {w h c n : ℕ} {q : Picture} {ws : List ℕ} (B : AllBuilt w h q c ws n) where
  all_tiles : tiles_to ws n ≡ tiles w h q
  all_tiles = B.built

  strip_of : (i : ℕ) → i < n → Strip w h q (tile_of ws i)
  strip_of i u = (tiles_strips w h q).each (tile_of ws i) (subst (λ (l : List Tile). Memᴰ (tile_of ws i) l) all_tiles (mem_up_to n (tile_of ws) i u))

  before_next : (i j : ℕ) → i < j → j < n → Precedes (tile_of ws i) (tile_of ws j)
  before_next i j u v =
      let O : Ordered (tiles_to ws n) = subst (λ (l : List Tile). Ordered l) (sym all_tiles) (tiles_strips w h q).ordered in
      let P = ordered_nth (tiles_to ws n) O i j u (omega (arith, length_up_to n (tile_of ws))) in
      subst (λ (t : Tile). Precedes t (tile_of ws j)) (nth_up_to n (tile_of ws) i (omega arith)) (subst (λ (t : Tile). Precedes (nth (tiles_to ws n) i) t) (nth_up_to n (tile_of ws) j v) P)

  part_of : Part w h q ws n
  part_of = record { each = strip_of; order = before_next }

  pub built_tight : Tight ws n w h
  built_tight = record {
    box = λ i u. (strip_of i u).box;
    one = (part_sorted part_of).one;
  }

  pub built_number : n ≡ length (tiles w h q)
  built_number = sym (length_up_to n (tile_of ws)) ∙ ap length all_tiles

  pub finished : {k : ℕ} {us vs zs : List ℕ} → StitchedTo ws n us n → Headed us vs n w h k → Cleared vs zs (4 + 9 * n) → length ws ≡ 4 + 9 * c → zs ≡ table c w h k q
  unfolding table
  finished {k} {us} {vs} {zs} S H C l =
      written_is c w h k (tiles w h q) zs (omega (arith, B.few, built_number)) (C.long ∙ (H.long ∙ (S.long ∙ l)))
      (C.old 0 (omega arith) ∙ (H.number ∙ built_number)) (C.old 1 (omega arith) ∙ H.wide) (C.old 2 (omega arith) ∙ H.tall) (C.old 3 (omega arith) ∙ H.types)
      (λ i j u v. let p : i < n = omega (arith, B.few, built_number) in
      C.old (4 + 9 * i + j) (omega arith) ∙ (H.old (4 + 9 * i + j) (omega arith) ∙ (S.done i j p v ∙
      ap₂ (λ (ts : List Tile) (t : Tile). get_or (tile_words ts t) j 0) all_tiles (sym (nth_up_to n (tile_of ws) i p) ∙ ap (λ (ts : List Tile). nth ts i) all_tiles))))
      (λ m u. C.zero m (omega (arith, B.few, built_number)))
