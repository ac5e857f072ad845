-- A window of space has one strip, and so the table of space is that tile with its header.
use Prim.Native.Nat.{ℕ, ◌≤◌}
use native.Mathlib.Omega.{arith}
use mathlib.Core.Path.{◌≡◌, refl, sym, ◌∙◌, ap, subst}
use mathlib.Core.List.Memᴰ
use mathlib.Core.List.{List, [], ◌∷◌}
use lib.ListN.{length}
use Rattle.plane.specs.declared.tile.Tile.{Tile}
use Rattle.plane.specs.Picture.{space, table, tiles}
use Rattle.plane.specs.Strips.{Strip, Strips}
use Rattle.plane.specs.Words.{InRange, IsTable, up_to}
use Rattle.strips.specs.Cover.{AllBuilt}
use Rattle.slots.specs.Slots.{PutTile}
use Rattle.plane.proofs.Tiling.{strips_are_tiles}
use Rattle.tables.proofs.Whole.{made_table}

-- the one tile
abbrev pub whole : ℕ → ℕ → Tile
whole w h = record { left = 0; bottom = 0; right = w; top = h; kind = 0 }

whole_strip : (w h : ℕ) → 1 ≤ w → 1 ≤ h → Strip w h space (whole w h)
whole_strip w h a b = record {
  box = record { wide = a; tall = b; inside = omega arith; under = omega arith };
  rows = λ y u v. record { all = λ x i j. refl; start = λ i e. absurd (omega arith); stop = λ i e. absurd (omega arith) };
  below = λ u r. absurd (omega arith);
  above = λ u r. absurd (omega arith);
}

whole_strips : (w h : ℕ) → 1 ≤ w → 1 ≤ h → Strips w h space (whole w h ∷ [])
whole_strips w h a b = record {
  ordered = ((λ u m. absurd (Memᴰ.not-nil m)), tt);
  each = λ t m. subst (λ (u : Tile). Strip w h space u) (sym (Memᴰ.eq_of_singleton m)) (whole_strip w h a b);
  cover = λ x y u v. (whole w h, Memᴰ.head refl, record { from_left = omega arith; to_right = u; from_bottom = omega arith; to_top = v });
}

-- the tile put is all that is built
pub space_built : {w h c : ℕ} {us ws : List ℕ} → PutTile us ws 0 (whole w h) → 1 ≤ w → 1 ≤ h → 1 ≤ c → AllBuilt w h space c ws 1
unfolding up_to
space_built {w} {h} {c} {us} {ws} P a b d = record {
  few = d;
  built = ap (λ (t : Tile). t ∷ []) P.new ∙ strips_are_tiles w h space (whole w h ∷ []) (whole_strips w h a b);
}

pub space_one : (w h : ℕ) → 1 ≤ w → 1 ≤ h → length (tiles w h space) ≡ 1
space_one w h a b = ap length (sym (strips_are_tiles w h space (whole w h ∷ []) (whole_strips w h a b)))

-- and so it is a table
pub space_is_table : {c w h k : ℕ} → 1 ≤ c → InRange w h k → IsTable c (table c w h k space)
space_is_table {c} {w} {h} {k} r R =
    made_table c w h k space (table c w h k space) refl (omega (arith, space_one w h R.wide R.tall)) R (λ x y u v. omega (arith, R.two))
