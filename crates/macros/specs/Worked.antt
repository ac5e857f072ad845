-- The counts of rules of a worked plane, by computing. Worked squares stand in the list of layout/specs/Worked.
use Rattle.std.specs.Prelude.{◌≡◌, refl, List, ◌++◌, length}
use Rattle.rules.specs.declared.rule.Rule.{Rule}
use Rattle.macros.specs.Macros.{width, spacing}

-- A poly-diffusion plane: types 0 to 7 are space, d, p, D, P, B, e and f, so bits 1, 2, 4, 8, 16, 32, 64 and 128.
-- Its width rows: dDBef, pPBef, D, P, B, e and f; the reason is the row's number.
unfoldable pub width_rows : List Rule
unfolding width
width_rows = width 8 234 2 0 ++ width 8 244 2 1 ++ width 8 8 4 3 ++ width 8 16 4 4 ++ width 8 32 2 5 ++ width 8 64 2 6 ++ width 8 128 2 7

-- Its spacing rows: ef to DP, e to f and B to e, which never touch, then dDBef and pPBef to themselves, which may.
unfoldable pub spacing_rows : List Rule
unfolding spacing
spacing_rows = spacing 8 192 24 1 0 0 ++ spacing 8 64 128 3 0 1 ++ spacing 8 32 64 3 0 2 ++ spacing 8 234 234 3 1 3 ++ spacing 8 244 244 2 1 4

pub counts : (length width_rows ≡ 65) × (length spacing_rows ≡ 82)
unfolding width_rows spacing_rows
counts = (refl, refl)
