-- Worked squares: small drawings whose tables, errors and counts of pieces were found by hand, as one list, and the one claim that all of them hold, by computing.
-- Each is run on the tables' words, through what the calls' statements are made of: fresh, painted_layout, the macros, check_run, and the full check's errors.
use Rattle.std.specs.Prelude.{ℕ, Bool, cond, ◌&&◌, ◌≡◌, refl, List, [], ◌∷◌, eqb, leb, length}
use Rattle.plane.specs.declared.tile.Area.{Area}
use Rattle.plane.specs.Picture.{Picture, joined, extent, area, painted, tiles, table, sum_to}
use Rattle.plane.specs.Words.{picture_of, up_to, kind_in}
use Rattle.tables.specs.Like.{painted_of}
use Rattle.rules.specs.declared.rule.Rule.{Rule}
use Rattle.rules.specs.Forbid.{errors}
use Rattle.macros.specs.Macros.{width, spacing}
use Rattle.rules.specs.Some.{some, Every}
use Rattle.rules.specs.Words.{words_of, rules_of, halo_of}
use Rattle.waits.specs.Pieces.{some_in, pieces, in_window, waits_at, piece_waits, waiting_pieces, lowest_piece, lowest_block}
use Rattle.piece.specs.Remark.{remarked, near_block}
use Rattle.sweep.specs.Run.{check_run, CheckLeft, ran_check}
use Rattle.drawing.specs.Create.{fresh}
use Rattle.sheet.specs.Layout.{Layout}
use Rattle.drawing.specs.Paint.{painted_layout}

-- ---- what a line is about
-- a window w by h with t types, the room of its tables, and areas painted in turn, each with its type
pub record Drawing : Type 0 where
  pub w : ℕ
  pub h : ℕ
  pub t : ℕ
  pub room : ℕ
  pub paints : List (Area × ℕ)

-- has a picture no more tiles than the drawing has room
abbrev pub fits : Drawing → Picture → Bool
fits d p = leb (length (tiles d.w d.h p)) d.room

-- a layout after paint, whose areas and types are good here: painted where both tables have room
abbrev pub stroke : Drawing → Layout → Area → ℕ → Layout
stroke d l a k = cond (fits d (painted_of l.material a k) && fits d (painted_of l.waiting a 1)) (painted_layout l a k) l

-- a layout after paints in turn
unfoldable pub strokes : Drawing → Layout → List (Area × ℕ) → Layout
strokes d l [] = l
strokes d l (s ∷ ss) = strokes d (stroke d l s.0 s.1) ss

-- the layout of a drawing: create, and then its paints
unfoldable pub drawn : Drawing → Layout
unfolding strokes table painted up_to kind_in
drawn d = strokes d (fresh d.room d.w d.h d.t) d.paints

-- how many pieces of it wait
unfoldable pub waiting : Drawing → ℕ
unfolding drawn waiting_pieces pieces piece_waits some_in waits_at in_window some sum_to
waiting d = waiting_pieces d.w d.h (picture_of (drawn d).waiting)

-- what check n answers and leaves, with a rule list lent as its words
unfoldable pub checked : Drawing → List Rule → ℕ → CheckLeft
unfolding waiting check_run lowest_block lowest_piece extent remarked near_block words_of rules_of halo_of
checked d rs n = ran_check (check_run n (rules_of (words_of rs) (length rs)) (halo_of (words_of rs) (length rs)) (drawn d))

-- the squares that a table of errors records, by row and then column
unfoldable pub recorded : Drawing → List ℕ → List (ℕ × ℕ)
unfolding joined
recorded d ws = joined d.h λ y. joined d.w λ x. cond (eqb (picture_of ws x y) 1) ((x, y) ∷ []) []

-- ---- what a line says
pub data Line : Type 0 where
  table_is : Drawing → List ℕ → Line
  errors_are : Drawing → List Rule → List (ℕ × ℕ) → Line
  wait leaves : Drawing → ℕ → Line
  changes_nothing : Drawing → Line

-- the material has these words; the full check marks these squares, and check 1 of the one piece records them;
-- so many pieces wait; check 1 leaves so many; check 0 changes nothing
abbrev pub Holds : Line → Type 0
Holds (table_is d ws) = (drawn d).material ≡ ws
Holds (errors_are d rs qs) = (errors d.w d.h (picture_of (drawn d).material) rs ≡ qs) × (recorded d (checked d rs 1).layout.errors ≡ qs)
Holds (wait d n) = waiting d ≡ n
Holds (leaves d n) = (checked d [] 1).left ≡ n
Holds (changes_nothing d) = (checked d [] 0).layout ≡ drawn d

-- ---- the lines
-- window 8 by 8, T = 2, unless said; one area painted 1, or two
abbrev one : Area → Drawing
one a = record { w = 8; h = 8; t = 2; room = 9; paints = (a, 1) ∷ [] }

abbrev two : Area → Area → Drawing
two a b = record { w = 8; h = 8; t = 2; room = 9; paints = (a, 1) ∷ (b, 1) ∷ [] }

-- 40 by 20, paint 15 0 17 1 1
abbrev bar : Drawing
bar = record { w = 40; h = 20; t = 2; room = 4; paints = (area 15 0 17 1, 1) ∷ [] }

-- "Gap" is spacing 2 2 2 1
unfoldable pub gap : List Rule
unfolding spacing
gap = spacing 2 2 2 2 1 0

-- "wide" is width 2 2
unfoldable pub wide : List Rule
unfolding width
wide = width 2 2 2 0

-- the lines; a table is a header of four words, and nine words a tile
abbrev pub lines : List Line
lines =
    table_is (record { w = 4; h = 2; t = 2; room = 3; paints = (area 1 0 2 2, 1) ∷ [] }) (3 ∷ 4 ∷ 2 ∷ 2 ∷
    0 ∷ 0 ∷ 1 ∷ 2 ∷ 0 ∷ 65535 ∷ 65535 ∷ 1 ∷ 65535 ∷
    1 ∷ 0 ∷ 2 ∷ 2 ∷ 1 ∷ 65535 ∷ 0 ∷ 2 ∷ 65535 ∷
    2 ∷ 0 ∷ 4 ∷ 2 ∷ 0 ∷ 65535 ∷ 1 ∷ 65535 ∷ 65535 ∷ [])
    ∷ table_is (record { w = 3; h = 2; t = 2; room = 3; paints = (area 0 1 1 2, 1) ∷ [] }) (3 ∷ 3 ∷ 2 ∷ 2 ∷
    0 ∷ 0 ∷ 3 ∷ 1 ∷ 0 ∷ 65535 ∷ 65535 ∷ 65535 ∷ 2 ∷
    0 ∷ 1 ∷ 1 ∷ 2 ∷ 1 ∷ 0 ∷ 65535 ∷ 2 ∷ 65535 ∷
    1 ∷ 1 ∷ 3 ∷ 2 ∷ 0 ∷ 0 ∷ 1 ∷ 65535 ∷ 65535 ∷ [])
    ∷ errors_are (two (area 1 1 3 6) (area 4 1 6 6)) gap ((4, 1) ∷ (4, 2) ∷ (4, 3) ∷ (4, 4) ∷ (4, 5) ∷ [])
    ∷ errors_are (two (area 1 1 3 6) (area 5 1 7 6)) gap []
    ∷ errors_are (two (area 0 0 2 2) (area 3 3 5 5)) gap ((3, 3) ∷ [])
    ∷ errors_are (two (area 0 0 2 2) (area 4 4 6 6)) gap []
    ∷ errors_are (two (area 3 0 5 2) (area 0 3 2 5)) gap ((1, 3) ∷ [])
    ∷ errors_are (one (area 2 2 3 5)) wide ((3, 2) ∷ (3, 3) ∷ (3, 4) ∷ [])
    ∷ errors_are (one (area 0 0 1 8)) wide ((1, 0) ∷ (1, 1) ∷ (1, 2) ∷ (1, 3) ∷ (1, 4) ∷ (1, 5) ∷ (1, 6) ∷ (1, 7) ∷ [])
    ∷ errors_are (one (area 7 0 8 8)) wide []
    ∷ errors_are (record { w = 8; h = 8; t = 3; room = 9; paints = (area 2 0 4 4, 1) ∷ (area 1 4 2 5, 2) ∷ (area 0 3 1 4, 2) ∷ [] })
    (record { type1 = 0; type2 = 1; d = 1; allowed = 2; corners = 1; ce = 2; fourway = 0; reason = 0 } ∷ []) ((0, 0) ∷ (1, 0) ∷ [])
    ∷ wait bar 2
    ∷ leaves bar 1
    ∷ changes_nothing bar
    ∷ []

infixr 1 ◌and◌
-- a fact and others
abbrev ◌and◌ : {P Q : Type 0} → P → Q → P × Q
p and q = (p, q)

-- all of them hold
pub worked : Every Holds lines
unfolding checked recorded errors gap wide
worked = refl and refl and (refl, refl) and (refl, refl) and (refl, refl) and (refl, refl) and (refl, refl) and (refl, refl) and (refl, refl) and (refl, refl) and (refl, refl) and refl and refl and refl and tt
