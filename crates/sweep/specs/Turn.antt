-- A turn of a run: one piece, or a row of them; what its functions promise one another.
use Rattle.std.specs.Prelude.{ℕ, suc, ◌+◌, ◌*◌, ◌≤◌, ◌<◌, Bool, true, false, cond, ◌≡◌, List, length, Option, Some}
use Rattle.std.specs.Option.{is_some}
use Rattle.plane.specs.Picture.{Picture}
use Rattle.plane.specs.Words.{width, height, picture_of}
use Rattle.tables.specs.Like.{table_like}
use Rattle.rules.specs.Words.{rules_of, halo_of}
use Rattle.waits.specs.Pieces.{block, blocks}
use Rattle.sweep.specs.Sweep.{swept}
use Rattle.sweep.specs.Run.{Run, stopped, check_run, lowest_of, checked_piece, piece_fits}
use Rattle.sheet.specs.Layout.{Layout, lent}
use Rattle.sheet.specs.Ready.{Fit}

-- a layout and rules that passed their test, a working room as long, and a block of the window
pub record PieceIn (l : Layout) (work rules : List ℕ) (used bx by : ℕ) : Type 0 where
  pub fit : Fit l rules used
  pub working : length work ≡ length l.material
  pub column : 16 * bx < width l.material
  pub row : 16 * by < height l.material

-- a piece: has it room, and the layout afterwards
pub record PieceTried (l : Layout) (rules : List ℕ) (used bx by : ℕ) (r : Option (Unit {0})) (after : Layout) : Type 0 where
  pub fits : is_some r ≡ piece_fits l (rules_of rules used) (halo_of rules used) bx by
  pub leaves : after ≡ cond (is_some r) (checked_piece l (rules_of rules used) (halo_of rules used) bx by) l

-- ---- runs
-- d pieces, and then a run
abbrev pub more : ℕ → Run → Run
more d r = record { number = r.number; done = d + r.done; layout = r.layout }

-- every run from l that is long enough begins with d pieces that lead to `here`, and goes on from there
pub record Came (l here : Layout) (rules : List ℕ) (used d : ℕ) : Type 0 where
  pub run : (m : ℕ) → check_run (d + m) (rules_of rules used) (halo_of rules used) l ≡ more d (check_run m (rules_of rules used) (halo_of rules used) here)
  pub fit : Fit here rules used

-- every run of a piece or more is over at l, with the number x
abbrev pub OverAt : ℕ → Layout → List ℕ → ℕ → Type 0
OverAt x l rules used = (m : ℕ) → check_run (suc m) (rules_of rules used) (halo_of rules used) l ≡ stopped x l

-- a turn of at most n pieces begins with the lowest waiting one
pub record TurnIn (l : Layout) (work rules : List ℕ) (used bx by n : ℕ) : Type 0 where
  pub fit : Fit l rules used
  pub working : length work ≡ length l.material
  pub lowest : Some (block bx by) ≡ lowest_of l
  pub some : 1 ≤ n

-- it does a piece or more, or meets one without room; a run goes on from there
pub record Turned (l : Layout) (rules : List ℕ) (used n done : ℕ) (full : Bool) (after : Layout) : Type 0 where
  pub came : Came l after rules used done
  pub most : done ≤ n
  pub some : full ≡ false → 1 ≤ done
  pub stuck : full ≡ true → (done < n) × OverAt 7 after rules used

-- ---- a row of pieces
-- what waits when its first c pieces are done
abbrev pub swept_waiting : Layout → ℕ → ℕ → Picture
swept_waiting l c by = swept (width l.waiting) (height l.waiting) (picture_of l.waiting) c by

-- the layout then, with the errors es
abbrev pub swept_to : Layout → List ℕ → ℕ → ℕ → Layout
swept_to l es c by = lent l.material es (table_like l.waiting (swept_waiting l c by))

-- a turn whose errors are marked, while the pieces of row by before column c are still to be cleared in waiting
pub record RowMarked (l : Layout) (rules : List ℕ) (used by n done c : ℕ) (full : Bool) (es : List ℕ) : Type 0 where
  pub turned : Turned l rules used n done full (swept_to l es c by)
  pub end : c ≤ blocks (width l.material)
  pub through : done ≤ c
