-- A layout: three tables of one length and one window, material, errors and waiting.
use Rattle.std.specs.Prelude.{ℕ, ◌≡◌, List, length}
use Rattle.sheet.specs.declared.shape.Layout.{Layout as Lent}
use Rattle.plane.specs.Words.{width, height, kinds, room_in, TableLength, PictureTable}
use Rattle.rules.specs.Vetting.{ListLength}

-- the words of the three tables
pub record Layout : Type 0 where
  pub material : List ℕ
  pub errors : List ℕ
  pub waiting : List ℕ

-- the three slices of a call
abbrev pub lent : List ℕ → List ℕ → List ℕ → Layout
lent m e w = record { material = m; errors = e; waiting = w }

-- the words of a layout that is lent
abbrev pub tables : Lent → Layout
tables l = lent l.material.now l.errors.now l.waiting.now

-- the room of a layout
abbrev pub room : Layout → ℕ
room l = room_in (length l.material)

-- the three lengths are a table's, and are one
pub record OneLength (l : Layout) : Type 0 where
  pub material : TableLength (length l.material)
  pub errors : length l.errors ≡ length l.material
  pub waiting : length l.waiting ≡ length l.material

-- so is the working room's
pub record WorkLength (l : Layout) (work : List ℕ) : Type 0 where
  pub tables : OneLength l
  pub working : length work ≡ length l.material

-- and the rule list's, with room for the rules used
pub record RuleLength (l : Layout) (rules : List ℕ) (used : ℕ) : Type 0 where
  pub tables : OneLength l
  pub list : ListLength (length rules) used

-- marks on a material: a picture's table of two types and of the material's size
pub record Marks (material marks : List ℕ) : Type 0 where
  pub table : PictureTable marks
  pub wide : width marks ≡ width material
  pub tall : height marks ≡ height material
  pub two : kinds marks ≡ 2

-- three pictures' tables that belong together
pub record IsLayout (l : Layout) : Type 0 where
  pub material : PictureTable l.material
  pub errors : Marks l.material l.errors
  pub waiting : Marks l.material l.waiting

-- a layout as create makes it and every call takes it
pub record SoundLayout (l : Layout) : Type 0 where
  pub lengths : OneLength l
  pub tables : IsLayout l
