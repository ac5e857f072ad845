-- How a desk's words hold its model, and what every command keeps of them.
use Rattle.std.specs.Prelude.{◌≤◌, true, ◌≡◌, length}
use Rattle.rules.specs.Words.{rules_of}
use Rattle.sheet.specs.Layout.{Layout, lent}
use Rattle.sheet.specs.Ready.{Fit}
use Rattle.desk.specs.declared.state.Desk.TheInside.{Inside}
use Rattle.desk.specs.Model.{Model, Known, rule_room}

-- the three tables
abbrev pub layout_of : Inside → Layout
layout_of d = lent d.material d.errors d.waiting

-- the model of a desk: of the rule list only the used rules count
abbrev pub model_of : Inside → Model
model_of d = record { ready = d.ready; painted = d.painted; layout = layout_of d; rules = rules_of d.rules d.used }

-- what is known of a desk, and the desk that it gives back
abbrev pub known_of : Inside → Known
known_of d = record { model = model_of d; work = d.work; list = d.rules; used = d.used }

abbrev pub desk_of : Known → Inside
desk_of k = record {
  material = k.model.layout.material;
  errors = k.model.layout.errors;
  waiting = k.model.layout.waiting;
  work = k.work;
  rules = k.list;
  used = k.used;
  ready = k.model.ready;
  painted = k.model.painted;
}

-- tables of 400 tiles
pub record Tables (l : Layout) : Type 0 where
  pub material : length l.material ≡ 3604
  pub errors : length l.errors ≡ 3604
  pub waiting : length l.waiting ≡ 3604

-- what a desk keeps: the rooms of its slices, and after an accepted `new` a layout with rules that fit it
pub record Kept (d : Inside) : Type 0 where
  pub tables : Tables (layout_of d)
  pub working : length d.work ≡ 3604
  pub list : length d.rules ≡ 4096
  pub used : d.used ≤ rule_room
  pub fit : d.ready ≡ true → Fit (layout_of d) d.rules d.used
