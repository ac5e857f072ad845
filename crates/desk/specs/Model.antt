-- The desk: what it holds, and what each command makes of it and is answered. By the libraries' own definitions, and executable.
use Rattle.std.specs.Prelude.{ℕ, zero, suc, ◌+◌, max, Bool, true, false, not, cond, List, [], ◌∷◌, ◌++◌, length, leb, ltb, replicate, Option, Some, None}
use Rattle.plane.specs.declared.tile.Area.{Area}
use Rattle.plane.specs.Picture.{area}
use Rattle.plane.specs.Words as words
use Rattle.rules.specs.declared.rule.Rule as rules
use Rattle.macros.specs.Macros.{width, width_sound, spacing, spacing_sound}
use Rattle.rules.specs.Words.{sound, reach}
use Rattle.sweep.specs.Run.{check_run, CheckLeft, ran_check}
use Rattle.drawing.specs.Create.{fresh}
use Rattle.sheet.specs.Layout.{Layout, lent}
use Rattle.drawing.specs.Paint.{painted_layout}
use Rattle.sheet.specs.Report.{Findings, findings}
use Rattle.commands.specs.declared.command.Command.{Command}
use Rattle.commands.specs.declared.command.Command.TheVariants.{New, Rule, Width, Spacing, Paint, Check, Report}
use Rattle.replies.specs.declared.reply.Reply.{Reply}
use Rattle.replies.specs.declared.reply.Reply.TheVariants as reply
use Rattle.desk.specs.Tests.{first_no, in_range, area_in, both_fit}

-- the room of each table, in tiles, and of the list, in rules
abbrev pub tile_room : ℕ
tile_room = 400

abbrev pub rule_room : ℕ
rule_room = 512

-- what the desk holds: was a `new` accepted, a paint since, the words of the three tables, and the rules
pub record Model : Type 0 where
  pub ready : Bool
  pub painted : Bool
  pub layout : Layout
  pub rules : List rules.Rule

-- what a contract sees of a desk: its model, and what says nothing of it, the working room and the list with how many of its rules are used
pub record Known : Type 0 where
  pub model : Model
  pub work : List ℕ
  pub list : List ℕ
  pub used : ℕ

-- a table of 400 tiles before anything is written to it
abbrev pub zeros : List ℕ
zeros = replicate 3604 0

-- before any command: no layout, no paint and no rules
unfoldable pub blank : Model
blank = record { ready = false; painted = false; layout = lent zeros zeros zeros; rules = [] }

-- T of the layout
abbrev pub kinds_of : Model → ℕ
kinds_of m = words.kinds m.layout.material

-- does the area lie in the layout's window
abbrev pub in_window : Model → Area → Bool
in_window m a = area_in (words.width m.layout.material) (words.height m.layout.material) a

-- the largest d or ce of the rules, 0 if there is none
unfoldable pub halo : List rules.Rule → ℕ
halo [] = 0
halo (r ∷ rs) = max (reach r) (halo rs)

-- ---- what a command comes to: the desk afterwards, and the reply
-- a number that says no leaves the desk as it was; 0 is `ok`
abbrev pub said : ℕ → ℕ → Model → Model → Model × Reply
said zero line new old = (new, reply.Ok)
said (suc n) line new old = (old, reply.No (suc n) line)

-- new W H T: one tile of space in each table, no rules and no paint
unfoldable pub opened : Model → ℕ → ℕ → ℕ → ℕ → Model × Reply
opened m line w h t =
    said (first_no ((2, in_range w h t) ∷ [])) line (record { ready = true; painted = false; layout = fresh tile_room w h t; rules = [] }) m

-- rule, width and spacing: rules within their ranges (4), for which there is room (7), before the first accepted paint (8)
unfoldable pub added : Model → ℕ → Bool → List rules.Rule → Model × Reply
added m line ok rs =
    said (first_no ((4, ok) ∷ (7, leb (length m.rules + length rs) rule_room) ∷ (8, not m.painted) ∷ [])) line
    (record { ready = m.ready; painted = m.painted; layout = m.layout; rules = m.rules ++ rs }) m

-- paint: a type below T (5), an area in the window (6), and room in both tables (7)
unfoldable pub painted_by : Model → ℕ → Area → ℕ → Model × Reply
painted_by m line a k =
    said (first_no ((5, ltb k (kinds_of m)) ∷ (6, in_window m a) ∷ (7, both_fit m.layout a k) ∷ [])) line
    (record { ready = m.ready; painted = true; layout = painted_layout m.layout a k; rules = m.rules }) m

-- what check leaves
abbrev pub left_by : Model → CheckLeft → Model × Reply
left_by m r = (record { ready = m.ready; painted = m.painted; layout = r.layout; rules = m.rules }, reply.Check r.number r.done r.left)

-- check n: the lowest waiting piece, n times or until none waits
unfoldable pub checked_by : Model → ℕ → Model × Reply
checked_by m n = left_by m (ran_check (check_run n m.rules (halo m.rules) m.layout))

-- what report finds
abbrev pub found_reply : Findings → Reply
found_reply f = reply.Report f.settled f.squares f.tiles

-- report: on an area in the window (6)
unfoldable pub reported_on : Model → ℕ → Area → Reply
reported_on m line a = cond (in_window m a) (found_reply (findings m.layout (halo m.rules) a [])) (reply.No 6 line)

-- ---- the answer to a command on a line
-- before an accepted `new`, any line that is not a `new` command is out of turn
abbrev pub early : Model → ℕ → Option Command → Model × Reply
early m line (Some (New w h t)) = opened m line w h t
early m line (Some (Rule a b d s c e f r)) = (m, reply.No 8 line)
early m line (Some (Width s d r)) = (m, reply.No 8 line)
early m line (Some (Spacing a b d touch r)) = (m, reply.No 8 line)
early m line (Some (Paint x1 y1 x2 y2 k)) = (m, reply.No 8 line)
early m line (Some (Check n)) = (m, reply.No 8 line)
early m line (Some (Report x1 y1 x2 y2)) = (m, reply.No 8 line)
early m line None = (m, reply.No 8 line)

-- one rule of a line
abbrev pub rule_of : ℕ → ℕ → ℕ → ℕ → ℕ → ℕ → ℕ → ℕ → rules.Rule
rule_of a b d s c e f r = record { type1 = a; type2 = b; d = d; allowed = s; corners = c; ce = e; fourway = f; reason = r }

-- a command after it
abbrev pub obeyed : Model → ℕ → Command → Model × Reply
obeyed m line (New w h t) = opened m line w h t
obeyed m line (Rule a b d s c e f r) = added m line (sound (kinds_of m) (rule_of a b d s c e f r)) (rule_of a b d s c e f r ∷ [])
obeyed m line (Width s d r) = added m line (width_sound (kinds_of m) s d) (width (kinds_of m) s d r)
obeyed m line (Spacing a b d touch r) = added m line (spacing_sound (kinds_of m) a b d touch) (spacing (kinds_of m) a b d touch r)
obeyed m line (Paint x1 y1 x2 y2 k) = painted_by m line (area x1 y1 x2 y2) k
obeyed m line (Check n) = checked_by m n
obeyed m line (Report x1 y1 x2 y2) = (m, reported_on m line (area x1 y1 x2 y2))

-- and any line after it
abbrev pub later : Model → ℕ → Option Command → Model × Reply
later m line (Some c) = obeyed m line c
later m line None = (m, reply.No 9 line)

-- the desk after a line's command, and the reply to it; a line that is no command has none
unfoldable pub answered : Model → ℕ → Option Command → Model × Reply
answered m line c = cond m.ready (later m line c) (early m line c)
