-- The commands of the session's script, on the bytes of a line without its line end.
use Rattle.std.specs.Prelude.{ℕ, Bool, true, false, cond, ◌&&◌, List, [], ◌∷◌, eqb, length, get_or, drop, Option, Some, None}
use Rattle.text.specs.Number.{is_number, value}
use Rattle.text.specs.Part.{blanks, parts, unblanked}
use Rattle.text.specs.Word.{sameb}
use Rattle.commands.specs.declared.keyword.Keyword.{Keyword}
use Rattle.commands.specs.declared.keyword.Keyword.TheVariants as K
use Rattle.commands.specs.declared.command.Command.{Command}
use Rattle.commands.specs.declared.command.Command.TheVariants.{New, Rule, Width, Spacing, Paint, Check, Report}

-- the command words: new, rule, width, spacing, paint, check, report
abbrev pub words : List (List ℕ × Keyword)
words = (110 ∷ 101 ∷ 119 ∷ [], K.New)
    ∷ (114 ∷ 117 ∷ 108 ∷ 101 ∷ [], K.Rule)
    ∷ (119 ∷ 105 ∷ 100 ∷ 116 ∷ 104 ∷ [], K.Width)
    ∷ (115 ∷ 112 ∷ 97 ∷ 99 ∷ 105 ∷ 110 ∷ 103 ∷ [], K.Spacing)
    ∷ (112 ∷ 97 ∷ 105 ∷ 110 ∷ 116 ∷ [], K.Paint)
    ∷ (99 ∷ 104 ∷ 101 ∷ 99 ∷ 107 ∷ [], K.Check)
    ∷ (114 ∷ 101 ∷ 112 ∷ 111 ∷ 114 ∷ 116 ∷ [], K.Report)
    ∷ []

-- the keyword beside a word in a table of words
unfoldable pub keyword_in : List (List ℕ × Keyword) → List ℕ → Option Keyword
keyword_in [] w = None
keyword_in (e ∷ t) w = cond (sameb w e.0) (Some e.1) (keyword_in t w)

-- the keyword that a word is, byte for byte
abbrev pub keyword_of : List ℕ → Option Keyword
keyword_of w = keyword_in words w

-- how many numbers follow a keyword
abbrev pub arity : Keyword → ℕ
arity K.New = 3
arity K.Rule = 8
arity K.Width = 3
arity K.Spacing = 5
arity K.Paint = 5
arity K.Check = 1
arity K.Report = 4

-- the command of a keyword and its numbers
abbrev pub command_with : Keyword → List ℕ → Command
command_with K.New n = New (get_or n 0 0) (get_or n 1 0) (get_or n 2 0)
command_with K.Rule n = Rule (get_or n 0 0) (get_or n 1 0) (get_or n 2 0) (get_or n 3 0) (get_or n 4 0) (get_or n 5 0) (get_or n 6 0) (get_or n 7 0)
command_with K.Width n = Width (get_or n 0 0) (get_or n 1 0) (get_or n 2 0)
command_with K.Spacing n = Spacing (get_or n 0 0) (get_or n 1 0) (get_or n 2 0) (get_or n 3 0) (get_or n 4 0)
command_with K.Paint n = Paint (get_or n 0 0) (get_or n 1 0) (get_or n 2 0) (get_or n 3 0) (get_or n 4 0)
command_with K.Check n = Check (get_or n 0 0)
command_with K.Report n = Report (get_or n 0 0) (get_or n 1 0) (get_or n 2 0) (get_or n 3 0)

-- the command c, where a line is one
abbrev pub pick_command : Bool → Command → Option Command
pick_command true c = Some c
pick_command false c = None

-- all parts are numbers
unfoldable pub all_numbers : List (List ℕ) → Bool
all_numbers [] = true
all_numbers (w ∷ ws) = is_number w && all_numbers ws

-- the values of parts
unfoldable pub values : List (List ℕ) → List ℕ
values [] = []
values (w ∷ ws) = value w ∷ values ws

-- the parts are m numbers
abbrev pub accepts : ℕ → List (List ℕ) → Bool
accepts m ws = all_numbers ws && eqb (length ws) m

-- the command of a keyword, where a line begins with one, and the parts that follow it
abbrev pub command_after : Option Keyword → List (List ℕ) → Option Command
command_after None ws = None
command_after (Some k) ws = pick_command (accepts (arity k) ws) (command_with k (values ws))

-- the command of a line's first part and the parts that follow it
abbrev pub command_parts : List ℕ → List (List ℕ) → Option Command
command_parts w ws = command_after (keyword_of w) ws

-- the command of a line's parts
abbrev pub command_in : List (List ℕ) → Option Command
command_in [] = None
command_in (w ∷ ws) = command_parts w ws

-- the command of a line with no blank at its two ends
abbrev pub command_bare : List ℕ → Option Command
command_bare text = command_in (parts text)

-- the command of a line with no blank at its start
abbrev pub command_from : List ℕ → Option Command
command_from text = command_bare (unblanked text)

-- the command of a line
abbrev pub command_of : List ℕ → Option Command
command_of text = command_from (drop (blanks text) text)
