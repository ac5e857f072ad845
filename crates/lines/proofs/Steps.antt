-- The line that was read, as the machine takes it.
use Prim.Native.Nat.{ℕ}
use mathlib.Core.Bool.{Bool, true, false, cond}
use mathlib.Core.Path.{◌≡◌, refl, sym, ◌∙◌}
use mathlib.Core.List.{List}
use Rattle.std.specs.Prelude.{Option, Some, None}
use Rattle.text.specs.Line.{too_long, Reads}
use Rattle.commands.specs.Command.{command_of}
use Rattle.lines.specs.Session.{command_in}

none_kept : (b : Bool) (p : List ℕ) → cond b None (Some p) ≡ None → None ≡ cond b None (command_of p)
none_kept true p e = refl
none_kept false p e = cc

-- a line that is too long is no command
pub long_in : (l : Option (List ℕ)) (p : List ℕ) → Reads l p → l ≡ None → None ≡ command_in p
long_in l p R t = none_kept (too_long p) p (sym R ∙ t)
