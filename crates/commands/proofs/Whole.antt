-- From a line's word and numbers to its command.
use mathlib.Core.Path.{◌≡◌, refl, sym, ◌∙◌}
use mathlib.Core.List.{List, ◌∷◌}
use Prim.Native.Nat.{ℕ, ◌-◌, ◌≤◌}
use native.Mathlib.Omega.{arith}
use lib.Dec.{eqb}
use lib.ListN.{length, take, drop, length-drop}
use lib.Seq.{take_all}
use Rattle.std.specs.Prelude.{Option, Some, None}
use Rattle.text.specs.Part.{blank, parts, part_length, part_end, parts_left}
use Rattle.text.specs.Script.{past_blanks}
use Rattle.text.proofs.Parts.{parts_first, leading_within}
use Rattle.commands.specs.Command.{keyword_of, arity, command_with, pick_command, command_after, command_bare}
use Rattle.commands.specs.Numbers.{Good, Bad}
use Rattle.commands.specs.declared.keyword.Keyword.{Keyword}
use Rattle.commands.specs.declared.keyword.Keyword.TheVariants as K
use Rattle.commands.proofs.Reading.{length_values}

arity_within : (k : Keyword) → arity k ≤ 8
arity_within K.New = omega arith
arity_within K.Rule = omega arith
arity_within K.Width = omega arith
arity_within K.Spacing = omega arith
arity_within K.Paint = omega arith
arity_within K.Check = omega arith
arity_within K.Report = omega arith

-- what is left behind a place, cut to the line's end
pub rest_all : (text : List ℕ) (e : ℕ) → take (length text - e) (drop e text) ≡ drop e text
rest_all text e = take_all (length text - e) (drop e text) (omega (arith, length-drop e text))

module _ (text : List ℕ) (e : ℕ) (is : e ≡ part_end text 0) where
  split : parts text ≡ take e text ∷ parts_left (drop e text)
  split = let same : e ≡ part_length text = omega arith in rw same (parts_first text)

  -- the command of the line is that of its first part's keyword and the parts after it
  bare_is : (o : Option Keyword) → o ≡ keyword_of (take e text) → command_bare text ≡ command_after o (parts_left (drop e text))
  bare_is o q = rw (split, q) refl

  -- a line that begins with no keyword
  pub bare_wordless : None ≡ keyword_of (take e text) → None ≡ command_bare text
  bare_wordless q = sym (bare_is None q)

  -- one whose other parts no command takes
  pub bare_bad : (k : Keyword) → Some k ≡ keyword_of (take e text) → Bad (parts_left (drop e text)) → None ≡ command_bare text
  bare_bad k q bad = sym (bare_is (Some k) q ∙ rw (bad (arity k) (arity_within k)) refl)

  -- one whose other parts are the numbers n
  pub bare_good : (k : Keyword) (n : List ℕ) → Some k ≡ keyword_of (take e text) → Good n (parts_left (drop e text)) → pick_command (eqb (length n) (arity k)) (command_with k n) ≡ command_bare text
  bare_good k n q good = sym (bare_is (Some k) q ∙ rw (good.all, ← length_values (parts_left (drop e text)), good.are) refl)

-- the reader stands behind the first blanks, within the line
pub reader_within : (text : List ℕ) (at : ℕ) → at ≡ past_blanks text 0 → at ≤ length text
reader_within text at is = omega (arith, leading_within blank text)
