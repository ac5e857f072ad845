-- `spacing`. The ranges bound the sets; the rules from A to B, and those from B to A where the sets differ, are the macro's.
use Rattle.std.proofs.Common.{rules}
use Rattle.macros.specs.Both.{rules_of, rules_of_both}
use Rattle.macros.specs.Macros.{half_spacing, spacing}
use Rattle.macros.proofs.Expands.{listed, expanded_by}
use Rattle.macros.proofs.Spaces.{both_same, both_two}
use mathlib.Core.Path.{◌≡◌, sym, ◌∙◌}
use Rattle.macros.proofs.macros.spacing.Goals.{then-a-b, else-a-b}
use Rattle.macros.proofs.macros.spacing.Goals as goal

pub returns : goal.returns
returns c =
    let a = c.args in
    let e : rules_of_both c.half-there.result c.if-a-b.back ≡ spacing a.t a.a a.b a.d a.touch a.reason =
    elim c.if-a-b.branch [
      | then-a-b w ↦ rw w.back-is (both_same a.t a.a a.b a.d a.touch a.reason c.half-there.result w.if-a-b.true c.half-there.ensures)
      | else-a-b w ↦
          let back : rules_of w.half.result ≡ half_spacing a.t a.b a.a a.d a.touch a.reason = search rules in
          rw w.back-is (both_two a.t a.a a.b a.d a.touch a.reason c.half-there.result w.half.result w.if-a-b.false c.half-there.ensures back)
    ] in
    expanded_by (listed c.in_ok-list_tests.ensures) (sym c.is_sound.ensures ∙ c.if-not-is_sound.false) (rw e at c.append.ensures)
