-- `vet`. Each rule passed is sound, so the first that is not is the lowest bad one.
use Rattle.rules.proofs.Vetted.{vetted_bad, vetted_sound, sound_more}
use Rattle.rules.specs.Words.{sound, sound_at}
use native.Mathlib.Omega.{arith}
use mathlib.Core.Path.{sym, ◌∙◌, ap}
use Rattle.rules.proofs.list.RuleList.vet.Goals as goal

pub returns-then-not-is_sound : goal.returns-then-not-is_sound
unfolding sound_at
returns-then-not-is_sound c =
    let a = c.args in
    let e = ap (sound a.t) (sym c.rule.ensures) ∙ (sym c.is_sound.ensures ∙ c.if-not-is_sound.true) in
    vetted_bad a.self.words.now a.self.used a.t c.loop-i.i (omega (arith, c.loop-i-test)) c.loop-i.invariant e

pub loop-i-preserved : goal.loop-i-preserved
unfolding sound_at
loop-i-preserved c =
    let a = c.args in
    let e = ap (sound a.t) (sym c.rule.ensures) ∙ (sym c.is_sound.ensures ∙ c.if-not-is_sound.false) in
    sound_more a.self.words.now a.t c.loop-i.i c.loop-i.invariant e

pub returns : goal.returns
returns c =
    let a = c.args in
    vetted_sound a.self.words.now a.self.used a.t (λ j l. c.loop-i.invariant j (omega (arith, c.loop-i-test, c.loop-i.auto)))
