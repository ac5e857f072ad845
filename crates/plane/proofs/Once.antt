-- An answer is known by its number and its value.
use Prim.Native.Nat.{ℕ, zero, suc}
use native.Mathlib.Omega.{arith}
use mathlib.Core.Path.{◌≡◌, refl, sym, ◌∙◌, ap}
use Rattle.std.specs.Prelude.{Result, Ok, Err}
use Rattle.plane.specs.declared.answer.Refusal.{Refusal}
use Rattle.plane.specs.declared.answer.Refusal.TheVariants.{Lengths, Sizes, NoTable, NoRule, Kind, Place, Full}
use Rattle.plane.specs.Answers.{refusal_number, number, value}
use Rattle.plane.proofs.Lowests.{refusal_positive}

-- ---- an answer is known by its number and its value
refusal_of : ℕ → Refusal
refusal_of zero = Lengths
refusal_of (suc zero) = Lengths
refusal_of (suc (suc zero)) = Sizes
refusal_of (suc (suc (suc zero))) = NoTable
refusal_of (suc (suc (suc (suc zero)))) = NoRule
refusal_of (suc (suc (suc (suc (suc zero))))) = Kind
refusal_of (suc (suc (suc (suc (suc (suc zero)))))) = Place
refusal_of (suc (suc (suc (suc (suc (suc (suc n))))))) = Full

refusal_of_lem : (r : Refusal) → refusal_of (refusal_number r) ≡ r
unfolding refusal_of
refusal_of_lem Lengths = refl
refusal_of_lem Sizes = refl
refusal_of_lem NoTable = refl
refusal_of_lem NoRule = refl
refusal_of_lem Kind = refl
refusal_of_lem Place = refl
refusal_of_lem Full = refl

pub refusal_once : (r s : Refusal) → refusal_number r ≡ refusal_number s → r ≡ s
refusal_once r s e = sym (refusal_of_lem r) ∙ (ap refusal_of e ∙ refusal_of_lem s)

never : {A : Type 0} (r : Refusal) → 0 ≡ refusal_number r → A
never r e = absurd (omega (arith, refusal_positive r))

-- an answer that has no number beside
pub number_once : (a b : Result (Unit {0}) Refusal) → number a ≡ number b → a ≡ b
number_once (Ok x) (Ok y) e = refl
number_once (Ok x) (Err s) e = never s e
number_once (Err r) (Ok y) e = never r (sym e)
number_once (Err r) (Err s) e = ap Err (refusal_once r s e)

-- an answer that has one
pub value_once : (a b : Result ℕ Refusal) → number a ≡ number b → value a ≡ value b → a ≡ b
value_once (Ok i) (Ok j) e f = ap Ok f
value_once (Ok i) (Err s) e f = never s e
value_once (Err r) (Ok j) e f = never r (sym e)
value_once (Err r) (Err s) e f = ap Err (refusal_once r s e)
