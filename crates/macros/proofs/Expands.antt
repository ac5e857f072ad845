-- The ways through a macro: refused by its tests, or its rules written behind the used ones. For any macro, by its ranges and its rules.
use Prim.Native.Nat.{ℕ, ◌+◌, ◌*◌, ◌/◌, ◌≤◌}
use mathlib.Core.Bool.{Bool, true}
use mathlib.Core.List.{List, [], ◌++◌, append_assoc}
use mathlib.Core.Logic.{inr}
use mathlib.Core.Path.{◌≡◌, refl, sym, ◌∙◌, ap}
use native.Mathlib.Omega.{arith}
use lib.ListN.{length, take, drop, take-append-drop}
use lib.Seq.{sets-eq}
use Rattle.plane.proofs.Lowests.{all_hold}
use Rattle.rules.specs.declared.rule.Rule.{Rule}
use Rattle.rules.specs.Words.{words_of}
use Rattle.rules.specs.Vetting.{ListLength, KindsIn, list_tests, ListTested}
use Rattle.macros.specs.Expansion.{Expanded, Appended, Put}
use Rattle.macros.proofs.Puts.{words_length}

-- ---- the tests
-- the length and T are good
pub record Listed (n used t : ℕ) : Type 0 where
  pub long : ListLength n used
  pub kinds : KindsIn t

pub listed : {n used t : ℕ} → ListTested n used t 0 → Listed n used t
listed {n} {used} {t} T =
    let g = all_hold 0 (list_tests n used t) (omega arith, (omega arith, tt)) T.number in
    record { long = g.0; kinds = g.1.0 }

-- ---- the ways
module _ {ws : List ℕ} {used t : ℕ} {ok : Bool} {rs : List Rule} where
  -- within them, and the list takes the rules or has no room
  pub expanded_by : {answer count : ℕ} {after : List ℕ} → Listed (length ws) used t → ok ≡ true → Appended ws used rs answer count after → Expanded ws used t ok rs answer count after
  expanded_by L e A = record { outcome = record { number = inr (L.long, inr (L.kinds, inr (e, A.outcome.number))); leaves = A.outcome.leaves } }

-- ---- rules behind the used ones
module _ {ws : List ℕ} {used : ℕ} {rs : List Rule} where
  pub appended_done : {n : ℕ} {after : List ℕ} → used + length rs ≤ length ws / 8 → Put used n rs ws after → Appended ws used rs 0 n after
  appended_done {n} {after} u p =
      let e = words_length rs in
      let f : 8 * used + length (words_of rs) ≡ 8 * (used + length rs) = omega arith in
      let l = p.words ∙ sets-eq (words_of rs) ws (8 * used) (omega arith) ∙ ap (λ m. take (8 * used) ws ++ words_of rs ++ drop m ws) f ∙ append_assoc (take (8 * used) ws) (words_of rs) (drop (8 * (used + length rs)) ws) in
      record { outcome = record { number = inr (u, refl); leaves = λ i. record { used = p.next i; words = l i } } }

-- a macro that makes no rules is accepted and changes nothing, on a full list too
pub expanded_nothing : {ws : List ℕ} {used t : ℕ} {ok : Bool} → Listed (length ws) used t → ok ≡ true → Expanded ws used t ok [] 0 used ws
unfolding words_of
expanded_nothing {ws} {used} L e =
    let m : used ≡ used + 0 = omega arith in
    let l = sym (take-append-drop (8 * used) ws) ∙ ap (λ (n : ℕ). take (8 * used) ws ++ drop (8 * n) ws) m in record {
      outcome = record {
        number = inr (L.long, inr (L.kinds, inr (e, inr (omega (arith, L.long.room), refl))));
        leaves = λ i. record { used = m i; words = l i };
      };
    }
