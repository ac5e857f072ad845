-- What rule, width and spacing come to: rules put behind the used ones, or a number, 4 and 7 before 8.
use Prim.Native.Nat.{ℕ, ◌+◌, ◌*◌, ◌/◌, ◌≤◌, ◌<◌}
use native.Mathlib.Omega.{arith}
use mathlib.Core.Bool.{Bool, true, false, not, cond}
use mathlib.Core.Path.{◌≡◌, refl, sym, ◌∙◌, ap, ap₂, subst}
use mathlib.Core.List.{List, [], ◌∷◌, ◌++◌, append-nil}
use lib.ListN.{length}
use lib.Dec.{leb}
use lib.Seq.{sets, length-sets}
use borrow.Author.Tests.{le-leb, lt-leb}
use Rattle.plane.specs.Refusal.{◌unless◌}
use Rattle.plane.specs.Words.{kinds}
use Rattle.plane.proofs.Lowests.{AllHold, all_hold, left_as_is}
use Rattle.rules.specs.declared.rule.Rule.{Rule}
use Rattle.macros.specs.Expansion.{RuleList, Expanded, macro_refusals, appended, refused}
use Rattle.rules.specs.Some.{Every}
use Rattle.rules.specs.Vetting.{ListLength, KindsIn}
use Rattle.rules.specs.Words.{rules_of, rule_words}
use Rattle.replies.specs.declared.reply.Reply.TheVariants as reply
use Rattle.std.specs.Prelude.{Ok, Err}
use Rattle.desk.specs.declared.state.Refused.{Refused}
use Rattle.desk.specs.declared.state.Refused.TheVariants.{OutOfTurn}
use Rattle.desk.specs.declared.state.Desk.TheInside.{Inside}
use Rattle.desk.specs.Answers.{may_rule}
use Rattle.desk.specs.Kept.{layout_of, model_of, Kept}
use Rattle.desk.specs.Model.{Model, said, added}
use Rattle.desk.specs.Tests.{first_no}
use Rattle.desk.proofs.Decides.{Decides, decided, passed, test_is, leb_is}
use Rattle.desk.proofs.Draws.{list_length, said_no}
use Rattle.desk.proofs.RuleLists.{SoundFor, rules_length, appended_stay, appended_rules, put_appended, sound_with}

-- ---- after a paint
pub is_late : (painted : Bool) {e : Refused} → may_rule painted ≡ Err e → (painted ≡ true) × (e ≡ OutOfTurn)
is_late true e = (refl, cc)
is_late false e = cc

pub is_early : (painted : Bool) {x : Unit {0}} → may_rule painted ≡ Ok x → painted ≡ false
is_early true e = cc
is_early false e = refl

-- the tests of a command that adds rules: within their ranges, room for them, and no paint yet
abbrev pub add_tests : Bool → Bool → Bool → List (ℕ × Bool)
add_tests ok fits early = (4, ok) ∷ (7, fits) ∷ (8, early) ∷ []

-- has the list room for the rules
abbrev pub fits : List ℕ → ℕ → List Rule → Bool
fits ws used rs = leb (length (rules_of ws used) + length rs) 512

-- a desk keeps a list of the used rules and sound ones behind them
pub rules_kept : (d : Inside) {vs : List ℕ} (n : ℕ) (rs : List Rule) → Kept d → length vs ≡ length d.rules → n ≤ 512 → rules_of vs n ≡ rules_of d.rules d.used ++ rs → (d.ready ≡ true → Every (SoundFor (kinds d.material)) rs) → Kept (record d { rules = vs; used = n })
rules_kept d {vs} n rs K long u r E = record {
  tables = K.tables;
  working = K.working;
  list = long ∙ K.list;
  used = u;
  fit = λ q. let F = K.fit q in record {
    lengths = record { tables = F.lengths.tables; list = list_length (long ∙ K.list) u };
    tables = F.tables;
    sound = sound_with d.rules vs d.used n (kinds d.material) rs r (E q) F.sound;
  };
}

-- the same where the used rules stay
pub rules_stay : (d : Inside) {vs : List ℕ} → Kept d → length vs ≡ length d.rules → rules_of vs d.used ≡ rules_of d.rules d.used → Kept (record d { rules = vs })
rules_stay d K long r = rules_kept d d.used [] K long K.used (r ∙ sym (append-nil (rules_of d.rules d.used))) (λ _. tt)

module _ (d : Inside) (vs : List ℕ) (ok : Bool) (rs : List Rule) (line : ℕ) where
  -- the tests of the desk, and its model with the rules
  abbrev now_tests : List (ℕ × Bool)
  now_tests = add_tests ok (fits d.rules d.used rs) (not (d.painted))

  abbrev after_rules : Model
  after_rules = record { ready = d.ready; painted = d.painted; layout = layout_of d; rules = rules_of d.rules d.used ++ rs }

  -- a number, and the used rules stay
  pub added_no : (n : ℕ) → 0 < n → first_no now_tests ≡ n → rules_of vs d.used ≡ rules_of d.rules d.used → (model_of (record d { rules = vs }), reply.No n line) ≡ added (model_of d) line ok rs
  unfolding added
  added_no n u e r =
      ap (λ (x : List Rule). (record { ready = d.ready; painted = d.painted; layout = layout_of d; rules = x }, reply.No n line)) r
      ∙ said_no line after_rules (model_of d) u (sym e)

  -- accepted, and the new rules follow
  pub added_ok : (n : ℕ) → first_no now_tests ≡ 0 → rules_of vs n ≡ rules_of d.rules d.used ++ rs → (model_of (record d { rules = vs; used = n }), reply.Ok) ≡ added (model_of d) line ok rs
  unfolding added
  added_ok n e r =
      ap (λ (x : List Rule). (record { ready = d.ready; painted = d.painted; layout = layout_of d; rules = x }, reply.Ok)) r
      ∙ ap (λ (k : ℕ). said k line after_rules (model_of d)) (sym e)

-- ---- the tests, one after the other
two_pass : (a b c : Bool) → 0 ≡ first_no ((4, a) ∷ (7, b) ∷ []) → (a ≡ true) × ((b ≡ true) × (first_no (add_tests a b c) ≡ cond c 0 8))
two_pass true true c e = (refl, (refl, refl))
two_pass true false c e = absurd (omega (arith, e))
two_pass false b c e = absurd (omega (arith, e))

two_stop : (a b c : Bool) {n : ℕ} → n ≡ first_no ((4, a) ∷ (7, b) ∷ []) → 0 < n → first_no (add_tests a b c) ≡ n
two_stop true true c e u = absurd (omega (arith, e))
two_stop true false c e u = sym e
two_stop false b c e u = sym e

-- ---- rule
module _ (d : Inside) (r : Rule) (line : ℕ) (ok : Bool) where
  pub rule_bad : ok ≡ false → (model_of d, reply.No 4 line) ≡ added (model_of d) line ok (r ∷ [])
  rule_bad e = added_no d d.rules ok (r ∷ []) line 4 (omega arith) (ap (λ (b : Bool). first_no (add_tests b (fits d.rules d.used (r ∷ [])) (not (d.painted)))) e) refl

  few : length (rules_of d.rules d.used) ≡ d.used
  few = rules_length d.rules d.used

  pub rule_full : ok ≡ true → 512 ≤ d.used → (model_of d, reply.No 7 line) ≡ added (model_of d) line ok (r ∷ [])
  rule_full e u =
      let f : fits d.rules d.used (r ∷ []) ≡ false = lt-leb (length (rules_of d.rules d.used) + 1) 512 (omega (arith, few)) in
      added_no d d.rules ok (r ∷ []) line 7 (omega arith) (ap₂ (λ (a b : Bool). first_no (add_tests a b (not (d.painted)))) e f) refl

  room : d.used < 512 → fits d.rules d.used (r ∷ []) ≡ true
  room u = le-leb (length (rules_of d.rules d.used) + 1) 512 (omega (arith, few))

  pub rule_late : ok ≡ true → d.used < 512 → d.painted ≡ true → (model_of d, reply.No 8 line) ≡ added (model_of d) line ok (r ∷ [])
  rule_late e u p =
      added_no d d.rules ok (r ∷ []) line 8 (omega arith)
      (ap₂ (λ (a b : Bool). first_no (add_tests a b (not (d.painted)))) e (room u) ∙ ap (λ (c : Bool). first_no (add_tests true true (not c))) p) refl

-- a full list, as the check looks for it
pub full_comes : (d : Inside) (r : Rule) (line : ℕ) {m : Model} → model_of d ≡ m → (ok : Bool) → ok ≡ true → 512 ≤ d.used → (m, reply.No 7 line) ≡ added m line ok (r ∷ [])
full_comes d r line e ok o u = subst (λ (x : Model). (x, reply.No 7 line) ≡ added x line ok (r ∷ [])) e (rule_full d r line ok o u)

module _ (d : Inside) (r : Rule) (K : Kept d) {vs : List ℕ} (u : d.used < 512) (g : vs ≡ sets d.rules (8 * d.used) (rule_words r)) where
  behind : rules_of vs (d.used + 1) ≡ rules_of d.rules d.used ++ (r ∷ [])
  behind = ap (λ (x : List ℕ). rules_of x (d.used + 1)) (g ∙ put_appended d.rules d.used r (omega (arith, K.list))) ∙ appended_rules d.rules d.used (r ∷ []) (omega (arith, K.list))

  pub rule_kept : SoundFor (kinds d.material) r → Kept (record d { rules = vs; used = d.used + 1 })
  rule_kept S = rules_kept d (d.used + 1) (r ∷ []) K (ap length g ∙ length-sets d.rules (8 * d.used) (rule_words r)) (omega arith) behind (λ _. (S, tt))

  pub rule_added : (line : ℕ) (ok : Bool) → ok ≡ true → d.painted ≡ false → (model_of (record d { rules = vs; used = d.used + 1 }), reply.Ok) ≡ added (model_of d) line ok (r ∷ [])
  rule_added line ok e p =
      added_ok d vs ok (r ∷ []) line (d.used + 1)
      (ap₂ (λ (a b : Bool). first_no (add_tests a b (not (d.painted)))) e (room d r line ok u) ∙ ap (λ (c : Bool). first_no (add_tests true true (not c))) p)
      behind

-- ---- width and spacing
-- a macro that is refused leaves the words
pub refused_stay : {ws vs : List ℕ} {used t n count : ℕ} {ok : Bool} {rs : List Rule} → Expanded ws used t ok rs n count vs → 0 < n → vs ≡ ws
refused_stay {ws} {vs} {used} {n = n} {rs = rs} E u = ap (λ (x : RuleList). x.words) (E.outcome.leaves ∙ sym (left_as_is n (appended ws used rs) (refused ws) u))

module _ (d : Inside) (K : Kept d) {vs : List ℕ} {ok : Bool} {rs : List Rule} where
  -- what a macro that is accepted tells
  module _ {n : ℕ} (E : Expanded d.rules d.used (kinds d.material) ok rs 0 n vs) where
    holds : AllHold (macro_refusals (length d.rules) d.used (kinds d.material) ok (length rs))
    holds = all_hold 0 (macro_refusals (length d.rules) d.used (kinds d.material) ok (length rs)) (omega arith, (omega arith, (omega arith, (omega arith, tt)))) E.outcome.number

    many : n ≡ d.used + length rs
    many = ap (λ (x : RuleList). x.used) E.outcome.leaves

    are : vs ≡ (appended d.rules d.used rs).words
    are = ap (λ (x : RuleList). x.words) E.outcome.leaves

    stay : rules_of vs d.used ≡ rules_of d.rules d.used
    stay = ap (λ (x : List ℕ). rules_of x d.used) are ∙ appended_stay d.rules d.used rs (omega (arith, K.list, K.used))

    follow : rules_of vs n ≡ rules_of d.rules d.used ++ rs
    follow = ap₂ (λ (x : List ℕ) (k : ℕ). rules_of x k) are many ∙ appended_rules d.rules d.used rs (omega (arith, K.list, K.used))

    pub late_kept : length vs ≡ length d.rules → Kept (record d { rules = vs })
    late_kept long = rules_stay d K long stay

    pub macro_kept : length vs ≡ length d.rules → (ok ≡ true → Every (SoundFor (kinds d.material)) rs) → Kept (record d { rules = vs; used = n })
    macro_kept long S = rules_kept d n rs K long (omega (arith, many, holds.1.1.1.0, K.list)) follow (λ _. S holds.1.1.0)

  -- ---- on a desk with a layout
  module _ (ready : d.ready ≡ true) (line : ℕ) where
    -- the number is that of the first two tests
    macro_number_lem : {n count : ℕ} → Expanded d.rules d.used (kinds d.material) ok rs n count vs → n ≡ first_no ((4, ok) ∷ (7, fits d.rules d.used rs) ∷ [])
    macro_number_lem E =
        let F = K.fit ready in
        let Z = F.tables.material.header.sizes in
        let k : KindsIn (kinds d.material) = record { two = Z.two; sixteen = Z.sixteen } in
        let rest = 4 unless (ok ≡ true) ∷ 7 unless (d.used + length rs ≤ length d.rules / 8) ∷ [] in
        let D : Decides (fits d.rules d.used rs) (d.used + length rs ≤ length d.rules / 8) =
        subst (λ (n : ℕ). Decides (leb (n + length rs) 512) (d.used + length rs ≤ length d.rules / 8)) (sym (rules_length d.rules d.used))
        (subst (λ (n : ℕ). Decides (leb (d.used + length rs) 512) (d.used + length rs ≤ n)) (sym (ap (λ (n : ℕ). n / 8) K.list)) (leb_is (d.used + length rs) 512)) in
        decided rest ((4, ok) ∷ (7, fits d.rules d.used rs) ∷ []) (refl, (test_is ok, (refl, (D, tt))))
        (passed (2 unless KindsIn (kinds d.material)) rest k (passed (1 unless ListLength (length d.rules) d.used) (2 unless KindsIn (kinds d.material) ∷ rest) F.lengths.list E.outcome.number))

    pub macro_no : {n count : ℕ} → Expanded d.rules d.used (kinds d.material) ok rs n count vs → 0 < n → (model_of (record d { rules = vs }), reply.No n line) ≡ added (model_of d) line ok rs
    macro_no {n} E u =
        added_no d vs ok rs line n u (two_stop ok (fits d.rules d.used rs) (not (d.painted)) (macro_number_lem E) u)
        (ap (λ (x : List ℕ). rules_of x d.used) (refused_stay E u))

    module _ {n : ℕ} (E : Expanded d.rules d.used (kinds d.material) ok rs 0 n vs) where
      two : (ok ≡ true) × ((fits d.rules d.used rs ≡ true) × (first_no (add_tests ok (fits d.rules d.used rs) (not (d.painted))) ≡ cond (not (d.painted)) 0 8))
      two = two_pass ok (fits d.rules d.used rs) (not (d.painted)) (macro_number_lem E)

      pub macro_late : d.painted ≡ true → (model_of (record d { rules = vs }), reply.No 8 line) ≡ added (model_of d) line ok rs
      macro_late e = added_no d vs ok rs line 8 (omega arith) (two.1.1 ∙ ap (λ (b : Bool). cond (not b) 0 8) e) (stay E)

      pub macro_added : d.painted ≡ false → (model_of (record d { rules = vs; used = n }), reply.Ok) ≡ added (model_of d) line ok rs
      macro_added e = added_ok d vs ok rs line n (two.1.1 ∙ ap (λ (b : Bool). cond (not b) 0 8) e) (follow E)
