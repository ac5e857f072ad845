-- What a macro does to a rule list.
use Rattle.std.specs.Prelude.{ℕ, ◌+◌, ◌*◌, ◌/◌, ◌≤◌, Bool, true, cond, ◌≡◌, List, [], ◌∷◌, ◌++◌, length, take, drop, eqb}
use Rattle.std.proofs.lemmas.List.Edits.{sets}
use Rattle.std.specs.Int.Count.{ones}
use Rattle.plane.specs.Refusal.{◌unless◌, Outcome}
use Rattle.rules.specs.declared.rule.Rule.{Rule}
use Rattle.rules.specs.Sets.{others}
use Rattle.rules.specs.Words.{words_of}
use Rattle.macros.specs.Macros.{second, width, width_sound, spacing, spacing_sound}
use Rattle.rules.specs.Vetting.{ListLength, KindsIn}

-- what a macro leaves: the returned count of used rules, and the list
pub record RuleList : Type 0 where
  pub used : ℕ
  pub words : List ℕ

-- refused: no count, and every word stays
abbrev pub refused : List ℕ → RuleList
refused ws = record { used = 0; words = ws }

-- the rules rs fill the unused tail from its start; the words past them stay
abbrev pub appended : List ℕ → ℕ → List Rule → RuleList
appended ws used rs = record { used = used + length rs; words = take (8 * used) ws ++ (words_of rs ++ drop (8 * (used + length rs)) ws) }

-- when a macro on a list of n words says no: `ok` says if it is within its ranges, k how many rules it would append
abbrev pub macro_refusals : ℕ → ℕ → ℕ → Bool → ℕ → List (ℕ × Type 0)
macro_refusals n used t ok k =
    1 unless ListLength n used
    ∷ 2 unless KindsIn t
    ∷ 4 unless (ok ≡ true)
    ∷ 7 unless (used + k ≤ n / 8)
    ∷ []

-- a macro that appends the rules rs: its number, the returned count, and the list
pub record Expanded (ws : List ℕ) (used t : ℕ) (ok : Bool) (rs : List Rule) (answer count : ℕ) (after : List ℕ) : Type 0 where
  pub outcome : Outcome (macro_refusals (length ws) used t ok (length rs)) (refused ws) (appended ws used rs) answer (record { used = count; words = after })

-- width S d on a list
abbrev pub Widened : List ℕ → ℕ → ℕ → ℕ → ℕ → ℕ → ℕ → ℕ → List ℕ → Type 0
Widened ws used t s d reason answer count after = Expanded ws used t (width_sound t s d) (width t s d reason) answer count after

-- spacing A B d touch on a list
abbrev pub Spaced : List ℕ → ℕ → ℕ → ℕ → ℕ → ℕ → ℕ → ℕ → ℕ → ℕ → List ℕ → Type 0
Spaced ws used t a b d touch reason answer count after = Expanded ws used t (spacing_sound t a b d touch) (spacing t a b d touch reason) answer count after

-- ---- steps
-- a list that is good takes the rules rs, where there is room for them
pub record Appended (ws : List ℕ) (used : ℕ) (rs : List Rule) (answer count : ℕ) (after : List ℕ) : Type 0 where
  pub outcome : Outcome (7 unless (used + length rs ≤ length ws / 8) ∷ []) (refused ws) (appended ws used rs) answer (record { used = count; words = after })

-- the rules rs are written in a list from place n on, and r is the next place
pub record Put (n r : ℕ) (rs : List Rule) (before after : List ℕ) : Type 0 where
  pub next : r ≡ n + length rs
  pub words : after ≡ sets before (8 * n) (words_of rs)

-- how many rules a width macro makes
abbrev pub width_count : ℕ → ℕ → ℕ
width_count t s = ones (others t s) * ones s

-- how many rules a spacing macro makes
unfoldable pub spacing_count : ℕ → ℕ → ℕ → ℕ → ℕ
unfolding second
spacing_count t a b touch = ones a * ones (second t a b touch) + cond (eqb a b) 0 (ones b * ones (second t b a touch))
