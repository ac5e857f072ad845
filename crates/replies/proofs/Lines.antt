-- A line put number by number.
use mathlib.Core.Path.{◌≡◌, refl, sym, ap, subst, ◌∙◌}
use mathlib.Core.List.{List, [], ◌∷◌, ◌++◌, append-nil, append_assoc}
use Prim.Native.Nat.{ℕ, ◌+◌, ◌*◌, ◌<◌, ◌≤◌}
use native.Mathlib.Numerals.{add-one}
use native.Mathlib.Omega.{arith}
use lib.ListN.{length, get_or, take}
use lib.Seq.{take-suc, take_all}
use Rattle.text.specs.Decimal.{decimal}
use Rattle.text.specs.Put.{Puts}
use Rattle.text.specs.declared.writer.Writer.{Writer}
use Rattle.text.proofs.Puts.{puts_both}
use Rattle.replies.specs.Reply.{spaced, ended}

-- numbers, each behind a blank
pub all_spaced : List ℕ → List ℕ
all_spaced [] = []
all_spaced (n ∷ ns) = spaced n ++ all_spaced ns

spaced_snoc : (ns : List ℕ) (n : ℕ) → all_spaced (ns ++ (n ∷ [])) ≡ all_spaced ns ++ spaced n
unfolding all_spaced
spaced_snoc [] n = append-nil (spaced n)
spaced_snoc (m ∷ ns) n = ap (λ (l : List ℕ). spaced m ++ l) (spaced_snoc ns n) ∙ sym (append_assoc (spaced m) (all_spaced ns) (spaced n))

ended_is : (ns : List ℕ) → all_spaced ns ++ (10 ∷ []) ≡ ended ns
unfolding all_spaced
ended_is [] = refl
ended_is (n ∷ ns) = append_assoc (spaced n) (all_spaced ns) (10 ∷ []) ∙ ap (λ (l : List ℕ). spaced n ++ l) (ended_is ns)

-- the word and the first k numbers are put
pub record Line (w u : Writer) (word ns : List ℕ) (k : ℕ) : Type 0 where
  pub put : Puts w u (word ++ all_spaced (take k ns))
  pub at : u.at ≤ w.at + 8 + 21 * k

pub line_none : {w u : Writer} {word ns : List ℕ} → length word ≤ 8 → Puts w u word → Line w u word ns 0
unfolding all_spaced
line_none {w} {u} {word} h p = record { put = subst (Puts w u) (sym (append-nil word)) p; at = omega (arith, p.put.next) }

pub line_on : {w u v x : Writer} {word ns : List ℕ} {k n : ℕ} → Line w u word ns k → k < length ns → n ≡ get_or ns k 0 → Puts u v (32 ∷ []) → Puts v x (decimal n) → x.at ≤ v.at + 20 → Line w x word ns (k + 1)
line_on {w} {u} {v} {x} {word} {ns} {k} {n} l h is b d far = record {
  put = subst (Puts w x) (append_assoc word (all_spaced (take k ns)) (spaced n) ∙ ap (λ (m : List ℕ). word ++ m) (sym more)) (puts_both l.put (puts_both b d));
  at = omega (arith, l.at, b.put.next, far);
}
  where
    more : all_spaced (take (k + 1) ns) ≡ all_spaced (take k ns) ++ spaced n
    more = rw (add-one k) (ap all_spaced (take-suc ns k 0 h ∙ ap (λ (m : ℕ). take k ns ++ (m ∷ [])) (sym is)) ∙ spaced_snoc (take k ns) n)

pub line_end : {w u v : Writer} {word ns : List ℕ} {k : ℕ} → Line w u word ns k → length ns ≤ k → Puts u v (10 ∷ []) → Puts w v (word ++ ended ns)
line_end {w} {u} {v} {word} {ns} {k} l h e = subst (Puts w v) (append_assoc word (all_spaced (take k ns)) (10 ∷ []) ∙ ap (λ (m : List ℕ). word ++ m) (rw (take_all k ns h) (ended_is ns))) (puts_both l.put e)
