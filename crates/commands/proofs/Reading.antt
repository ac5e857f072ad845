-- Reading a line's numbers, part by part: what holds after some of them, and how a turn, a refusal and the end go.
use mathlib.Core.Path.{◌≡◌, refl, sym, ap, subst, ◌∙◌}
use mathlib.Core.Bool.{Bool, true, false, cond, ◌&&◌, and-false, and-true, and_assoc}
use denote.Param.Members.{Mut}
use denote.Ref.{Bor}
use Rattle.std.specs.Fn.{CalledAt}
use Rattle.std.specs.List.{slice_split, onto_first}
use Rattle.std.specs.Slice.Iter.{split_rest, split_done, split_callee, split_steps}
use Rattle.std.proofs.lemmas.Iterator.{YieldsList}
use Rattle.std.proofs.lemmas.Iterator.Splits.{YieldsList-from_slice_split}
use Rattle.text.specs.Part.{blank, onto, parts, parts_left}
use mathlib.Core.List.{List, [], ◌∷◌, ◌++◌}
use Prim.Native.Nat.{ℕ, zero, suc, ◌+◌, ◌<◌, ◌≤◌}
use native.Mathlib.Numerals.{add-one}
use native.Mathlib.Omega.{arith}
use lib.ListN.{length, get_or, take}
use lib.Seq.{take-suc, take_all, length-take-le}
use borrow.Author.Tests.{ne_eqb}
use Rattle.std.specs.Prelude.{Some, None}
use Rattle.text.specs.Number.{number_of, is_number, value}
use Rattle.text.proofs.Numbers.{number_is, number_not}
use Rattle.commands.specs.Command.{all_numbers, values}
use Rattle.commands.specs.Numbers.{Good, Bad}

-- of the parts ws, the first k are read as the numbers n
pub record ReadTo (ws : List (List ℕ)) (k : ℕ) (n : List ℕ) : Type 0 where
  pub all : all_numbers (take k ws) ≡ true
  pub are : values (take k ws) ≡ n

all_snoc : (ws : List (List ℕ)) (w : List ℕ) → all_numbers (ws ++ (w ∷ [])) ≡ (all_numbers ws && is_number w)
unfolding all_numbers
all_snoc [] w = and-true (is_number w)
all_snoc (u ∷ ws) w = rw (all_snoc ws w) (sym (and_assoc (is_number u) (all_numbers ws) (is_number w)))

values_snoc : (ws : List (List ℕ)) (w : List ℕ) → values (ws ++ (w ∷ [])) ≡ values ws ++ (value w ∷ [])
unfolding values
values_snoc [] w = refl
values_snoc (u ∷ ws) w = ap (λ (l : List ℕ). value u ∷ l) (values_snoc ws w)

pub length_values : (ws : List (List ℕ)) → length (values ws) ≡ length ws
unfolding values
length_values [] = refl
length_values (u ∷ ws) = ap suc (length_values ws)

-- one part that is no number is enough
one_not : (ws : List (List ℕ)) (k : ℕ) (d : List ℕ) → k < length ws → is_number (get_or ws k d) ≡ false → all_numbers ws ≡ false
unfolding all_numbers
one_not [] k d h e = absurd (omega arith)
one_not (u ∷ ws) zero d h e = rw e refl
one_not (u ∷ ws) (suc k) d h e = rw (one_not ws k d (omega arith) e) (and-false (is_number u))

module _ (ws : List (List ℕ)) (k : ℕ) (n : List ℕ) (inv : ReadTo ws k n) where
  pub read_done : k ≡ length ws → Good n ws
  read_done e =
      let h : length ws ≤ k = omega arith in
      record { all = ap all_numbers (sym (take_all k ws h)) ∙ inv.all; are = ap values (sym (take_all k ws h)) ∙ inv.are }

module _ (ws : List (List ℕ)) (k : ℕ) (n : List ℕ) (inv : ReadTo ws k n) (h : k < length ws) (w : List ℕ) (is : w ≡ get_or ws k w) where
  pub read_on : (v : ℕ) (m : List ℕ) → Some v ≡ number_of w → m ≡ n ++ (v ∷ []) → ReadTo ws (k + 1) m
  read_on v m e q =
      let one : (is_number w ≡ true) × (value w ≡ v) = number_is w v e in
      let more : take (k + 1) ws ≡ take k ws ++ (w ∷ []) = rw (add-one k) (take-suc ws k w h ∙ ap (λ (u : List ℕ). take k ws ++ (u ∷ [])) (sym is)) in
      record {
        all = ap all_numbers more ∙ (all_snoc (take k ws) w ∙ rw (inv.all) one.0);
        are = ap values more ∙ (values_snoc (take k ws) w ∙ (rw (inv.are, one.1) refl ∙ sym q));
      }

  pub read_not : None ≡ number_of w → Bad ws
  read_not e m few = rw (one_not ws k w h (ap is_number (sym is) ∙ number_not w e)) refl

  pub read_many : 8 ≤ length n → Bad ws
  read_many more m few =
      let long : length n ≡ k = sym (ap length inv.are) ∙ (length_values (take k ws) ∙ length-take-le k ws (omega arith)) in
      rw (ne_eqb (length ws) m (λ e. omega arith)) (and-false (all_numbers ws))

-- the library cuts a line at the blanks as the definition does
parts_split : (l : List ℕ) → slice_split blank l ≡ parts l
unfolding parts onto
parts_split [] = refl
parts_split (c ∷ l) = rw (parts_split l) (cut (blank c) c (parts l))
  where
    cut : (b : Bool) (d : ℕ) (ps : List (List ℕ)) → cond b ([] ∷ ps) (onto_first d ps) ≡ cond b ([] ∷ ps) (onto d ps)
    cut true d ps = refl
    cut false d [] = refl
    cut false d (w ∷ ws) = refl

-- an iterator over the parts of what is left behind a blank
pub parts_given : {F : Type 0} (g : Mut F (Bor ℕ × Unit {0}) Bool) {f : F} {s : _} (left : List ℕ) {c : ℕ} (line : List ℕ) → left ≡ c ∷ line → split_rest s ≡ line → split_done s ≡ false → split_callee s ≡ f
    → ((x : ℕ) (b : Bool) (q : F) → CalledAt g f x b q → (q ≡ f) × (b ≡ blank x)) → YieldsList (split_steps g) (λ x. x.now) s (parts_left left)
parts_given g {s = s} left line cut rest done callee calls = subst (λ (ps : List (List ℕ)). YieldsList (split_steps g) (λ x. x.now) s ps) (parts_split line ∙ sym (ap parts_left cut)) (YieldsList-from_slice_split g blank line rest done callee calls)

pub read_none : (ws : List (List ℕ)) → ReadTo ws 0 []
unfolding all_numbers values
read_none ws = record { all = refl; are = refl }

-- nothing is left of the line
pub none_left : (left : List ℕ) → length left ≡ 0 → Good [] (parts_left left)
unfolding all_numbers values
none_left [] e = record { all = refl; are = refl }
none_left (c ∷ l) e = absurd (omega (arith, e))
