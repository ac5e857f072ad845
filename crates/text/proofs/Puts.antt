-- Bytes put one after another: what is put at a place and what is put behind it make one list that is put.
use mathlib.Core.Path.{◌≡◌, refl, sym, ap, ap₂, ◌∙◌}
use mathlib.Core.List.{List, [], ◌++◌, append-nil, append_assoc}
use Prim.Native.Nat.{ℕ, ◌+◌, ◌≤◌}
use native.Mathlib.Omega.{arith}
use lib.ListN.{length, take, drop, length-append, take-append-drop}
use lib.Seq.{drop-drop}
use borrow.Rule.Slice.PartMut.{put_mid}
use Rattle.std.proofs.lemmas.Slice.{take-put_mid, drop-put_mid}
use Rattle.text.specs.Put.{Put, Puts}
use Rattle.text.specs.declared.writer.Writer.{Writer}

pub put_none : (l : List ℕ) (at r : ℕ) → r ≡ at → Put l l at r []
put_none l at r e = record { next = omega arith; is = ap (λ (n : ℕ). take n l) e ∙ sym (append-nil (take at l)); rest = refl }

-- what follows a place stays where it is the same from an earlier place on
rest_from : (l m : List ℕ) (p k r : ℕ) → r ≡ p + k → drop p m ≡ drop p l → drop r m ≡ drop r l
rest_from l m p k r e same = ap (λ (n : ℕ). drop n m) e ∙ (sym (drop-drop k p m) ∙ (ap (drop k) same ∙ (drop-drop k p l ∙ ap (λ (n : ℕ). drop n l) (sym e))))

pub put_both : (l m o : List ℕ) (at p r : ℕ) (xs ys : List ℕ) → Put l m at p xs → Put m o p r ys → Put l o at r (xs ++ ys)
put_both l m o at p r xs ys f g = record {
  next = omega (arith, f.next, g.next, length-append xs ys);
  is = g.is ∙ (ap (λ (z : List ℕ). z ++ ys) f.is ∙ append_assoc (take at l) xs ys);
  rest = g.rest ∙ rest_from l m p (length ys) r g.next f.rest;
}

-- ---- a list copied as a whole
pub put_slice : (l ys bs : List ℕ) (at k : ℕ) → at + length bs ≤ length l → k ≡ length bs → ys ≡ bs → Put l (put_mid at k l ys) at (at + length bs) bs
put_slice l ys bs at k room long e =
    let far : length ys ≡ k = ap length e ∙ sym long in
    let same : length ys ≡ length bs = ap length e in
    record {
      next = refl;
      is = take-put_mid at k l ys (at + length bs) (omega (arith, same)) (omega (arith, room)) ∙ ap (λ (z : List ℕ). take at l ++ z) e;
      rest = drop-put_mid at k l ys (at + length bs) (omega (arith, long)) (omega (arith, room)) far;
    }

-- ---- what is put settles every byte, so two outcomes are the same
put_whole : (l m : List ℕ) (at r : ℕ) (bs : List ℕ) → Put l m at r bs → m ≡ (take at l ++ bs) ++ drop (at + length bs) l
put_whole l m at r bs f = sym (take-append-drop r m) ∙ (ap₂ (λ (x y : List ℕ). x ++ y) f.is f.rest ∙ ap (λ (k : ℕ). (take at l ++ bs) ++ drop k l) f.next)

pub put_once : (l m n : List ℕ) (at r q : ℕ) (bs : List ℕ) → Put l m at r bs → Put l n at q bs → (r ≡ q) × (m ≡ n)
put_once l m n at r q bs f g = (f.next ∙ sym g.next, put_whole l m at r bs f ∙ sym (put_whole l n at q bs g))

-- ---- what a writer puts, piece after piece
pub puts_none : (w : Writer) → Puts w w []
puts_none w = record { put = put_none w.out.now w.at w.at refl; long = refl; same = refl }

pub puts_both : {w v u : Writer} {xs ys : List ℕ} → Puts w v xs → Puts v u ys → Puts w u (xs ++ ys)
puts_both {w} {v} {u} {xs} {ys} f g = record { put = put_both w.out.now v.out.now u.out.now w.at v.at u.at xs ys f.put g.put; long = g.long ∙ f.long; same = g.same ∙ f.same }
