-- Listing numbers in a slice, one step at a time: what a step leaves, and what a whole listing leaves if it may write none of its numbers or all of them.
use Prim.Native.Nat.{ℕ, ◌+◌, ◌-◌, ◌≤◌, ◌<◌}
use native.Mathlib.Numerals.{add-one}
use native.Mathlib.Omega.{arith}
use mathlib.Core.Bool.{Bool, true, false, cond}
use mathlib.Core.Path.{◌≡◌, refl, sym, ◌∙◌, ap}
use mathlib.Core.Logic.{inl, inr, ⊎_elim}
use mathlib.Core.List.{List, [], ◌∷◌}
use lib.ListN.{length, get_or, drop, length-append, length-drop, get_or-append}
use lib.Seq.{get_or-append-add, get_or-drop, ext_get_or}
use Rattle.plane.specs.declared.tile.Area.{Area}
use Rattle.plane.specs.Area.{meets, tiles_in}
use Rattle.plane.specs.Picture.{joined}
use Rattle.plane.specs.Listing.{ListedTo, Lists, listed}
use Rattle.plane.specs.Words.{count, tile_of}
use Rattle.plane.proofs.Basics.{lt_or_ge}
use Rattle.plane.proofs.Lists.{joined_few}

-- before the first step
pub listed_none : {most : ℕ} {out : List ℕ} → ListedTo [] most out out 0
listed_none = record { entries = refl; long = refl; new = λ q u v. absurd (omega arith); old = λ q o. refl }

-- a step behind the lists f 0 .. f (i - 1) that lists f i
pub listed_more : (f : ℕ → List ℕ) (i : ℕ) {most m r : ℕ} {out us vs : List ℕ} → ListedTo (joined i f) most out us m → Lists (f i) most us m vs r → ListedTo (joined (i + 1) f) most out vs r
unfolding joined
listed_more f i {out = out} L S = rw (add-one i) (S.step (joined i f) out L)

-- a listing that may write nothing leaves the slice
pub unwritten : {ns out after : List ℕ} {r : ℕ} → ListedTo ns 0 out after r → after ≡ out
unwritten {ns} {out} {after} L = ext_get_or 0 after out L.long (λ i u. L.old i (inr (omega arith)))

-- a listing that may write everything leaves the numbers, and then the rest of the slice
pub written : {ns out after : List ℕ} {most r : ℕ} → ListedTo ns most out after r → r ≤ most → r ≤ length out → after ≡ listed ns out
written {ns} {out} {after} {most} {r} L a b =
    let e = L.entries in
    ext_get_or 0 after (listed ns out) (simp (length-append, length-drop) (omega (arith, L.long)))
    (λ i u.
    ⊎_elim
    (λ (v : i < r). L.new i v (omega arith) ∙ sym (get_or-append ns (drop (length ns) out) 0 i (omega arith)))
    (λ (v : r ≤ i).
    let s : i ≡ length ns + (i - r) = omega arith in
    L.old i (inl v) ∙ (ap (λ (n : ℕ). get_or out n 0) s ∙ (sym (get_or-drop (length ns) out (i - r) 0) ∙ (sym (get_or-append-add ns (drop (length ns) out) (i - r) 0) ∙ ap (λ (n : ℕ). get_or (listed ns out) n 0) (sym s)))))
    (lt_or_ge i r))

-- the tiles of an area are no more than the table's
pub listed_few : (ws : List ℕ) (k : ℕ) (a : Area) → length (tiles_in ws k a) ≤ count ws
unfolding tiles_in
listed_few ws k a = omega (arith, joined_few (count ws) (λ i. cond (meets (tile_of ws i) k a) (i ∷ []) []) 1 (λ i. one (meets (tile_of ws i) k a) i))
  where
    one : (b : Bool) (i : ℕ) → length (cond b (i ∷ []) []) ≤ 1
    one true i = omega arith
    one false i = omega arith
