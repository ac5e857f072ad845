-- A chunk taken byte by byte: what its first i bytes have led to.
use Prim.Native.Nat.{ℕ, ◌+◌, ◌*◌, ◌<◌, ◌≤◌}
use native.Mathlib.Omega.{arith}
use mathlib.Core.Path.{◌≡◌, refl, sym, ap, subst, ◌∙◌}
use mathlib.Core.List.{List, ◌++◌}
use lib.ListN.{length, get_or, take}
use Rattle.text.specs.declared.writer.Writer.{Writer}
use Rattle.lines.specs.declared.state.State.{State}
use Rattle.lines.specs.Held.{Holds, Stepped}
use Rattle.lines.specs.Session.{Model, fed, output, spoken}
use Rattle.lines.proofs.Chunks.{fed_more, output_more}

-- whatever session s held before the chunk, st holds what its first i bytes make of it, and what is said at them stands at the start of out
pub record Going (chunk : List ℕ) (s : State) (w : Writer) (st : State) (out : Writer) (i : ℕ) : Type 0 where
  pub most : out.at ≤ i * 80
  pub long : length out.out.now ≡ length w.out.now
  pub same : out.out.ghost_name ≡ w.out.ghost_name
  pub lines : st.lines ≤ s.lines + i
  pub holds : (m : Model) → Holds s m → Holds st (fed m (take i chunk)) × (take out.at out.out.now ≡ output m (take i chunk))

pub going_start : {chunk : List ℕ} {s : State} {w : Writer} → w.at ≡ 0 → Going chunk s w s w 0
unfolding fed output
going_start {w = w} e = record { most = omega arith; long = refl; same = refl; lines = omega arith; holds = λ m h. (h, ap (λ (n : ℕ). take n w.out.now) e) }

pub going_on : {chunk : List ℕ} {s st r : State} {w out next : Writer} {i b : ℕ} → Going chunk s w st out i → i < length chunk → b ≡ get_or chunk i 0 → Stepped st b out r next → Going chunk s w r next (i + 1)
going_on {chunk} {s} {st} {r} {w} {out} {next} {i} {b} G h is S = record {
  most = omega (arith, S.most, G.most);
  long = S.long ∙ G.long;
  same = S.same ∙ G.same;
  lines = omega (arith, S.lines, G.lines);
  holds = λ m held.
      let g = G.holds m held in
      let k = S.holds (fed m (take i chunk)) g.0 in (
        subst (Holds r) (sym (fed_more m chunk i b h is)) k.0,
        k.1 ∙ (ap (λ (x : List ℕ). x ++ spoken (fed m (take i chunk)) b) g.1 ∙ sym (output_more m chunk i b h is)),
      );
}
