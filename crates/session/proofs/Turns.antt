-- Turn after turn: what has passed over the wire is the exchanges of the chunks so far, and they have led to the state.
use Prim.Native.Nat.{ℕ, ◌+◌, ◌*◌, ◌^◌, ◌≤◌}
use native.Mathlib.Omega.{arith}
use mathlib.Core.Bool.{true}
use mathlib.Core.Path.{◌≡◌, sym, ap, subst, ◌∙◌}
use mathlib.Core.List.{List, [], ◌∷◌, ◌++◌, append_assoc}
use lib.ListN.{length, take, length-append}
use lib.Seq.{length-take-le}
use Rattle.session.specs.declared.turn.Session.{Session}
use Rattle.lines.specs.declared.state.State.{State}
use Rattle.session.specs.declared.wire.Wire.{Wire}
use Rattle.session.specs.Wire.{heard, said, Carried, Hears, Says}
use Rattle.lines.specs.Held.{Holds, Took}
use Rattle.std.specs.Prelude.{Option}
use Rattle.std.specs.Io.KnownBytes.{Appends, Consumes}
use Rattle.std.proofs.KnownBytes.{Consumes-nil, Consumes-trans, Appends-nil, Appends-trans}
use Rattle.session.specs.Conversed.{Turned, Conversed, TurnedAt, ConversedAt}
use Rattle.lines.specs.Session.{Model, start, fed, output, last_words, written}
use Rattle.session.specs.Exchange.{whole, exchanges}
use Rattle.lines.proofs.Chunks.{fed_append, output_append}
use Rattle.session.proofs.Exchanges.{exchanges_on, whole_on, talk_heard, talk_said}

-- ---- one turn
-- a chunk has at most 512 bytes, and the replies to its lines have at most 40960
pub chunk_few : {w r : Wire} {buf : List ℕ} (k : ℕ) → length buf ≡ 512 → Hears w r k buf → length (take k buf) ≤ 512
chunk_few {buf = buf} k l H = omega (arith, l, H.within, length-take-le k buf H.within)

pub replies_few : {s r : State} {chunk out : List ℕ} {n : ℕ} → Took s chunk r n out → length chunk ≤ 512 → length (take n out) ≤ 40960
replies_few {out = out} {n = n} T few = omega (arith, few, T.most, length-take-le n out T.within)

module _ {x y : Session} {w : Wire} {buf out : List ℕ} {k n : ℕ} (l : length buf ≡ 512) (H : Hears x.wire w k buf) (T : Took x.state (take k buf) y.state n out) (S : Says w (take n out) y.wire) where
  pub turned : Turned x y
  turned =
      let chunk : List ℕ = take k buf in
      let few = chunk_few k l H in record {
        chunk = chunk;
        few = few;
        some = λ o. omega (arith, length-take-le k buf H.within, H.some (S.was o));
        lines = omega (arith, T.lines, few);
        ins = omega (arith, S.ins, H.ins, l, H.within);
        outs = omega (arith, S.outs, H.outs, replies_few T few);
        holds = λ m held.
            let h = T.holds m held in (
              h.0,
              λ log C.
                  subst (Carried y.wire) (append_assoc log (heard chunk ∷ []) (said (output m chunk) ∷ []))
                  (subst (λ (z : List ℕ). Carried y.wire ((log ++ (heard chunk ∷ [])) ++ (said z ∷ []))) h.1 (S.passed (log ++ (heard chunk ∷ [])) (H.passed log C))),
            );
      }

  pub turned_at : {left left' held held' : Option (List ℕ)} → Consumes left left' (take k buf) → w.whole ≡ x.wire.whole → (y.wire.whole ≡ true → (w.whole ≡ true) × Appends held held' (take n out)) → TurnedAt x y left left' held held'
  unfolding turned
  turned_at {held = held} {held' = held'} C q P = record {
    turned = turned;
    taken = C;
    put = λ o. let p = P o in (sym q ∙ p.0, λ m h. subst (Appends held held') (T.holds m h).1 p.1);
  }

-- ---- the loop, after so many turns
pub record Running (x : Session) (i : ℕ) : Type 0 where
  pub lines : x.state.lines ≤ 512 * i
  pub ins : x.wire.heard ≤ 512 * i
  pub outs : x.wire.said ≤ 40960 * i
  pub chunks : List (List ℕ)
  pub goes : x.wire.open ≡ true → i ≤ length (whole chunks)
  pub holds : Holds x.state (fed start (whole chunks))
  pub passed : Carried x.wire (exchanges start chunks)

pub running_start : {x : Session} → x.state.lines ≡ 0 → Holds x.state start → x.wire.heard ≡ 0 → x.wire.said ≡ 0 → Carried x.wire [] → Running x 0
unfolding whole fed exchanges
running_start e h i o C = record { lines = omega (arith, e); ins = omega (arith, i); outs = omega (arith, o); chunks = []; goes = λ _. omega arith; holds = h; passed = C }

pub running_on : {x y : Session} {i : ℕ} → Running x i → x.wire.open ≡ true → Turned x y → Running y (i + 1)
running_on {y = y} A o T =
    let cs = A.chunks in
    let c = T.chunk in
    let on = T.holds (fed start (whole cs)) A.holds in
    let long : length (whole (cs ++ (c ∷ []))) ≡ length (whole cs) + length c = ap length (whole_on cs c) ∙ length-append (whole cs) c in record {
      lines = omega (arith, A.lines, T.lines);
      ins = omega (arith, A.ins, T.ins);
      outs = omega (arith, A.outs, T.outs);
      chunks = cs ++ (c ∷ []);
      goes = λ p. omega (arith, A.goes o, T.some p, long);
      holds = subst (Holds y.state) (sym (ap (fed start) (whole_on cs c) ∙ fed_append start (whole cs) c)) on.0;
      passed = subst (Carried y.wire) (sym (exchanges_on start cs c)) (on.1 (exchanges start cs) A.passed);
    }

-- the loop at a reader and a writer
pub record RunningAt (x : Session) (i : ℕ) (left left' held held' : Option (List ℕ)) : Type 0 where
  pub running : Running x i
  pub taken : Consumes left left' (whole running.chunks)
  pub put : x.wire.whole ≡ true → Appends held held' (output start (whole running.chunks))

pub running_at_start : {x : Session} (left held : Option (List ℕ)) → x.state.lines ≡ 0 → Holds x.state start → x.wire.heard ≡ 0 → x.wire.said ≡ 0 → Carried x.wire [] → RunningAt x 0 left left held held
unfolding running_start whole output
running_at_start left held e h i o C = record { running = running_start e h i o C; taken = Consumes-nil left; put = λ _. Appends-nil held }

pub running_at_on : {x y : Session} {i : ℕ} {left left' left'' held held' held'' : Option (List ℕ)} → RunningAt x i left left' held held' → x.wire.open ≡ true → TurnedAt x y left' left'' held' held'' → RunningAt y (i + 1) left left'' held held''
unfolding running_on
running_at_on {left = left} {left'} {left''} {held = held} {held'} {held''} A o T =
    let cs = A.running.chunks in
    let c = T.turned.chunk in record {
      running = running_on A.running o T.turned;
      taken = subst (Consumes left left'') (sym (whole_on cs c)) (Consumes-trans left left' left'' (whole cs) c A.taken T.taken);
      put = λ p.
          let q = T.put p in
          subst (Appends held held'') (sym (ap (output start) (whole_on cs c) ∙ output_append start (whole cs) c))
          (Appends-trans held held' held'' (output start (whole cs)) (output (fed start (whole cs)) c) (A.put q.0) (q.1 (fed start (whole cs)) A.running.holds));
    }

-- ---- the end: the wire is closed, or all turns are taken
pub conversed : {x : Session} {w : Wire} {bs : List ℕ} {i : ℕ} → Running x i → (x.wire.open ≡ true → 2 ^ 48 ≤ i) → ((m : Model) → Holds x.state m → bs ≡ last_words m) → Says x.wire bs w → Conversed w
conversed {w = w} A far last S =
    let cs = A.chunks in
    record {
      chunks = cs;
      passed = subst (λ (z : List ℕ). Carried w (exchanges start cs ++ (said z ∷ []))) (last (fed start (whole cs)) A.holds) (S.passed (exchanges start cs) A.passed);
      answers = talk_said cs ∙ ap written (sym (talk_heard cs));
      ended = λ o. omega (arith, A.goes (S.was o), far (S.was o), ap length (talk_heard cs));
    }

pub conversed_at : {x : Session} {w : Wire} {bs : List ℕ} {i : ℕ} {left left' held held' held'' : Option (List ℕ)} → RunningAt x i left left' held held' → (x.wire.open ≡ true → 2 ^ 48 ≤ i) → ((m : Model) → Holds x.state m → bs ≡ last_words m)
    → Says x.wire bs w → (w.whole ≡ true → (x.wire.whole ≡ true) × Appends held' held'' bs) → ConversedAt w left left' held held''
unfolding conversed
conversed_at {bs = bs} {left = left} {left'} {held = held} {held'} {held''} A far last S P =
    let cs = A.running.chunks in
    let m = fed start (whole cs) in record {
      conversed = conversed A.running far last S;
      taken = subst (Consumes left left') (sym (talk_heard cs)) A.taken;
      put = λ o.
          let p = P o in
          subst (Appends held held'') (ap (λ (l : List ℕ). output start (whole cs) ++ l) (last m A.running.holds) ∙ sym (talk_said cs))
          (Appends-trans held held' held'' (output start (whole cs)) bs (A.put p.0) p.1);
    }
