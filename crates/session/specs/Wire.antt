-- What passes over the wire between the program and its user: a log of the bytes heard and said, and which log a wire has carried.
use Rattle.std.specs.Prelude.{ℕ, ◌+◌, ◌≤◌, ◌<◌, true, ◌≡◌, refl, List, [], ◌∷◌, ◌++◌, length, take}
use Rattle.std.proofs.Common.{sym, ap, ◌∙◌, append-nil, append_assoc, length-append}
use Rattle.session.specs.declared.wire.Wire.{Wire}

-- bytes heard from the reader, or bytes said to the writer: standard input and standard output in the program
pub data Passed : Type 0 where
  heard : List ℕ → Passed
  said : List ℕ → Passed

-- all bytes heard in a log, and all bytes said
unfoldable pub heard_in : List Passed → List ℕ
heard_in [] = []
heard_in (heard bs ∷ log) = bs ++ heard_in log
heard_in (said bs ∷ log) = heard_in log

unfoldable pub said_in : List Passed → List ℕ
said_in [] = []
said_in (heard bs ∷ log) = said_in log
said_in (said bs ∷ log) = bs ++ said_in log

-- The wire w has carried this log. The fields, that its counts are the log's, are shut: no other file can open such a record or make one but by the rules below,
-- and these ask for counts that only hear and say know. So what the program proves to have passed, it was told by them: a log with other bytes is no help, if only as long.
pub record Carried (w : Wire) (log : List Passed) : Type 0 where
  ins : w.heard ≡ length (heard_in log)
  outs : w.said ≡ length (said_in log)

-- k bytes have been read, to the start of buf: none if the input has ended
pub record Hears (w r : Wire) (k : ℕ) (buf : List ℕ) : Type 0 where
  pub within : k ≤ length buf
  pub some : r.open ≡ true → 0 < k
  pub ins : r.heard ≤ w.heard + k
  pub outs : r.said ≤ w.said
  pub passed : (log : List Passed) → Carried w log → Carried r (log ++ (heard (take k buf) ∷ []))

-- bytes have been handed to write
pub record Says (w : Wire) (bytes : List ℕ) (r : Wire) : Type 0 where
  pub was : r.open ≡ true → w.open ≡ true
  pub ins : r.heard ≤ w.heard
  pub outs : r.said ≤ w.said + length bytes
  pub passed : (log : List Passed) → Carried w log → Carried r (log ++ (said bytes ∷ []))

-- ---- the rules of Carried, for hear and say
pub heard_append : (a b : List Passed) → heard_in (a ++ b) ≡ heard_in a ++ heard_in b
unfolding heard_in
heard_append [] b = refl
heard_append (heard bs ∷ a) b = ap (λ (l : List ℕ). bs ++ l) (heard_append a b) ∙ sym (append_assoc bs (heard_in a) (heard_in b))
heard_append (said bs ∷ a) b = heard_append a b

pub said_append : (a b : List Passed) → said_in (a ++ b) ≡ said_in a ++ said_in b
unfolding said_in
said_append [] b = refl
said_append (heard bs ∷ a) b = said_append a b
said_append (said bs ∷ a) b = ap (λ (l : List ℕ). bs ++ l) (said_append a b) ∙ sym (append_assoc bs (said_in a) (said_in b))

pub carried_none : {w : Wire} → w.heard ≡ 0 → w.said ≡ 0 → Carried w []
unfolding heard_in said_in
carried_none h s = record { ins = h; outs = s }

module _ {w r : Wire} {log : List Passed} (bs : List ℕ) where
  pub carried_heard : r.heard ≡ w.heard + length bs → r.said ≡ w.said → Carried w log → Carried r (log ++ (heard bs ∷ []))
  unfolding heard_in said_in
  carried_heard h s C = record {
    ins = h ∙ (ap (λ (n : ℕ). n + length bs) C.ins ∙ sym (ap length (heard_append log (heard bs ∷ []) ∙ ap (λ (l : List ℕ). heard_in log ++ l) (append-nil bs)) ∙ length-append (heard_in log) bs));
    outs = s ∙ (C.outs ∙ sym (ap length (said_append log (heard bs ∷ []) ∙ append-nil (said_in log))));
  }

  pub carried_said : r.heard ≡ w.heard → r.said ≡ w.said + length bs → Carried w log → Carried r (log ++ (said bs ∷ []))
  unfolding heard_in said_in
  carried_said h s C = record {
    ins = h ∙ (C.ins ∙ sym (ap length (heard_append log (said bs ∷ []) ∙ append-nil (heard_in log))));
    outs = s ∙ (ap (λ (n : ℕ). n + length bs) C.outs ∙ sym (ap length (said_append log (said bs ∷ []) ∙ ap (λ (l : List ℕ). said_in log ++ l) (append-nil bs)) ∙ length-append (said_in log) bs));
  }
