-- What is written does not depend on how the input is cut into chunks.
use Prim.Native.Nat.{ℕ}
use mathlib.Core.Path.{◌≡◌, refl, sym, ap, ◌∙◌}
use mathlib.Core.List.{List, [], ◌∷◌, ◌++◌, append-nil, append_assoc}
use Rattle.lines.specs.Session.{Model, start, fed, output, last_words, written}
use Rattle.session.specs.Exchange.{whole, exchange, exchanges, talk}
use Rattle.lines.proofs.Chunks.{fed_append, output_append}
use Rattle.session.specs.Wire.{Passed, said, heard_in, said_in, heard_append, said_append}

pub exchanges_on : (m : Model) (cs : List (List ℕ)) (c : List ℕ) → exchanges m (cs ++ (c ∷ [])) ≡ exchanges m cs ++ exchange (fed m (whole cs)) c
unfolding exchanges whole fed
exchanges_on m [] c = refl
exchanges_on m (d ∷ cs) c = ap (λ (l : List Passed). exchange m d ++ l) (exchanges_on (fed m d) cs c ∙ ap (λ (k : Model). exchanges (fed m d) cs ++ exchange k c) (sym (fed_append m d (whole cs))))

pub whole_on : (cs : List (List ℕ)) (c : List ℕ) → whole (cs ++ (c ∷ [])) ≡ whole cs ++ c
unfolding whole
whole_on [] c = append-nil c
whole_on (d ∷ cs) c = ap (λ (l : List ℕ). d ++ l) (whole_on cs c) ∙ sym (append_assoc d (whole cs) c)

exchanges_heard : (m : Model) (cs : List (List ℕ)) → heard_in (exchanges m cs) ≡ whole cs
unfolding exchanges whole heard_in
exchanges_heard m [] = refl
exchanges_heard m (c ∷ cs) = ap (λ (l : List ℕ). c ++ l) (exchanges_heard (fed m c) cs)

exchanges_said : (m : Model) (cs : List (List ℕ)) → said_in (exchanges m cs) ≡ output m (whole cs)
unfolding exchanges whole said_in output
exchanges_said m [] = refl
exchanges_said m (c ∷ cs) = ap (λ (l : List ℕ). output m c ++ l) (exchanges_said (fed m c) cs) ∙ sym (output_append m c (whole cs))

-- what is heard in all is the chunks' bytes, and what is said in all is what the program writes on them, however the input was cut
pub talk_heard : (cs : List (List ℕ)) → heard_in (talk cs) ≡ whole cs
unfolding heard_in
talk_heard cs = heard_append (exchanges start cs) (said (last_words (fed start (whole cs))) ∷ []) ∙ (append-nil (heard_in (exchanges start cs)) ∙ exchanges_heard start cs)

pub talk_said : (cs : List (List ℕ)) → said_in (talk cs) ≡ written (whole cs)
unfolding said_in
talk_said cs =
    let last : List ℕ = last_words (fed start (whole cs)) in
    said_append (exchanges start cs) (said last ∷ []) ∙ (λ i. exchanges_said start cs i ++ append-nil last i)
