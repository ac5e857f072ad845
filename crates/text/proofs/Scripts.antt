-- What a walk by hand over a `Script` needs, though the check finds the ways through its functions today: its two fields fit their words, and a `Script` in a local may be lent and taken back.
use mathlib.Core.Path.{refl}
use Prim.Native.Nat.{ℕ, ◌<◌, ◌^◌}
use mathlib.Core.List.{[], ◌∷◌, List}
use seplogic.Ra.Ura.{Ura}
use base.Fraction.{full_share}
use mir.Val.{Val}
use base.Logic.{ent}
use base.Fml.{Fml, fsep, fat}
use types.Logic.{Logic, sem}
use types.Kit.{‵, ⋆, ◌$◌, ◌∵◌, !, qed, use1, fsplit, fjoin, fpick, fpack, frame, done}
use denote.Laws.{Is, shows}
use denote.Memory.{mem, cell_at, part_of}
use denote.Struct.Steps.{spelt}
use denote.Struct.Laws as LL
use Rattle.text.specs.declared.script.Script.{Script}
use Rattle.text.specs.contracts.script.Script as T
use Rattle.text.proofs.script.Script.TheLaws as T'

-- h is a script of the machine
abbrev Held : Script → Type 0
Held h = Is T.the_row h (T'.lowered h ∷ [])

pub held : (h : Script) → h.at < 2 ^ 64 → h.line < 2 ^ 64 → Held h
held h at line = LL.owes T.the_type T'.the_laws h ((refl, at), ((refl, line), tt))

pub at_fits : (h : Script) → Held h → h.at < 2 ^ 64
at_fits h is = (LL.owed T.the_type T'.the_laws h (T'.lowered h ∷ []) is).0.1

pub line_fits : (h : Script) → Held h → h.line < 2 ^ 64
line_fits h is = (LL.owed T.the_type T'.the_laws h (T'.lowered h ∷ []) is).1.0.1

-- ---- a `Script` in a local: its cell and what it owns are what a borrow of it holds
module _ {M : Type 1} {𝓤 : Ura M} (𝓛 : Logic 𝓤) (h : Script) (l : ℕ) where
  pub lies_in : ent 𝓤 (⋆ 𝓛 (‵ (fat full_share T'.mir l 0 (T'.lowered h)) ∷ ‵ ((T.the_row).own_val h (T'.lowered h ∷ [])) ∷ [])) (sem 𝓛 ((mem T.the_row).own_at h l 0))
  unfolding part_of
  lies_in =
      qed 𝓛 (‵ (fat full_share T'.mir l 0 (T'.lowered h)) ∷ ‵ ((T.the_row).own_val h (T'.lowered h ∷ [])) ∷ []) ∵
      use1 𝓛 (‵ (cell_at full_share (T.the_row).mir (T'.lowered h ∷ []) l 0)) (𝓛.laws.at_raw full_share T'.mir l 0 (T'.lowered h)) $ fjoin ! $
      fpack ! (List Val) (λ vs. both vs) (T'.lowered h ∷ []) $ done !
    where
      both : List Val → Fml
      both vs = fsep (cell_at full_share (T.the_row).mir vs l 0) ((T.the_row).own_val h vs)

  pub lies_out : ent 𝓤 (sem 𝓛 ((mem T.the_row).own_at h l 0)) (⋆ 𝓛 (‵ (fat full_share T'.mir l 0 (T'.lowered h)) ∷ ‵ ((T.the_row).own_val h (T'.lowered h ∷ [])) ∷ []))
  unfolding part_of
  lies_out =
      qed 𝓛 (‵ ((mem T.the_row).own_at h l 0) ∷ []) ∵ fpick ! (λ vs. fsplit ! $
      spelt ! T.the_row (Is T.the_row) (shows 𝓛 T.the_row) (LL.vals T.the_type T'.the_laws) (LL.tells T.the_type T'.the_laws) full_share h vs l 0 $
      use1 𝓛 (‵ (fat full_share T'.mir l 0 (T'.lowered h))) (𝓛.laws.raw_at full_share T'.mir l 0 (T'.lowered h)) $ frame ! $ done !)
