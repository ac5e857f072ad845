-- What a walk by hand over a `Handle` needs, though the check finds the ways through its functions today. A `&[u16]` and a handle are Copy: what a slice owns is had twice, and a handle gives what its table owns and stays owned.
-- A word is owned for nothing. What `handle_of` returns is known whole, and may lie in a local.
use mathlib.Core.Path.{◌≡◌, refl}
use Prim.Native.Nat.{ℕ, ◌<◌, ◌^◌}
use mathlib.Core.List.{List, [], ◌∷◌}
use lib.Dec.{T as Holds}
use lib.ListN.{length}
use seplogic.Ra.Ura.{Ura}
use mir.Syntax.{named, erased, w16}
use mir.Val.{Val, WT, has_ty, vint}
use base.Logic.{SProp, ent, sep, snd∗, ex_e}
use base.Fml.{Lft, Share, Fml, ftrue, fsep, flft}
use prog.Memory.{Memory}
use prog.Routine.{Routine}
use types.Logic.{Logic, sem}
use contract.Monad.{Fun, fact}
use types.Kit.{Goal, Step, step, Item, ‵, ◌⊛◌, given, ⋆, ◌$◌, ◌∵◌, !, qed, move, drop, use1, split, join, learn, fjoin, frame, done}
use denote.RattleType.{RattleType}
use denote.Laws.{Is}
use denote.Plain.{uint_Makes, uint_row_laws}
use denote.Builtin.{u16}
use denote.Ref.{Bor, NamedLft}
use denote.Slice.{slice_val, ShrSlice, shr_slice_copy}
use denote.Steps.{owned, nothing}
use denote.Struct.Declared.{Declared}
use denote.Struct.Laws as LL
use denote.Struct.Rest.{all_own, field_own, rest, own_open, own_out}
use denote.Struct.Values.{Values}
use denote.Triple.Statement.{Contract}
use denote.Triple.Clauses.{ensured, lasts}
use denote.Triple.Spec.{triple_of}
use Rattle.plane.specs.Words.{width, height}
use Rattle.ask.specs.declared.handle.Handle.{Handle}
use Rattle.ask.specs.contracts.handle.Handle as T
use Rattle.ask.proofs.handle.Handle.TheLaws as T'
use Rattle.ask.specs.contracts.handle.Handle.of as handle-of

-- the machine value of a slice
abbrev pub lies : Bor (List ℕ) → Val
lies s = slice_val s.ref_ptr (length s.now)

-- what a `&[u16]` owns
abbrev pub SliceOwn : Lft → Bor (List ℕ) → Fml
SliceOwn κ s = (ShrSlice (named 0) κ u16).own_val s (lies s ∷ [])

-- a handle's type, as a signature has it, and what a handle of the machine value u owns
abbrev pub HandleT : Lft → RattleType
HandleT κ = T.the_row (record { mir = named 0; lft = κ })

abbrev pub HandleOwn : Lft → Val → Handle → Fml
HandleOwn κ u d = (HandleT κ).own_val d (u ∷ [])

module _ {M : Type 1} {𝓤 : Ura M} {𝓛 : Logic 𝓤} {K : Type 0} {Γ : List (Item 𝓤)} {G : Goal 𝓤 𝓛.H} where
  -- what a word owns is put before what is owned
  pub word : K → (n : ℕ) → n < 2 ^ 16 → {P : Fml} → Step K 𝓛 (‵ (fsep (u16.own_val n (vint w16 n ∷ [])) P) ∷ Γ) G (‵ P ∷ Γ) G
  word t n fits = step (λ k. owned t u16 (Is u16) (uint_Makes 𝓛 w16) n _ (refl, fits) $ fjoin t $ k)

  -- what a slice owns, twice
  pub twice : K → (κ : Lft) (s : Bor (List ℕ)) → Step K 𝓛 (‵ (SliceOwn κ s) ∷ ‵ (SliceOwn κ s) ∷ Γ) G (‵ (SliceOwn κ s) ∷ Γ) G
  twice t κ s = step (λ k. use1 𝓛 (‵ (SliceOwn κ s) ⊛ ‵ (SliceOwn κ s)) ((shr_slice_copy 𝓛 (named 0) κ u16 (uint_row_laws w16)).twice s (lies s ∷ [])) $ split t $ k)

module _ (κ : Lft) (d : Handle) where
  abbrev α : NamedLft
  α = record { mir = named 0; lft = κ }

  abbrev D : Declared
  D = T.the_type α

  abbrev L : LL.Laws D
  L = T'.the_laws α

  abbrev fields : Values D.parts
  fields = (d.table, (d.width, (d.height, tt)))

  abbrev u : Val
  u = T'.lowered d

  pub table_out : {M : Type 1} {𝓤 : Ura M} (𝓛 : Logic 𝓤) → ent 𝓤 (sem 𝓛 (HandleOwn κ u d)) (sep 𝓤 (sem 𝓛 (SliceOwn κ d.table)) (sem 𝓛 (HandleOwn κ u d)))
  table_out 𝓛 =
      qed 𝓛 (‵ (HandleOwn κ u d) ∷ []) ∵ use1 𝓛 (‵ (HandleOwn κ u d) ⊛ ‵ (HandleOwn κ u d)) ((LL.copy D (T'.the_copy α) 𝓛).twice d (u ∷ [])) $ split ! $
      use1 𝓛 (given (u ∷ [] ≡ u ∷ []) (‵ (all_own D.parts L fields))) (own_open 𝓛 D L fields u) $ learn ! (λ _.
      use1 𝓛 (‵ (field_own D.parts L 0 d.table) ⊛ ‵ (rest D.parts L 0 fields)) (own_out 𝓛 D.parts L 0 fields) $ split ! $ move ! (1 ∷ []) $ drop ! $ frame ! $ done !)

-- a handle's machine value has the type of a local, whose lifetime is erased
pub held : {M : Type 1} {𝓤 : Ura M} (𝓛 : Logic 𝓤) → (κ : Lft) (d : Handle) (u : Val) → Is (HandleT κ) d (u ∷ []) → Holds (has_ty (T'.mir erased) u) × WT u
held 𝓛 κ d u is = ((LL.lawful (T.the_type (record { mir = erased; lft = κ })) (T'.the_laws (record { mir = erased; lft = κ })) 𝓛).typed d _ is).0

-- the handle on a table, and what `handle_of` says of its result
abbrev pub handle_on : Bor (List ℕ) → Handle
handle_on s = record { table = s; width = width s.now; height = height s.now }

abbrev pub Made : Bor (List ℕ) → Handle → Type 0
Made s r = (r.table ≡ s) × (r.width ≡ width s.now) × (r.height ≡ height s.now)

pub made_is : {s : Bor (List ℕ)} {r : Handle} → Made s r → r ≡ handle_on s
made_is e = λ i. record { table = e.0 i; width = e.1 i; height = e.2 i }

module _ {M : Type 1} {𝓤 : Ura M} (𝓛 : Logic 𝓤) (mem : Memory → SProp 𝓤) (run : Routine → Fun 𝓤) where
  -- the contract of `handle_of`, what a call of it is passed and asked, and what it ensures
  abbrev pub New : Contract 𝓤
  New = triple_of 𝓛 handle-of.signature (handle-of.spec 𝓛 mem run)

  abbrev pub to_new : Lft → Share → Bor (List ℕ) → New.Ghost
  to_new κ q s = (((κ, tt), (q, tt), tt, (s, tt), (lies s ∷ [], tt)), tt)

  pub goes_new : (κ : Lft) (q : Share) (s : Bor (List ℕ)) → ent 𝓤 (⋆ 𝓛 ((‵ (flft κ q) ⊛ ‵ ftrue) ∷ ‵ (SliceOwn κ s) ∷ [])) (New.pre (to_new κ q s))
  goes_new κ q s = qed 𝓛 ((‵ (flft κ q) ⊛ ‵ ftrue) ∷ ‵ (SliceOwn κ s) ∷ []) ∵ nothing ! $ move ! (2 ∷ 0 ∷ []) $ fjoin ! $ move ! (1 ∷ 0 ∷ []) $ join ! $ frame ! $ done !

  abbrev pub NewSays : Lft → Bor (List ℕ) → Handle → SProp 𝓤
  NewSays κ s r = ensured 𝓛 handle-of.ended (handle-of.clauses 𝓛 mem run) (κ, tt) (s, tt) tt r

  pub new_said : (κ : Lft) (s : Bor (List ℕ)) (r : Handle) → ent 𝓤 (NewSays κ s r) (fact 𝓤 (Made s r))
  new_said κ s r = ex_e 𝓤 _ (λ ws. snd∗ 𝓤 (sem 𝓛 (lasts handle-of.ended (κ, tt) (s, tt) ws)) (fact 𝓤 (Made s r)))
