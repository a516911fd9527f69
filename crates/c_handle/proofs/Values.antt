-- The machine value of a `Handle`. Assumes `Logic`.
use Rattle.std.proofs.Common.{◌≡◌, ℕ, ◌<◌, List, [], ◌∷◌, ◌++◌, refl, sym, ap, ◌∙◌, subst, lit<}
use Prim.Native.Nat.{zero, ◌^◌}
use lib.Dec.{T}
use seplogic.Ra.Ura.{Ura}
use base.Fml.{ftrue}
use base.Fraction.{full_share}
use base.Logic.{SProp, ent, via, snd∗, guard, guard_i, never_e}
use contract.Monad.{fact_mono, fact_use}
use mir.Raw.{raw as bare}
use mir.Syntax.{Ty}
use mir.Val.{Val, vstruct, vcons, vnil, of_list, has_ty, WT}
use types.Logic.{Logic, sem}
use types.Kit.{Item, Goal, Seq, Step, step, ‵, given, ◌$◌, drop, fsplit, fjoin, fpick, fpack, feq_i, feq_l, learn, use1}
use denote.RattleType.{Valss}
use denote.Builtin.{RawPtr}
use denote.Memory.{lone}
use denote.RawPtr.{Ptr, block_ptr, null_ptr, ptr_val, count_of, lies_at, Testable}
use denote.Param.{layout}
use denote.Steps.{nothing}
use denote.Struct.Struct.{within}
use denote.Struct.Owning.{shape}
use Rattle.c_handle.specs.Handle.{handle_owns}
use Rattle.c_handle.specs.contracts.handle.Handle as handle
use Rattle.c_handle.specs.contracts.thing.Thing as thing
use Rattle.libc.specs.Heap.{chunk, chunk_start}
use Rattle.std.specs.Box.Ownership.{box_owns}
use Rattle.std.specs.declared.option.Option.{Option}
use Rattle.std.specs.declared.option.Option.TheVariants.{None, Some}

abbrev pub Handle : denote.RattleType.RattleType
Handle = handle.the_row

abbrev pub word : Ptr → Val
word p = vstruct (vcons (ptr_val p) vnil)

-- a pointer has its type's layout, and so has a handle
pub word_good : (p : Ptr) → T (has_ty (layout Handle) (word p)) × WT (word p)
word_good (block_ptr b o) = (tt, (tt, tt))
word_good null_ptr = (tt, (record { fits = lit< tt }, tt))

module _ {M : Type 1} {𝓤 : Ura M} {𝓛 : Logic 𝓤} {K : Type 0} {Γ : List (Item 𝓤)} {G : Goal 𝓤 𝓛.H} where
  pub handle_out : K → (d : Handle.Denot) (vs : List Val) → (vs ≡ word d.at ∷ [] → Seq K 𝓛 (‵ (handle_owns d.at d.held) ∷ Γ) G) → Seq K 𝓛 (‵ (Handle.own_val d vs) ∷ Γ) G
  handle_out t d vs k = fsplit t $ fpick t (λ vss. fsplit t $ feq_l t (λ e. fsplit t $ feq_l t (λ p. drop t $
      k (e ∙ ap (λ (ps : List Val). vstruct (of_list (ps ++ [])) ∷ []) p))))

  pub handle_in : K → (d : Handle.Denot) → Step K 𝓛 (‵ (Handle.own_val d (word d.at ∷ [])) ∷ Γ) G (‵ (handle_owns d.at d.held) ∷ Γ) G
  handle_in t d = step (λ s. nothing t $ feq_i t (List Val) (ptr_val d.at ∷ []) (ptr_val d.at ∷ []) refl $ fjoin t $ feq_i t (List Val) (word d.at ∷ []) (word d.at ∷ []) refl $ fjoin t $
      fpack t (Valss (RawPtr ∷ [])) (within (shape handle.the_type) (d.at, tt) (word d.at ∷ [])) (ptr_val d.at ∷ [], tt) $ fjoin t $ s)

  -- nothing is held at null, and else a box
  pub handle_cases : K → (p : Ptr) (k : Option thing.the_row.Denot) → (p ≡ null_ptr → k ≡ None → Seq K 𝓛 (‵ (handle_owns p k) ∷ Γ) G)
      → ((b o : ℕ) (x : thing.the_row.Denot) → p ≡ block_ptr b o → k ≡ Some x → Seq K 𝓛 (‵ (box_owns chunk thing.the_row (block_ptr b o) x) ∷ Γ) G)
      → Seq K 𝓛 (‵ (handle_owns p k) ∷ Γ) G
  handle_cases t null_ptr None at_null in_block = at_null refl refl
  handle_cases t null_ptr (Some x) at_null in_block = use1 𝓛 (given ⊥ (‵ ftrue)) (never_e 𝓤 _) $ learn t (λ z. absurd z)
  handle_cases t (block_ptr b o) None at_null in_block = use1 𝓛 (given ⊥ (‵ ftrue)) (never_e 𝓤 _) $ learn t (λ z. absurd z)
  handle_cases t (block_ptr b o) (Some x) at_null in_block = in_block b o x refl refl

-- a block that the heap may take back begins at its start, so it may be tested
pub tested : {M : Type 1} {𝓤 : Ura M} (𝓛 : Logic 𝓤) (p : Ptr) (x : thing.the_row.Denot)
    → ent 𝓤 (sem 𝓛 (box_owns chunk thing.the_row p x)) (guard 𝓤 (Testable p) (sem 𝓛 (box_owns chunk thing.the_row p x)))
tested {𝓤 = 𝓤} 𝓛 p x = let τ : Ty = bare (lone (thing.the_row).mir) in let Boxed : SProp 𝓤 = sem 𝓛 (box_owns chunk thing.the_row p x) in
    fact_use 𝓤 (Testable p) (via 𝓤 _ (via 𝓤 _ (snd∗ 𝓤 (sem 𝓛 (lies_at thing.the_row full_share p x)) (sem 𝓛 (chunk τ p))) (chunk_start 𝓛 τ p))
    (fact_mono 𝓤 (count_of p ≡ zero) (Testable p) (λ e. subst (λ (k : ℕ). k < 2 ^ 63) (sym e) (lit< tt)))) (guard_i 𝓤 (Testable p) Boxed)
