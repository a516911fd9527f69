-- `into_loose` keeps the pointer, which is a box's, since something is held.
use Rattle.std.proofs.Common.{◌≡◌, ◌≢◌, List, [], ◌∷◌, ◌++◌, refl}
use seplogic.Ra.Ura.{Ura}
use base.Logic.{SProp, ent, via, sep, fst∗, guard_i, id⊢, never, never_e}
use base.Fml.{Fml, ftrue}
use mir.Syntax.{tcons, tnil}
use mir.Val.{Val, vptr}
use prog.Model.{Model}
use prog.Wp.{WpFn}
use types.Logic.{Logic, sem}
use types.Kit.{‵, raw, ◌⊛◌, given, prop, ◌$◌, ◌∵◌, !, qed, by, move, drop, keep, split, join, fsplit, regoal, suffices}
use types.Kit.{learn, use1, done}
use types.Run.{stop, fld, of_opd, no_more, and_then, returns, enter}
use types.Part.{agg, sub, whole}
use types.ByLocal.{alloc_all, pass_all, free_all, look_at, get, get_in, sets}
use contract.Fact.{fact}
use contract.Monad.{fact_use}
use contract.Running.{Running, MachineTables, tables}
use denote.Exit.{yes}
use denote.RattleType.{RattleType, owns}
use denote.Param.{layout}
use denote.RawPtr.{Ptr, block_ptr, null_ptr}
use denote.Triple.Clauses.{Clauses}
use Rattle.std.proofs.cell.Inside.{Good}
use Rattle.std.specs.declared.option.Option.{Option}
use Rattle.c_handle.specs.Handle.{handle_owns}
use denote.Signature.{types_at, plain}
use denote.Steps.{nothing}
use denote.Triple.Walked.{Stays, walk_of, says, stay_dropped, ends_at}
use Rattle.std.proofs.alloc.Calls.{Goes-blank, handle_tells}
use Rattle.std.proofs.raw_atomic.Walks.{proved_at}
use Rattle.std.specs.declared.option.Option.TheVariants.{None, Some}
use Rattle.std.specs.contracts.alloc.Global as heap
use Rattle.std.proofs.alloc.Global.TheLaws as heap_laws
use Rattle.std.specs.contracts.impls.GlobalAllocator.TheImpl.{ghosts}
use Rattle.c_handle.specs.contracts.thing.Thing as thing
use Rattle.c_handle.proofs.LooseValues.{Loose, al, both, loose_good, loose_in}
use Rattle.c_handle.proofs.Values.{Handle, word, word_good, handle_out}
use Rattle.c_handle.specs.contracts.handle.Handle.into_loose as f
use Rattle.c_handle.proofs.handle.Handle.into_loose.Statement.{statement}
use Rattle.c_handle.proofs.handle.Handle.into_loose.Code as code

abbrev Row : RattleType
Row = Loose thing.the_row heap.the_row heap_laws.the_row_laws ghosts

abbrev stayed : Stays f.ended.signature.params f.ended.kept
stayed = (stay_dropped (plain (λ _. Handle)) yes, (stay_dropped (plain (λ _. heap.the_row)) yes, tt))

module _ {M : Type 1} {𝓤 : Ura M} (𝓛 : Logic 𝓤) (𝓜 : Model 𝓤 𝓛.H) (𝓡 : Running 𝓤 𝓛.H 𝓜) where
  abbrev 𝓣 : MachineTables 𝓤 𝓛.H 𝓜
  𝓣 = tables 𝓤 𝓛.H 𝓜 𝓡 𝓡.env

  abbrev c : Clauses 𝓤 f.ended
  c = f.clauses 𝓛 𝓜.mem 𝓡.returns

  module _ (y : (walk_of 𝓛 f.ended stayed c).Ghost) (h : Val) (fits : Good (layout heap.the_row) h) where
    abbrev a : heap.the_row.Denot
    a = y.0.3.1.0

    abbrev Heap : Fml
    Heap = (heap.the_row).own_val a (h ∷ [])

    abbrev Runs : Ptr → SProp 𝓤
    Runs p = WpFn 𝓤 𝓛.H 𝓣.C 𝓣.Λ code.function (word p ∷ h ∷ []) ((walk_of 𝓛 f.ended stayed c).post y)

    goes : (p : Ptr) (k : Option thing.the_row.Denot) → y.0.3.0.held ≡ k → y.0.3.0.held ≢ None → ent 𝓤 (sep 𝓤 (sem 𝓛 (handle_owns p k)) (sem 𝓛 Heap)) (Runs p)
    goes p None e some = absurd (some e)
    goes null_ptr (Some x) e some = via 𝓤 (never 𝓤) (fst∗ 𝓤 (never 𝓤) (sem 𝓛 Heap)) (never_e 𝓤 _)
    goes (block_ptr b o) (Some x) e some = let p : Ptr = block_ptr b o in let made : Val = both (vptr b o) h in
        let typed = loose_good thing.the_row heap.the_row heap_laws.the_row_laws ghosts b o h fits in let d : Row.Denot = record { at = p; alloc = a; value = x } in
        qed 𝓛 (‵ (handle_owns p (Some x)) ∷ ‵ Heap ∷ []) ∵ enter ! _ _ _ _ _ $ alloc_all ! (λ l. pass_all ! refl (word_good p, (fits, tt)) $
        sets ! (of_opd ! (get_in ! (fld ! refl (stop !)) (sub ! {τs = tcons _ tnil} 0 refl (whole !)))) refl (tt, tt) $
        sets ! (of_opd ! (get ! refl)) refl (tt, tt) $ sets ! (agg ! (and_then ! (get ! refl) (and_then ! (get ! refl) (no_more !)))) refl typed $
        returns ! (look_at ! 0 refl) $ free_all ! refl $ loose_in thing.the_row heap.the_row heap_laws.the_row_laws ghosts {Γ = []} ! b o h a x $
        suffices ! _ (ends_at 𝓛 f.ended stayed c y made d (tt, (tt, tt)) (tt, (tt, tt))) $ says ! e $ nothing ! $ nothing ! $ join ! $ nothing ! $ join ! $ nothing ! $ done !)

pub into_loose_spec : {M : Type 1} → statement M
into_loose_spec 𝓤 𝓛 𝓜 𝓡 wired =
    let c = f.clauses 𝓛 𝓜.mem 𝓡.returns in let 𝓣 = tables 𝓤 𝓛.H 𝓜 𝓡 𝓡.env in
    proved_at 𝓛 f.ended stayed c 𝓜 𝓡 (Goes-blank 𝓛 0 (plain (λ _. Handle)) yes (λ κs x w. tt), (Goes-blank 𝓛 0 (plain (λ _. heap.the_row)) yes (λ κs x w. tt), tt))
    f.Key.name code.function (code.unfolded 𝓤 𝓛.H 𝓜 𝓡 wired) (λ y are.
    let x = y.0.3.0 in let a = y.0.3.1.0 in let Held : Type 0 = x.held ≢ None in let Run : List Val → SProp 𝓤 = λ ws. WpFn 𝓤 𝓛.H 𝓣.C 𝓣.Λ code.function ws ((walk_of 𝓛 f.ended stayed c).post y) in
    qed 𝓛 ((‵ ftrue ⊛ ‵ (owns (types_at f.ended.signature.params y.0.0) y.0.3 y.0.4)) ∷ raw (fact 𝓤 Held) ∷ []) ∵
    move ! (1 ∷ []) $ use1 𝓛 (given Held (raw (fact 𝓤 Held))) (fact_use 𝓤 Held (id⊢ 𝓤 (fact 𝓤 Held)) (guard_i 𝓤 Held (fact 𝓤 Held))) $ learn ! (λ some. drop ! $
    split ! $ drop ! $ fsplit ! $ move ! (1 ∷ []) $ fsplit ! $ move ! (2 ∷ []) $
    handle_out ! x y.0.4.0 (λ us. move ! (1 ∷ []) $ handle_tells (al thing.the_row heap.the_row heap_laws.the_row_laws ghosts) ! a y.0.4.1.0 (λ h hs fits.
    regoal ! (λ (ws : List Val). prop (Run ws)) (λ i. us i ++ (hs i ++ [])) refl $ keep ! (1 ∷ 0 ∷ []) $ by ! (goes 𝓛 𝓜 𝓡 y h fits x.at x.held refl some)))))
