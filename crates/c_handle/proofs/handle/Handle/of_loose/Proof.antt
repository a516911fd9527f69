-- `of_loose` keeps the pointer, and with it the box. The allocator's handle takes no bytes, and is let go.
use Rattle.std.proofs.Common.{List, [], ◌∷◌, ◌++◌, refl, sym, subst}
use base.Logic.{SProp, ent, id⊢}
use base.Fml.{ftrue}
use mir.Syntax.{tcons, tnil}
use mir.Val.{Val, vptr}
use prog.Wp.{WpFn}
use types.Kit.{‵, ◌⊛◌, ◌$◌, ◌∵◌, !, qed, drop, keep, split, join, fsplit, suffices, done}
use types.Run.{stop, fld, of_opd, no_more, and_then, returns, enter}
use types.Part.{agg, sub, whole}
use types.ByLocal.{alloc_all, pass_all, free_all, look_at, get, get_in, sets}
use contract.Running.{tables}
use denote.Exit.{yes}
use denote.RattleType.{RattleType, owns}
use denote.RawPtr.{block_ptr}
use denote.Signature.{types_at, plain}
use denote.Steps.{nothing}
use denote.Triple.Walked.{Stays, walk_of, says, stay_dropped, ends_at}
use Rattle.std.proofs.alloc.Calls.{Goes-blank}
use Rattle.std.proofs.raw_atomic.Walks.{proved_at}
use Rattle.std.specs.declared.option.Option.TheVariants.{Some}
use Rattle.std.specs.contracts.alloc.Global as heap
use Rattle.std.proofs.alloc.Global.TheLaws as heap_laws
use Rattle.std.specs.contracts.impls.GlobalAllocator.TheImpl.{ghosts}
use Rattle.c_handle.specs.contracts.thing.Thing as thing
use Rattle.c_handle.proofs.LooseValues.{Loose, both, loose_good, loose_out}
use Rattle.c_handle.proofs.Values.{Handle, word, word_good, handle_in}
use Rattle.c_handle.specs.contracts.handle.Handle.of_loose as f
use Rattle.c_handle.proofs.handle.Handle.of_loose.Statement.{statement}
use Rattle.c_handle.proofs.handle.Handle.of_loose.Code as code

abbrev Row : RattleType
Row = Loose thing.the_row heap.the_row heap_laws.the_row_laws ghosts

abbrev stayed : Stays f.ended.signature.params f.ended.kept
stayed = (stay_dropped (plain (λ _. Row)) yes, tt)

pub of_loose_spec : {M : Type 1} → statement M
of_loose_spec 𝓤 𝓛 𝓜 𝓡 wired =
    let c = f.clauses 𝓛 𝓜.mem 𝓡.returns in let 𝓣 = tables 𝓤 𝓛.H 𝓜 𝓡 𝓡.env in
    proved_at 𝓛 f.ended stayed c 𝓜 𝓡 (Goes-blank 𝓛 0 (plain (λ _. Row)) yes (λ κs x w. tt), tt) f.Key.name code.function (code.unfolded 𝓤 𝓛.H 𝓜 𝓡 wired) (λ y are.
    let x = y.0.3.0 in let Run : List Val → SProp 𝓤 = λ ws. WpFn 𝓤 𝓛.H 𝓣.C 𝓣.Λ code.function ws ((walk_of 𝓛 f.ended stayed c).post y) in
    qed 𝓛 ((‵ ftrue ⊛ ‵ (owns (types_at f.ended.signature.params y.0.0) y.0.3 y.0.4)) ∷ ‵ ftrue ∷ []) ∵ split ! $ drop ! $ fsplit ! $
    loose_out thing.the_row heap.the_row heap_laws.the_row_laws ghosts ! x y.0.4.0 (λ b o h at_b us fits. let v : Val = both (vptr b o) h in
    suffices ! (Run (v ∷ [])) (subst (λ (ws : List Val). ent 𝓤 (Run (v ∷ [])) (Run ws)) (sym (λ i. us i ++ [])) (id⊢ 𝓤 (Run (v ∷ [])))) $
    enter ! _ _ _ _ _ $ alloc_all ! (λ l. pass_all ! refl (loose_good thing.the_row heap.the_row heap_laws.the_row_laws ghosts b o h fits, tt) $
    -- [the box; the handle of the allocator; nothing; nothing; the locals]
    sets ! (of_opd ! (get_in ! (fld ! refl (stop !)) (sub ! {τs = tcons _ (tcons _ tnil)} 0 refl (whole !)))) refl (tt, tt) $
    sets ! (of_opd ! (get ! refl)) refl (tt, tt) $
    sets ! (agg ! (and_then ! (get ! refl) (no_more !))) refl (word_good (block_ptr b o)) $
    returns ! (look_at ! 0 refl) $ free_all ! refl $ keep ! (0 ∷ []) $
    let d : Handle.Denot = record { at = block_ptr b o; held = Some x.value } in
    suffices ! _ (ends_at 𝓛 f.ended stayed c y (word (block_ptr b o)) d (tt, tt) (tt, tt)) $ says ! refl $
    handle_in ! d $ nothing ! $ nothing ! $ join ! $ nothing ! $ done !)))
