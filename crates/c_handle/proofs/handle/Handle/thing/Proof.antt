-- `thing` tests the pointer, and lends the thing behind it: the handle follows it.
use Rattle.std.proofs.Common.{◌≡◌, ℕ, List, [], ◌∷◌, refl, sym, ap, lit<}
use seplogic.Ra.Ura.{Ura}
use base.Fml.{Fml, GName, Lft, Share, ftrue, fsep, flft, fres}
use base.Fraction.{full_share}
use base.Logic.{SProp, ent, sep}
use mir.Raw.{raw as bare}
use mir.Syntax.{named, tcons, tnil}
use mir.Val.{Val, vptr, vcons, vnil}
use prog.Wp.{Env}
use types.Logic.{Logic, sem}
use types.Kit.{‵, ◌⊛◌, given, some, later, at_ret, ◌$◌, ◌∵◌, !, qed, move, drop, keep, split, split3, join, group}
use types.Kit.{fsplit, fsplit3, fjoin, fpack, pick, await, rewrite, suffices, learn, use0, use1, frame, done}
use types.Run.{stop, fld, load, lit, of_opd, addr, bin, no_more, and_then, first, blocks, skips, branches, exec}
use types.Run.{returns, returns_within, enter}
use types.Part.{agg, look_in, sub, whole}
use types.Match.{live}
use types.ByLocal.{alloc_all, pass_all, free_all, look_at, get, through, sets, sets_last, is, env}
use contract.Running.{tables}
use denote.Exit.{no}
use denote.Follow.{follows, follows_by, lends_Part}
use denote.Memory.{cell_at, lone, mem, part_at, part_of}
use denote.RattleType.{RattleType, owns}
use denote.RawPtr.{Ptr, block_ptr, ptr_val, Testable, tests_null}
use denote.Ref.{MutBor, MutRef, mut_vals, mut_Tells}
use denote.Signature.{plain, mut_ref_to, types_at}
use denote.Steps.{nothing, opens, closes}
use denote.Triple.Walked.{says, Stays, stay_dropped, walk_of, ends_at, Goes-spent_ref}
use Rattle.libc.specs.Heap.{chunk}
use Rattle.std.proofs.alloc.Shapes.{after}
use Rattle.std.proofs.option.Made.{Some-of, none_of}
use Rattle.std.proofs.raw_atomic.Walks.{proved}
use Rattle.std.specs.Box.Ownership.{box_owns}
use Rattle.std.specs.contracts.option.Option as option
use Rattle.std.specs.declared.option.Option.TheVariants.{None, Some}
use Rattle.c_handle.specs.Handle.{handle_owns}
use Rattle.c_handle.specs.Lending.{with_thing}
use Rattle.c_handle.specs.contracts.thing.Thing as thing
use Rattle.c_handle.proofs.Values.{Handle, word, handle_out, handle_in, handle_cases, tested}
use Rattle.c_handle.specs.contracts.handle.Handle.thing as f
use Rattle.c_handle.proofs.handle.Handle.thing.Statement.{statement}
use Rattle.c_handle.proofs.handle.Handle.thing.Code as code

abbrev Thing : RattleType
Thing = thing.the_row

abbrev stayed : Stays f.ended.signature.params f.ended.kept
stayed = (stay_dropped (mut_ref_to (0 ∷ []) tt (plain (λ _. Handle))) no, tt)

module _ {M : Type 1} {𝓤 : Ura M} (𝓛 : Logic 𝓤) (b o : ℕ) (d : Handle.Denot) (pb po : ℕ) where
  -- all of the handle but its thing
  abbrev pub Rest : Fml
  Rest = fsep (chunk (bare (lone Thing.mir)) (block_ptr pb po)) (cell_at full_share Handle.mir (word d.at ∷ []) b o)

  pub back : d.at ≡ block_ptr pb po → (w : Thing.Denot)
      → ent 𝓤 (sep 𝓤 (sem 𝓛 ((mem Thing).own_at w pb po)) (sem 𝓛 Rest)) (sem 𝓛 ((mem Handle).own_at (with_thing d w) b o))
  unfolding part_of
  back e w =
      qed 𝓛 (‵ (part_at Thing full_share w pb po) ∷ ‵ Rest ∷ []) ∵ move ! (1 ∷ []) $ fsplit ! $ move ! (2 ∷ 0 ∷ []) $ fjoin ! $
      rewrite ! 0 (λ (q : Ptr). ‵ (handle_owns q (Some w))) (sym e) refl $ handle_in ! (with_thing d w) $ move ! (1 ∷ 0 ∷ []) $ fjoin ! $
      fpack ! (List Val) (λ us. fsep (cell_at full_share Handle.mir us b o) (Handle.own_val (with_thing d w) us)) (word d.at ∷ []) $ done !

pub thing_spec : {M : Type 1} → statement M
unfolding follows_by
thing_spec 𝓤 𝓛 𝓜 𝓡 wired =
    let c = f.clauses 𝓛 𝓜.mem 𝓡.returns in let 𝓣 = tables 𝓤 𝓛.H 𝓜 𝓡 𝓡.env in
    proved 𝓛 f.ended stayed c 𝓜 𝓡 (Goes-spent_ref 𝓛 1 (0 ∷ []) tt (plain (λ _. Handle)), tt)
    f.Key.name code.function (code.unfolded 𝓤 𝓛.H 𝓜 𝓡 wired)
    (λ κs. (mut_vals, tt)) (λ κs. (mut_Tells (named 0) κs.0 Handle, tt)) (λ κs qs bounds a g are.
    let κ : Lft = κs.0 in let q : Share = qs.0 in let b : ℕ = a.0.ref_ptr.0 in let o : ℕ = a.0.ref_ptr.1 in let γ : GName = a.0.ghost_name in let d : Handle.Denot = a.0.now in
    let us : List Val = vptr b o ∷ [] in let y : (walk_of 𝓛 f.ended stayed c).Ghost = ((κs, qs, bounds, a, (us, tt)), g) in let Post : Val → SProp 𝓤 = (walk_of 𝓛 f.ended stayed c).post y in
    let Lent : RattleType = MutRef (named 0) κ Thing in
    qed 𝓛 (((‵ (flft κ q) ⊛ ‵ ftrue) ⊛ ‵ (owns (types_at f.ended.signature.params κs) a (us, tt))) ∷ ‵ ftrue ∷ []) ∵
    enter ! _ _ _ _ _ $ alloc_all ! (λ l. pass_all ! refl ((tt, tt), tt) $ let En : Env 𝓤 𝓛.H = env (code.function).locals l in
    split ! $ split ! $ move ! (2 ∷ []) $ fsplit ! $ fsplit3 ! $ drop ! $ move ! (0 ∷ 1 ∷ 3 ∷ []) $ opens ! tt Handle {h = d} b o (λ vs.
    move ! (1 ∷ []) $ handle_out ! d vs (λ ev. rewrite ! 1 (λ (ws : List Val). ‵ (cell_at full_share Handle.mir ws b o)) ev refl $
    handle_cases ! d.at d.held
    (λ at_null is_none. let zero : Val = live 0 vnil in
    -- [what the handle owns; the word; the open borrow; obs; auth]
    sets ! (is ! (of_opd ! (load ! (through ! refl (fld ! refl (stop !))) (look_in ! 1 (sub ! {τs = tcons _ tnil} 0 refl (whole !))))) (ap ptr_val at_null)) refl (tt, record { fits = lit< tt }) $
    sets ! (bin ! (get ! refl) (lit ! tt) tt) refl (tt, tt) $ first ! $ branches ! (get ! refl)
    (λ _. sets ! (agg ! (and_then ! (lit ! tt) (no_more !))) refl (tt, (record { fits = lit< tt }, tt)) $
    handle_in ! d $ move ! (1 ∷ 0 ∷ 2 ∷ 3 ∷ 4 ∷ []) $ closes ! tt Handle d (word d.at ∷ []) b o $
    use1 𝓛 (‵ (fres γ (Handle.coded.code d))) (𝓛.names.obs-res γ (Handle.coded.code d)) $ move ! (1 ∷ []) $ drop ! $
    use0 𝓛 (‵ ((option.the_row Lent).own_val None (zero ∷ []))) (none_of 𝓛 Lent) $
    returns_within ! Post refl (look_at ! 0 refl) $ free_all ! refl $ move ! (0 ∷ 2 ∷ 1 ∷ []) $ keep ! (0 ∷ 1 ∷ 2 ∷ []) $
    suffices ! _ (ends_at 𝓛 f.ended stayed c y zero None (tt, tt) (tt, tt)) $
    nothing ! $ nothing ! $ fjoin ! $ join ! $ nothing ! $ move ! (2 ∷ 0 ∷ []) $ join ! $ join ! $ frame ! $ says ! (sym is_none) $ done !)
    (λ wrong. absurd wrong))
    (λ pb po x in_block is_some. let p : Ptr = block_ptr pb po in let at : Val = vptr pb po in let one : Val = live 1 (vcons at vnil) in
    use1 𝓛 (given (Testable p) (‵ (box_owns chunk Thing p x))) (tested 𝓛 p x) $ learn ! (λ may. fsplit ! $
    -- [the thing; the right to free it; the word; the open borrow; obs; auth]
    sets ! (is ! (of_opd ! (load ! (through ! refl (fld ! refl (stop !))) (look_in ! 2 (sub ! {τs = tcons _ tnil} 0 refl (whole !))))) (ap ptr_val in_block)) refl (tt, tt) $
    sets ! (bin ! (get ! refl) (lit ! tt) (tests_null p may)) refl (tt, tt) $ first ! $ branches ! (get ! refl)
    (λ wrong. absurd wrong)
    (λ _. skips ! $ exec ! 𝓣.C 𝓣.Λ En (after 3 (code.function).body) (at_ret En Post) $ first ! $ blocks ! $
    sets ! (is ! (of_opd ! (load ! (through ! refl (fld ! refl (stop !))) (look_in ! 2 (sub ! {τs = tcons _ tnil} 0 refl (whole !))))) (ap ptr_val in_block)) refl (tt, tt) $
    sets ! (of_opd ! (get ! refl)) refl (tt, tt) $ sets_last ! (addr ! (through ! refl (stop !))) refl (tt, tt) $
    exec ! 𝓣.C 𝓣.Λ En (after 4 (code.function).body) (at_ret En Post) $ sets ! (of_opd ! (get ! refl)) refl (tt, tt) $
    sets ! (agg ! (and_then ! (lit ! tt) (and_then ! (get ! refl) (no_more !)))) refl (tt, (record { fits = lit< tt }, (tt, tt))) $
    move ! (1 ∷ 2 ∷ []) $ fjoin ! $ move ! (2 ∷ 3 ∷ 4 ∷ 1 ∷ 0 ∷ []) $ group ! 5 $
    use1 𝓛 (later (some (λ (γ' : GName). ‵ (Lent.own_val (record { ref_ptr = (pb, po); ghost_name = γ'; now = x }) (at ∷ [])) ⊛ ‵ (flft κ q) ⊛ ‵ (follows Handle Thing γ γ' (with_thing d)))))
    (lends_Part 𝓛 Handle Thing (with_thing d) (named 0) κ q b o pb po γ (sem 𝓛 (Rest 𝓛 b o d pb po)) (back 𝓛 b o d pb po in_block) (Handle.coded.code d) (Handle.coded.code d) x) $ await ! tt $ pick ! (λ γ'.
    let r : MutBor Thing.Denot = record { ref_ptr = (pb, po); ghost_name = γ'; now = x } in
    split3 ! $ use1 𝓛 (‵ ((option.the_row Lent).own_val (Some r) (one ∷ []))) (Some-of 𝓛 Lent r at) $
    returns ! (look_at ! 0 refl) $ free_all ! refl $ keep ! (0 ∷ 1 ∷ 2 ∷ []) $
    suffices ! _ (ends_at 𝓛 f.ended stayed c y one (Some r) (tt, tt) (tt, tt)) $
    nothing ! $ nothing ! $ fjoin ! $ join ! $ nothing ! $ move ! (2 ∷ 0 ∷ []) $ join ! $ join ! $ frame ! $ says ! (sym is_some) $ done !))))))))
