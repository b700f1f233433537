-- The pointer of a slot with the putting end of a port owns what the pointer of a box owns.
use Rattle.std.proofs.Common.{◌≡◌, List, [], ◌∷◌, ◌++◌, refl, sym, ap, subst, ◌∙◌, Option}
use Rattle.std.specs.Prelude.{Some}
use mir.Raw.{raw as bare}
use mir.Val.{Val, vptr}
use base.Logic.{SProp, ent, id⊢, never, fst∗}
use base.Fml.{ftrue}
use prog.Wp.{WpFn}
use contract.Monad.{fact}
use contract.Running.{tables}
use types.Logic.{sem}
use types.Kit.{‵, raw, ◌⊛◌, ◌$◌, ◌∵◌, !, qed, move, keep, split, fsplit, fjoin, fpick, rewrite, suffices, done}
use types.Run.{stop, fld, enter, of_opd, no_more, and_then, returns}
use types.ByLocal.{alloc_all, pass_all, free_all, look_at, get, get_in, sets}
use types.Part.{agg, sub, whole}
use denote.Exit.{yes}
use denote.RattleType.{owns}
use denote.Memory.{lone}
use denote.RawPtr.{Ptr, block_ptr, null_ptr, in_a_block}
use denote.Signature.{types_at, plain}
use denote.Steps.{nothing, heard}
use denote.Triple.Walked.{Stays, walk_of, says, stay_dropped, ends_at}
use Rattle.core.proofs.alloc.Calls.{Goes-blank, handle_tells}
use Rattle.std.specs.contracts.alloc.Global as heap
use Rattle.std.proofs.alloc.Global.TheLaws as heap_laws
use Rattle.std.specs.contracts.impls.GlobalAllocator.TheImpl.{ghosts}
use Rattle.std.specs.Box.Ownership.{box_owns}
use Rattle.std.proofs.raw_atomic.Walks.{proved_at}
use Rattle.tty_device.specs.Lines.{PutEnd}
use Rattle.tty_device.specs.contracts.lines.Line as row_of
use Rattle.tty_c.specs.Owning.{end_owns}
use Rattle.tty_c.proofs.Machine.{pair_val, slot_val, slot_good, pair_good, allocator, loose_in}
use Rattle.tty_c.proofs.LineMachine.{slot_out}
use Rattle.tty_c.specs.contracts.lines.LineSlot as slot
use Rattle.tty_c.specs.contracts.lines.LineSlot.into_loose as f
use Rattle.tty_c.proofs.lines.LineSlot.into_loose.Statement.{statement}
use Rattle.tty_c.proofs.lines.LineSlot.into_loose.Code as code

abbrev stayed : Stays f.ended.signature.params f.ended.kept
stayed = (stay_dropped (plain (λ _. slot.the_row)) yes, (stay_dropped (plain (λ _. heap.the_row)) yes, tt))

pub into_loose_spec : {M : Type 1} → statement M
into_loose_spec 𝓤 𝓛 𝓜 𝓡 wired =
    let 𝓣 = tables 𝓤 𝓛.H 𝓜 𝓡 𝓡.env in let c = f.clauses 𝓛 𝓜.mem 𝓡.returns in
    proved_at 𝓛 f.ended stayed c 𝓜 𝓡 (
      Goes-blank 𝓛 0 (plain (λ _. slot.the_row)) yes (λ κs x e. tt),
      (Goes-blank 𝓛 0 (plain (λ _. heap.the_row)) yes (λ κs x e. tt), tt),
    )
    f.Key.name code.function (code.unfolded 𝓤 𝓛.H 𝓜 𝓡 wired) (λ z are.
    let d = z.0.3.0 in let a = z.0.3.1.0 in let Post : Val → SProp 𝓤 = (walk_of 𝓛 f.ended stayed c).post z in
    let Run : List Val → SProp 𝓤 = λ ws. WpFn 𝓤 𝓛.H 𝓣.C 𝓣.Λ code.function ws Post in
    qed 𝓛
    ((‵ ftrue ⊛ ‵ (owns (types_at f.signature.params z.0.0) z.0.3 z.0.4))
    ∷ raw (fact 𝓤 ((t : PutEnd) × (d.end ≡ Some t))) ∷ []) ∵
    move ! (1 ∷ [])
    $ heard ! ((t : PutEnd) × (d.end ≡ Some t))
    (λ has. split ! $ move ! (1 ∷ []) $ fsplit ! $ slot_out ! d z.0.4.0 (λ ws.
    rewrite ! 0 (λ (owned : Option PutEnd). ‵ (end_owns owned d.at)) has.1 refl $ fpick ! (λ kept.
    in_a_block ! d.at (λ (p : Ptr). box_owns (ghosts.dealloc_token kept) row_of.the_row p has.0)
    (fst∗ 𝓤 (never 𝓤) (sem 𝓛 (ghosts.dealloc_token kept (bare (lone row_of.the_row.mir)) null_ptr))) (λ b o at.
    move ! (1 ∷ [])
    $ fsplit !
    $ handle_tells (allocator row_of.the_row heap.the_row heap_laws.the_row_laws ghosts) ! a z.0.4.1.0
    (λ h told fits. keep ! (2 ∷ 0 ∷ []) $
    -- [the putting end of a port with the right to free it; the allocator]
    let v : Val = slot_val (block_ptr b o) in let w : Val = pair_val (vptr b o) h in let args : List Val = v ∷ h ∷ [] in
    suffices ! (Run args)
    (subst (λ (us : List Val). ent 𝓤 (Run args) (Run us))
    (sym (λ i. (ws ∙ ap (λ (p : Ptr). slot_val p ∷ []) at) i ++ (told i ++ []))) (id⊢ 𝓤 (Run args)))
    $
    enter ! 𝓣.C 𝓣.Λ code.function args Post
    $ alloc_all ! (λ l. pass_all ! refl (slot_good (block_ptr b o), (fits, tt)) $
    sets ! (of_opd ! (get_in ! (fld ! refl (stop !)) (sub ! 0 refl (whole !)))) refl (tt, tt) $
    sets ! (of_opd ! (get ! refl)) refl (tt, tt) $
    sets ! (agg ! (and_then ! (get ! refl) (and_then ! (get ! refl) (no_more !)))) refl
    (pair_good row_of.the_row heap.the_row heap_laws.the_row_laws ghosts b o h fits)
    $
    returns ! (look_at ! 0 refl)
    $ free_all ! refl
    $ loose_in row_of.the_row heap.the_row heap_laws.the_row_laws ghosts ! b o h a has.0
    $
    suffices ! _
    (ends_at 𝓛 f.ended stayed c z w (record { at = block_ptr b o; alloc = a; value = has.0 }) (tt, (tt, tt))
    (tt, (tt, tt)))
    $ says ! has.1
    $
    nothing ! $ nothing ! $ fjoin ! $ nothing ! $ fjoin ! $ nothing ! $ done !)))))))
