-- A slot owns what the pointer of a box owned.
use Rattle.std.proofs.Common.{List, [], ◌∷◌, ◌++◌, refl, sym, subst}
use Rattle.std.specs.Prelude.{Some}
use mir.Val.{Val, vptr}
use base.Logic.{SProp, ent, id⊢}
use base.Fml.{ftrue}
use prog.Wp.{WpFn}
use contract.Running.{tables}
use types.Kit.{‵, raw, ◌⊛◌, ◌$◌, ◌∵◌, !, qed, move, keep, split, fsplit, fjoin, fpack, suffices, done}
use types.Run.{stop, fld, enter, of_opd, no_more, and_then, returns}
use types.ByLocal.{alloc_all, pass_all, free_all, look_at, get, get_in, sets}
use types.Part.{agg, sub, whole}
use denote.Exit.{yes}
use denote.RattleType.{owns}
use denote.RawPtr.{block_ptr}
use denote.Signature.{types_at, plain}
use denote.Steps.{nothing}
use denote.Triple.Walked.{Stays, walk_of, says, stay_dropped, ends_at}
use Rattle.core.proofs.alloc.Calls.{Goes-blank}
use Rattle.std.specs.declared.alloc.Global.{Global}
use Rattle.std.specs.contracts.alloc.Global as heap
use Rattle.std.proofs.alloc.Global.TheLaws as heap_laws
use Rattle.std.specs.contracts.impls.GlobalAllocator.TheImpl.{ghosts}
use Rattle.std.specs.Box.Ownership.{box_owns}
use Rattle.std.proofs.raw_atomic.Walks.{proved_at}
use Rattle.uart_regs.specs.contracts.Uart as row_of
use Rattle.tty_c.proofs.Machine.{pair_val, slot_val, slot_good, Loosened, pair_good, loose_out}
use Rattle.tty_c.proofs.ReceiverMachine.{slot_in}
use Rattle.tty_c.specs.contracts.uarts.UartSlot.of as f
use Rattle.tty_c.proofs.uarts.UartSlot.of.Statement.{statement}
use Rattle.tty_c.proofs.uarts.UartSlot.of.Code as code

abbrev stayed : Stays f.ended.signature.params f.ended.kept
stayed = (stay_dropped (plain (λ _. Loosened row_of.the_row heap.the_row heap_laws.the_row_laws ghosts)) yes, tt)

pub of_spec : {M : Type 1} → statement M
of_spec 𝓤 𝓛 𝓜 𝓡 wired =
    let 𝓣 = tables 𝓤 𝓛.H 𝓜 𝓡 𝓡.env in let c = f.clauses 𝓛 𝓜.mem 𝓡.returns in
    proved_at 𝓛 f.ended stayed c 𝓜 𝓡 (
      Goes-blank 𝓛 0 (plain (λ _. Loosened row_of.the_row heap.the_row heap_laws.the_row_laws ghosts)) yes
          (λ κs x e. tt),
      tt,
    )
    f.Key.name code.function (code.unfolded 𝓤 𝓛.H 𝓜 𝓡 wired) (λ z are.
    let d = z.0.3.0 in let Post : Val → SProp 𝓤 = (walk_of 𝓛 f.ended stayed c).post z in
    let Run : List Val → SProp 𝓤 = λ ws. WpFn 𝓤 𝓛.H 𝓣.C 𝓣.Λ code.function ws Post in
    qed 𝓛
    ((‵ ftrue ⊛ ‵ (owns (types_at f.signature.params z.0.0) z.0.3 z.0.4)) ∷ raw ((c z.0.0 z.0.3).requires z.1) ∷ []) ∵
    split !
    $ move ! (1 ∷ [])
    $ fsplit !
    $ loose_out row_of.the_row heap.the_row heap_laws.the_row_laws ghosts ! d z.0.4.0
    (λ b o h ws fits. keep ! (0 ∷ []) $
    -- [a 16550 with the right to free it]
    let w : Val = pair_val (vptr b o) h in
    suffices ! (Run (w ∷ []))
    (subst (λ (us : List Val). ent 𝓤 (Run (w ∷ [])) (Run us)) (sym (λ i. ws i ++ [])) (id⊢ 𝓤 (Run (w ∷ []))))
    $
    enter ! 𝓣.C 𝓣.Λ code.function (w ∷ []) Post
    $ alloc_all !
    (λ l. pass_all ! refl (pair_good row_of.the_row heap.the_row heap_laws.the_row_laws ghosts b o h fits, tt) $
    sets ! (of_opd ! (get_in ! (fld ! refl (stop !)) (sub ! 0 refl (whole !)))) refl (tt, tt) $
    sets ! (of_opd ! (get ! refl)) refl (tt, tt) $
    sets ! (agg ! (and_then ! (get ! refl) (no_more !))) refl (slot_good (block_ptr b o)) $
    returns ! (look_at ! 0 refl) $ free_all ! refl $
    fpack ! Global (λ (a : Global). box_owns (ghosts.dealloc_token a) row_of.the_row (block_ptr b o) d.value) d.alloc
    $ slot_in ! (block_ptr b o) (Some d.value)
    $
    suffices ! _
    (ends_at 𝓛 f.ended stayed c z (slot_val (block_ptr b o)) (record { at = block_ptr b o; uart = Some d.value })
    (tt, tt) (tt, tt))
    $ says ! refl
    $
    nothing ! $ nothing ! $ fjoin ! $ nothing ! $ done !)))
