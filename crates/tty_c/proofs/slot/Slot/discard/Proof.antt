-- An empty slot leaves nothing behind.
use Rattle.std.proofs.Common.{◌≡◌, List, [], ◌∷◌, ◌++◌, refl, sym, subst}
use Rattle.std.specs.Prelude.{None}
use mir.Val.{Val, vunit}
use base.Logic.{SProp, ent, id⊢}
use base.Fml.{ftrue}
use prog.Wp.{WpFn}
use contract.Monad.{fact}
use contract.Running.{tables}
use types.Kit.{‵, raw, ◌⊛◌, ◌$◌, ◌∵◌, !, qed, move, keep, split, fsplit, fjoin, feq_i, suffices, done}
use types.Run.{enter, of_opd, unit_lit, returns}
use types.ByLocal.{alloc_all, pass_all, free_all, look_at, sets}
use denote.Exit.{yes}
use denote.RattleType.{owns}
use denote.Signature.{types_at, plain}
use denote.Steps.{nothing, heard}
use denote.Triple.Walked.{Stays, walk_of, says, stay_dropped, ends_at}
use Rattle.core.proofs.alloc.Calls.{Goes-blank}
use Rattle.std.proofs.raw_atomic.Walks.{proved_at}
use Rattle.tty_c.proofs.Machine.{slot_val, slot_good, slot_out}
use Rattle.tty_c.specs.contracts.slot.Slot as slot
use Rattle.tty_c.specs.contracts.slot.Slot.discard as f
use Rattle.tty_c.proofs.slot.Slot.discard.Statement.{statement}
use Rattle.tty_c.proofs.slot.Slot.discard.Code as code

abbrev stayed : Stays f.ended.signature.params f.ended.kept
stayed = (stay_dropped (plain (λ _. slot.the_row)) yes, tt)

pub discard_spec : {M : Type 1} → statement M
discard_spec 𝓤 𝓛 𝓜 𝓡 wired =
    let 𝓣 = tables 𝓤 𝓛.H 𝓜 𝓡 𝓡.env in let c = f.clauses 𝓛 𝓜.mem 𝓡.returns in
    proved_at 𝓛 f.ended stayed c 𝓜 𝓡 (Goes-blank 𝓛 0 (plain (λ _. slot.the_row)) yes (λ κs x e. tt), tt)
    f.Key.name code.function (code.unfolded 𝓤 𝓛.H 𝓜 𝓡 wired) (λ z are.
    let d = z.0.3.0 in let Post : Val → SProp 𝓤 = (walk_of 𝓛 f.ended stayed c).post z in
    let Run : List Val → SProp 𝓤 = λ ws. WpFn 𝓤 𝓛.H 𝓣.C 𝓣.Λ code.function ws Post in
    qed 𝓛 ((‵ ftrue ⊛ ‵ (owns (types_at f.signature.params z.0.0) z.0.3 z.0.4)) ∷ raw (fact 𝓤 (d.tty ≡ None)) ∷ []) ∵
    move ! (1 ∷ [])
    $ heard ! (d.tty ≡ None) (λ empty. split ! $ move ! (1 ∷ []) $ fsplit ! $ slot_out ! d z.0.4.0 (λ ws. keep ! [] $
    suffices ! (Run (slot_val d.at ∷ []))
    (subst (λ (us : List Val). ent 𝓤 (Run (slot_val d.at ∷ [])) (Run us)) (sym (λ i. ws i ++ []))
    (id⊢ 𝓤 (Run (slot_val d.at ∷ []))))
    $
    enter ! 𝓣.C 𝓣.Λ code.function (slot_val d.at ∷ []) Post $ alloc_all ! (λ l. pass_all ! refl (slot_good d.at, tt) $
    sets ! (of_opd ! (unit_lit !)) refl (tt, tt) $ returns ! (look_at ! 0 refl) $ free_all ! refl $
    suffices ! _ (ends_at 𝓛 f.ended stayed c z vunit tt (tt, tt) (tt, tt)) $ says ! empty $
    feq_i ! _ (vunit ∷ []) _ refl $ nothing ! $ nothing ! $ fjoin ! $ nothing ! $ done !))))
