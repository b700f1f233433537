-- An empty slot owns nothing beside its pointer.
use Rattle.std.proofs.Common.{[], ◌∷◌, refl}
use types.Kit.{raw, ◌$◌, ◌∵◌, !, qed, keep, join, suffices, done}
use types.Run.{enter, no_more, and_then, returns}
use types.ByLocal.{alloc_all, pass_all, free_all, look_at, get, sets}
use types.Part.{agg}
use denote.Exit.{yes}
use denote.Signature.{plain}
use denote.RawPtr.{RawPtr, rawptr_vals, rawptr_Tells}
use denote.Steps.{nothing}
use denote.Triple.Entry.{on_entry}
use denote.Triple.Walked.{Stays, walk_of, says, stay_dropped, Goes-dropped, ends_at}
use Rattle.std.specs.Prelude.{None}
use Rattle.std.proofs.raw_atomic.Walks.{proved}
use Rattle.tty_c.proofs.Machine.{slot_val, ptr_good, slot_good}
use Rattle.tty_c.proofs.LineMachine.{slot_in}
use Rattle.tty_c.specs.contracts.lines.LineSlot.empty as f
use Rattle.tty_c.proofs.lines.LineSlot.empty.Statement.{statement}
use Rattle.tty_c.proofs.lines.LineSlot.empty.Code as code

abbrev stayed : Stays f.ended.signature.params f.ended.kept
stayed = (stay_dropped (plain (λ _. RawPtr)) yes, tt)

pub empty_spec : {M : Type 1} → statement M
empty_spec 𝓤 𝓛 𝓜 𝓡 wired =
    let c = f.clauses 𝓛 𝓜.mem 𝓡.returns in let W = walk_of 𝓛 f.ended stayed c in
    proved 𝓛 f.ended stayed c 𝓜 𝓡 (Goes-dropped 𝓛 0 (plain (λ _. RawPtr)) yes (λ κs x w. refl), tt)
    f.Key.name code.function (code.unfolded 𝓤 𝓛.H 𝓜 𝓡 wired)
    (λ κs. (rawptr_vals, tt)) (λ κs. (rawptr_Tells, tt)) (λ κs qs bounds a g are.
    let at = a.0 in let y : W.Ghost = ((κs, qs, bounds, a, (rawptr_vals at, tt)), g) in
    qed 𝓛 (raw (on_entry 𝓛 f.signature κs qs a y.0.4) ∷ raw ((c κs a).requires g) ∷ []) ∵ keep ! [] $
    enter ! _ _ _ _ _ $ alloc_all ! (λ l. pass_all ! refl (ptr_good at, tt) $
    sets ! (agg ! (and_then ! (get ! refl) (no_more !))) refl (slot_good at) $
    returns ! (look_at ! 0 refl) $ free_all ! refl $
    suffices ! _ (ends_at 𝓛 f.ended stayed c y (slot_val at) (record { at = at; end = None }) (tt, tt) (tt, tt))
    $ says ! refl
    $
    nothing ! $ slot_in ! at None $ nothing ! $ nothing ! $ join ! $ nothing ! $ done !))
