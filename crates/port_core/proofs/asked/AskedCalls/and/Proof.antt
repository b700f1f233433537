-- One more call, in a struct that owns nothing.
use Rattle.std.proofs.Common.{List, [], ◌∷◌, ◌++◌, refl}
use mir.Syntax.{named}
use types.Kit.{raw, ‵, ◌⊛◌, ◌$◌, ◌∵◌, !, qed, move, keep, split, fjoin, suffices, done}
use types.Run.{enter, no_more, returns}
use types.ByLocal.{alloc_all, pass_all, free_all, look_at, sets}
use types.Part.{agg}
use denote.Exit.{yes}
use denote.RattleType.{owns}
use denote.Builtin.{RefOf}
use denote.Ref.{shr_vals, shr_Tells}
use denote.Signature.{Slot, plain, types_at, named_lft}
use denote.Steps.{nothing}
use denote.Triple.Entry.{alive}
use denote.Triple.Walked.{Stays, walk_of, says, stay_dropped, Goes-dropped, ends_at}
use Rattle.std.proofs.raw_atomic.Walks.{proved}
use Rattle.tty_calls.specs.Plain.{call_of}
use Rattle.tty_calls.specs.contracts.calls.Call as call
use Rattle.port_core.specs.Ports.{PlainKept}
use Rattle.port_core.specs.contracts.asked.Asked as asked
use Rattle.port_core.specs.contracts.asked.AskedCalls as calls
use Rattle.port_core.specs.contracts.asked.AskedCalls.and as f
use Rattle.port_core.proofs.Emptiness.{empty_val, asked_in}
use Rattle.port_core.proofs.asked.AskedCalls.and.Statement.{statement}
use Rattle.port_core.proofs.asked.AskedCalls.and.Code as code

-- the three references that it takes
abbrev before : Slot 4
before = RefOf (0 ∷ []) tt (plain (λ κs. calls.the_row)) (λ κs. tt)

abbrev step : Slot 4
step = RefOf (1 ∷ []) tt (plain (λ κs. asked.the_row)) (λ κs. tt)

abbrev one : Slot 4
one = RefOf (2 ∷ []) tt (plain (λ κs. call.the_row (named_lft 4 3 tt κs))) (λ κs. tt)

abbrev stayed : Stays f.ended.signature.params f.ended.kept
stayed = (stay_dropped before yes, (stay_dropped step yes, (stay_dropped one yes, tt)))

pub and_spec : {M : Type 1} → statement M
and_spec 𝓤 𝓛 𝓜 𝓡 wired =
    let c = f.clauses 𝓛 𝓜.mem 𝓡.returns in let W = walk_of 𝓛 f.ended stayed c in
    proved 𝓛 f.ended stayed c 𝓜 𝓡 (
      Goes-dropped 𝓛 4 before yes (λ κs x w. refl),
      (Goes-dropped 𝓛 4 step yes (λ κs x w. refl), (Goes-dropped 𝓛 4 one yes (λ κs x w. refl), tt)),
    )
    f.Key.name code.function (code.unfolded 𝓤 𝓛.H 𝓜 𝓡 wired)
    (λ κs. (shr_vals, (shr_vals, (shr_vals, tt))))
    (λ κs. (
      shr_Tells (named 0) κs.0 calls.the_row,
      (
        shr_Tells (named 1) κs.1.0 asked.the_row,
        (shr_Tells (named 2) κs.1.1.0 (call.the_row (named_lft 4 3 tt κs)), tt),
      ),
    ))
    (λ κs qs bounds a g are.
    let y : W.Ghost = ((κs, qs, bounds, a, (shr_vals a.0, (shr_vals a.1.0, (shr_vals a.1.1.0, tt)))), g) in
    let after : List PlainKept =
    a.0.now.items ++ record { caller = a.1.0.now.caller; step = a.1.0.now.step; call = call_of a.1.1.0.now } ∷ [] in
    qed 𝓛
    ((raw (alive 𝓛 f.signature κs qs) ⊛ ‵ (owns (types_at f.signature.params κs) a y.0.4)) ∷ raw ((c κs a).requires g)
    ∷ []) ∵ keep ! (0 ∷ [])
    $ split !
    $ keep ! (0 ∷ [])
    $
    enter ! _ _ _ _ _ $ alloc_all ! (λ l. pass_all ! refl ((tt, tt), ((tt, tt), ((tt, tt), tt))) $
    sets ! (agg ! (no_more !)) refl (tt, tt) $
    returns ! (look_at ! 0 refl) $ free_all ! refl $
    suffices ! _
    (ends_at 𝓛 f.ended stayed c y empty_val (record { items = after }) (tt, (tt, (tt, tt))) (tt, (tt, (tt, tt))))
    $ says ! refl
    $
    nothing !
    $ asked_in ! after
    $ nothing !
    $ nothing !
    $ fjoin !
    $ nothing !
    $ fjoin !
    $ nothing !
    $ fjoin !
    $ move ! (2 ∷ 0 ∷ 1 ∷ [])
    $ done !))
