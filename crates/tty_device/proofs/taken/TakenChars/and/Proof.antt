-- More characters, in a struct that owns nothing.
use Rattle.std.proofs.Common.{List, [], ◌∷◌, ◌++◌, map, refl}
use mir.Syntax.{named}
use types.Kit.{raw, ‵, ◌⊛◌, ◌$◌, ◌∵◌, !, qed, move, keep, split, fjoin, suffices, done}
use types.Run.{enter, no_more, returns}
use types.ByLocal.{alloc_all, pass_all, free_all, look_at, sets}
use types.Part.{agg}
use denote.Exit.{yes}
use denote.RattleType.{owns}
use denote.Builtin.{RefOf}
use denote.Ref.{shr_vals, shr_Tells}
use denote.Signature.{Slot, plain, types_at}
use denote.Steps.{nothing}
use denote.Triple.Entry.{alive}
use denote.Triple.Walked.{Stays, walk_of, says, stay_dropped, Goes-dropped, ends_at}
use Rattle.std.proofs.raw_atomic.Walks.{proved}
use Rattle.tty_base.specs.contracts.lists.Chars as chars
use Rattle.tty_device.specs.Kept.{Taken, taken_as}
use Rattle.tty_device.specs.contracts.taken.Fate as fate
use Rattle.tty_device.specs.contracts.taken.TakenChars as taken
use Rattle.tty_device.specs.contracts.taken.TakenChars.and as f
use Rattle.tty_device.proofs.Emptiness.{empty_val, taken_in}
use Rattle.tty_device.proofs.taken.TakenChars.and.Statement.{statement}
use Rattle.tty_device.proofs.taken.TakenChars.and.Code as code

-- the three references that it takes
abbrev before : Slot 3
before = RefOf (0 ∷ []) tt (plain (λ κs. taken.the_row)) (λ κs. tt)

abbrev more : Slot 3
more = RefOf (1 ∷ []) tt (plain (λ κs. chars.the_row)) (λ κs. tt)

abbrev how : Slot 3
how = RefOf (2 ∷ []) tt (plain (λ κs. fate.the_row)) (λ κs. tt)

abbrev stayed : Stays f.ended.signature.params f.ended.kept
stayed = (stay_dropped before yes, (stay_dropped more yes, (stay_dropped how yes, tt)))

pub and_spec : {M : Type 1} → statement M
and_spec 𝓤 𝓛 𝓜 𝓡 wired =
    let c = f.clauses 𝓛 𝓜.mem 𝓡.returns in let W = walk_of 𝓛 f.ended stayed c in
    proved 𝓛 f.ended stayed c 𝓜 𝓡 (
      Goes-dropped 𝓛 3 before yes (λ κs x w. refl),
      (Goes-dropped 𝓛 3 more yes (λ κs x w. refl), (Goes-dropped 𝓛 3 how yes (λ κs x w. refl), tt)),
    )
    f.Key.name code.function (code.unfolded 𝓤 𝓛.H 𝓜 𝓡 wired)
    (λ κs. (shr_vals, (shr_vals, (shr_vals, tt))))
    (λ κs. (
      shr_Tells (named 0) κs.0 taken.the_row,
      (shr_Tells (named 1) κs.1.0 chars.the_row, (shr_Tells (named 2) κs.1.1.0 fate.the_row, tt)),
    ))
    (λ κs qs bounds a g are.
    let y : W.Ghost = ((κs, qs, bounds, a, (shr_vals a.0, (shr_vals a.1.0, (shr_vals a.1.1.0, tt)))), g) in
    let after : List Taken = a.0.now.items ++ map (taken_as a.1.1.0.now.dropped) a.1.0.now.items in
    qed 𝓛
    ((raw (alive 𝓛 f.signature κs qs) ⊛ ‵ (owns (types_at f.signature.params κs) a y.0.4)) ∷ raw ((c κs a).requires g)
    ∷ []) ∵ keep ! (0 ∷ [])
    $ split !
    $ keep ! (0 ∷ [])
    $
    enter ! _ _ _ _ _ $ alloc_all ! (λ l. pass_all ! refl ((tt, tt), ((tt, tt), ((tt, tt), tt))) $
    sets ! (agg ! (no_more !)) refl (tt, tt) $
    returns ! (look_at ! 0 refl) $ free_all ! refl $
    suffices ! _
    (ends_at 𝓛 f.ended stayed c y empty_val (record { items = after }) (tt, (tt, (tt, tt))) (tt, (tt, (tt, tt))))
    $ says ! refl
    $
    nothing !
    $ taken_in ! after
    $ nothing !
    $ nothing !
    $ fjoin !
    $ nothing !
    $ fjoin !
    $ nothing !
    $ fjoin !
    $ move ! (2 ∷ 0 ∷ 1 ∷ [])
    $ done !))
