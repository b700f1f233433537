-- The bytes of a run, in a struct that owns nothing.
use Rattle.std.proofs.Common.{ℕ, List, [], ◌∷◌, refl}
use mir.Syntax.{named}
use types.Kit.{raw, ‵, ◌⊛◌, ◌$◌, ◌∵◌, !, qed, move, keep, split, fjoin, suffices, done}
use types.Run.{enter, no_more, returns}
use types.ByLocal.{alloc_all, pass_all, free_all, look_at, sets}
use types.Part.{agg}
use denote.Exit.{yes}
use denote.RattleType.{owns}
use denote.Builtin.{RefOf}
use denote.Ref.{shr_vals, shr_Tells}
use denote.Signature.{Slot, plain, types_at, named_lft}
use denote.Steps.{nothing}
use denote.Triple.Entry.{alive}
use denote.Triple.Walked.{Stays, walk_of, says, stay_dropped, Goes-dropped, ends_at}
use Rattle.std.proofs.raw_atomic.Walks.{proved}
use Rattle.word_ring.specs.contracts.past.Run as run
use Rattle.word_ring.specs.contracts.past.Past.of as f
use Rattle.word_ring.proofs.Weightless.{empty_val, passed_in}
use Rattle.word_ring.proofs.past.Past.of.Statement.{statement}
use Rattle.word_ring.proofs.past.Past.of.Code as code

-- the reference that it takes
abbrev taken : Slot 2
taken = RefOf (0 ∷ []) tt (plain (λ κs. run.the_row (named_lft 2 1 tt κs))) (λ κs. tt)

abbrev stayed : Stays f.ended.signature.params f.ended.kept
stayed = (stay_dropped taken yes, tt)

pub of_spec : {M : Type 1} → statement M
of_spec 𝓤 𝓛 𝓜 𝓡 wired =
    let c = f.clauses 𝓛 𝓜.mem 𝓡.returns in let W = walk_of 𝓛 f.ended stayed c in
    proved 𝓛 f.ended stayed c 𝓜 𝓡 (Goes-dropped 𝓛 2 taken yes (λ κs x w. refl), tt)
    f.Key.name code.function (code.unfolded 𝓤 𝓛.H 𝓜 𝓡 wired)
    (λ κs. (shr_vals, tt))
    (λ κs. (shr_Tells (named 0) κs.0 (run.the_row (named_lft 2 1 tt κs)), tt)) (λ κs qs bounds a g are.
    let y : W.Ghost = ((κs, qs, bounds, a, (shr_vals a.0, tt)), g) in
    let after : List ℕ = a.0.now.bytes.now in
    qed 𝓛
    ((raw (alive 𝓛 f.signature κs qs) ⊛ ‵ (owns (types_at f.signature.params κs) a y.0.4)) ∷ raw ((c κs a).requires g)
    ∷ []) ∵ keep ! (0 ∷ [])
    $ split !
    $ keep ! (0 ∷ [])
    $
    enter ! _ _ _ _ _ $ alloc_all ! (λ l. pass_all ! refl ((tt, tt), tt) $
    sets ! (agg ! (no_more !)) refl (tt, tt) $
    returns ! (look_at ! 0 refl) $ free_all ! refl $
    suffices ! _ (ends_at 𝓛 f.ended stayed c y empty_val (record { items = after }) (tt, tt) (tt, tt)) $ says ! refl $
    nothing ! $ passed_in ! after $ nothing ! $ nothing ! $ fjoin ! $ move ! (2 ∷ 0 ∷ 1 ∷ []) $ done !))
