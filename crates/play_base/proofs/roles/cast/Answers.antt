use Rattle.std.proofs.Common.{sym, ap, map, ◌∙◌, ◌≢◌, arith}
use Rattle.play_base.specs.Roles.{role_in}
use Rattle.play_base.specs.Casting.{IsNumbered}
use Rattle.play_base.proofs.CastLemmas.{own_at, others_yes, others_no, others_all}
use Rattle.play_base.proofs.roles.cast.Goals as goal
use Rattle.play_base.proofs.roles.cast.Goals.{then-from-port+in_ok-push, else-from-port}

pub loop-place-init : goal.loop-place-init
loop-place-init c = λ others same. ap (map (role_in others)) c.new-roles.ensures.items

pub role_of-requires-clause-numbered : goal.role_of-requires-clause-numbered
role_of-requires-clause-numbered c =
    own_at (IsNumbered c.args.names.now) c.args.port c.args.scripts.now c.loop-place.place c.index-scripts-place.result
    c.loop-place-test.true c.index-scripts-place.is (sym c.from.ensures ∙ c.if-from-port.true) c.requires.numbered

pub loop-place-preserved : goal.loop-place-preserved
loop-place-preserved c =
    elim c.if-from-port.branch [
      | then-from-port+in_ok-push w ↦ λ others same.
          ap (λ v. map (role_in others) v.items) w.roles-is
          ∙ ap (map (role_in others)) w.in_ok-push.ensures.items
          ∙ others_yes c.args.names.now c.args.steps.now c.args.port others c.args.scripts.now c.loop-place.place
          c.index-scripts-place.result c.loop-place.roles.items w.role_of.result
          same c.loop-place-test.true c.index-scripts-place.is
          (sym c.from.ensures ∙ w.if-from-port.true) w.role_of.ensures.number w.role_of.ensures.first
          w.role_of.ensures.place (c.loop-place.invariant others same)
      | else-from-port w ↦ λ others same.
          let other : c.index-scripts-place.result.port ≢ c.args.port = λ e.
          w.if-from-port.false (c.from.ensures ∙ e) in
          ap (λ v. map (role_in others) v.items) w.roles-is
          ∙ others_no c.args.names.now c.args.steps.now c.args.port others c.args.scripts.now c.loop-place.place
          c.index-scripts-place.result c.loop-place.roles.items same c.loop-place-test.true c.index-scripts-place.is
          other (c.loop-place.invariant others same)
    ]

pub returns : goal.returns
returns c = λ others same. others_all c.args.names.now c.args.steps.now c.args.port others c.args.scripts.now
    c.loop-place.place c.loop-place.roles.items same (omega arith) (c.loop-place.invariant others same)
