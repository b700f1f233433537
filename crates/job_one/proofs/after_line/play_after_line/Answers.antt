use Rattle.std.proofs.Common.{◌≡◌, Bool, [], ◌∙◌, sym, subst}
use Rattle.std.proofs.lemmas.Bool.{false≢true}
use Rattle.std.proofs.lemmas.Result.{err_from_is_err_and}
use Rattle.one_thread.specs.Turns.{role_numbers, IsTurn}
use Rattle.one_thread.specs.declared.after_line.Turn.{Turn}
use Rattle.one_thread.specs.declared.after_line.Turn.TheVariants as turn
use Rattle.job_one.specs.Frames.{IsNextTurn}
use Rattle.job_one.proofs.FlushTurns.{in_turn_at, stops_with}
use Rattle.job_one.proofs.NextCalls.{ring_is}
use Rattle.job_one.proofs.LeftCalls.{begins_between, known_at, going_at, ends_turns}
use Rattle.job_one.proofs.after_line.play_after_line.Goals.{in-End, in_default}
use Rattle.job_one.proofs.after_line.play_after_line.Goals as goal

pub turn_of-next-requires-clause-known : goal.turn_of-next-requires-clause-known
turn_of-next-requires-clause-known g c =
    known_at g.frame c.args.roles.now c.args.port.now c.args.desk.now c.args.stand c.args.calls.now
    (begins_between g.frame c.args.roles.now c.args.port.now c.args.desk.now c.args.stand c.args.calls.now c.requires.0)

pub turn_of-next-requires-clause-place : goal.turn_of-next-requires-clause-place
turn_of-next-requires-clause-place g c =
    going_at g.frame c.args.roles.now c.args.port.now c.args.desk.now c.args.stand c.args.calls.now
    (begins_between g.frame c.args.roles.now c.args.port.now c.args.desk.now c.args.stand c.args.calls.now c.requires.0)

pub loop-next-init : goal.loop-next-init
loop-next-init g c =
    record {
      between = begins_between g.frame c.args.roles.now c.args.port.now
          c.args.desk.now c.args.stand c.args.calls.now c.requires.0;
      turn = subst (λ (b : Bool).
          IsTurn b c.args.port.now (role_numbers c.args.roles.now) c.args.stand.going c.turn_of-next.result)
          c.requires.1.0 c.turn_of-next.ensures;
    }

pub returns-in_err-stand-clause-err : goal.returns-in_err-stand-clause-err
returns-in_err-stand-clause-err g c =
    let p = err_from_is_err_and c.from_residual.result c.from_residual.ensures.1 in
    rw (p.1, p.2) c.in_err-stand.ensures.err

pub turn_of-next-requires-in-loop-next-clause-known : goal.turn_of-next-requires-in-loop-next-clause-known
turn_of-next-requires-in-loop-next-clause-known g c =
    known_at g.frame c.args.roles.now c.play_turn.new.port c.play_turn.new.desk c.in_ok-stand.stand
    c.play_turn.new.calls c.in_ok-stand.ensures.ok

pub turn_of-next-requires-in-loop-next-clause-place : goal.turn_of-next-requires-in-loop-next-clause-place
turn_of-next-requires-in-loop-next-clause-place g c =
    going_at g.frame c.args.roles.now c.play_turn.new.port c.play_turn.new.desk c.in_ok-stand.stand
    c.play_turn.new.calls c.in_ok-stand.ensures.ok

pub loop-next-preserved : goal.loop-next-preserved
loop-next-preserved g c =
    record {
      between = c.in_ok-stand.ensures.ok;
      turn = subst (λ (b : Bool). IsTurn b c.play_turn.new.port (role_numbers c.args.roles.now)
          c.in_ok-stand.stand.going c.turn_of-next-in-loop-next.result)
          c.requires.1.0 c.turn_of-next-in-loop-next.ensures;
    }

pub end_phase-requires-clause-turn : goal.end_phase-requires-clause-turn
end_phase-requires-clause-turn g c =
    let at_end : c.loop-next.next ≡ turn.End =
    elim c.match-matches.branch [
      | in-End w ↦ w.in-End.is
      | in_default w ↦ absurd (false≢true (sym w.matches-is ∙ c.if-not-matches.false))
    ] in
    in_turn_at g.frame c.args.roles.now c.loop-next.port c.loop-next.desk
    c.loop-next.stand turn.End c.loop-next.invariant.between.at
    (subst (λ (n : Turn). IsNextTurn g.frame c.args.roles.now c.loop-next.port c.loop-next.stand n)
    at_end c.loop-next.invariant.turn)

pub end_phase-requires-clause-ring : goal.end_phase-requires-clause-ring
end_phase-requires-clause-ring g c =
    c.requires.1.1
    ∙ (ring_is g.frame c.args.roles.now c.args.port.now c.args.desk.now c.args.stand [] c.requires.0.at
    ∙ sym (ring_is g.frame c.args.roles.now c.loop-next.port c.loop-next.desk
    c.loop-next.stand [] c.loop-next.invariant.between.at))

pub returns-in_err-run-clause-err : goal.returns-in_err-run-clause-err
returns-in_err-run-clause-err g c =
    let p = err_from_is_err_and c.from_residual-in_err-run.result c.from_residual-in_err-run.ensures.1 in
    rw (p.1, p.2) (stops_with g.frame c.args.roles.now c.in_err-run.field-0.0 c.loop-next.port c.end_phase.new.port
    c.loop-next.desk c.loop-next.stand [] c.loop-next.invariant.between.at c.in_err-run.ensures.err)

pub returns-clause-ok : goal.returns-clause-ok
returns-clause-ok g c =
    let at_end : c.loop-next.next ≡ turn.End =
    elim c.match-matches.branch [
      | in-End w ↦ w.in-End.is
      | in_default w ↦ absurd (false≢true (sym w.matches-is ∙ c.if-not-matches.false))
    ] in
    ends_turns g.frame c.args.roles.now c.loop-next.port c.end_phase.new.port c.args.putter.now c.end_phase.new.putter
    c.loop-next.desk c.loop-next.stand c.loop-next.calls _ c.loop-next.invariant.between
    (subst (λ (n : Turn). IsNextTurn g.frame c.args.roles.now c.loop-next.port c.loop-next.stand n)
    at_end c.loop-next.invariant.turn)
    c.in_ok-run.ensures.ok c.in_ok-run.ensures.adds c.journal-last.ensures.port c.journal-behind.ensures.port
