use Rattle.std.proofs.Common.{◌≡◌, Bool, None, ◌∙◌, sym, subst}
use Rattle.std.proofs.lemmas.Bool.{false≢true}
use Rattle.std.proofs.lemmas.Result.{err_from_is_err_and, IfOk-weaker, IfErr-weaker}
use Rattle.port_core.specs.Ports.{Denies}
use Rattle.legal_runs.specs.Order.{is_of_consoles}
use Rattle.one_thread.specs.Turns.{role_numbers, IsTurn}
use Rattle.one_thread.specs.Stages.{EndsAfterLine, StopsAfterLine}
use Rattle.one_thread.specs.Acts.{PlaysEnd}
use Rattle.one_thread.specs.declared.after_line.Turn.{Turn}
use Rattle.one_thread.specs.declared.after_line.Turn.TheVariants as turn
use Rattle.one_thread.proofs.Orders.{any_turn}
use Rattle.one_thread.proofs.Ready.{in_order}
use Rattle.one_thread.proofs.AfterLine.{begins, goes_on_playing, all_known, stops_of}
use Rattle.one_thread.proofs.after_line.play_after_line.Goals.{in-End, in_default}
use Rattle.one_thread.proofs.after_line.play_after_line.Goals as goal

pub turn_of-next-requires-clause-known : goal.turn_of-next-requires-clause-known
turn_of-next-requires-clause-known g c =
    all_known g.scene c.args.scripts.now c.args.roles.now c.args.port.now _
    (begins g.scene c.args.scripts.now c.args.roles.now c.args.port.now c.args.ticks c.args.run
    c.requires.0 c.requires.1.0 c.known.ensures.port).plays

pub loop-next-init : goal.loop-next-init
loop-next-init g c =
    record {
      playing = begins g.scene c.args.scripts.now c.args.roles.now c.args.port.now c.args.ticks c.args.run
          c.requires.0 c.requires.1.0 c.known.ensures.port;
      turn = subst (λ (b : Bool). IsTurn b c.args.port.now (role_numbers c.args.roles.now) None c.turn_of-next.result)
          c.requires.1.1.1.1 c.turn_of-next.ensures;
    }

pub returns-in_err-stand-clause-err : goal.returns-in_err-stand-clause-err
returns-in_err-stand-clause-err g c =
    let p = err_from_is_err_and c.from_residual.result c.from_residual.ensures.1 in
    rw (p.1, p.2)
    (stops_of g.scene c.args.scripts.now c.args.roles.now c.args.port.now c.loop-next.port c.play_turn.new.port
    c.args.ticks c.loop-next.stand _ c.loop-next.invariant.playing c.in_err-stand.ensures.err c.requires.1.1.0)

pub turn_of-next-requires-in-loop-next-clause-known : goal.turn_of-next-requires-in-loop-next-clause-known
turn_of-next-requires-in-loop-next-clause-known g c =
    all_known g.scene c.args.scripts.now c.args.roles.now c.play_turn.new.port
    c.in_ok-stand.stand c.in_ok-stand.ensures.ok.plays

pub turn_of-next-requires-in-loop-next-clause-place : goal.turn_of-next-requires-in-loop-next-clause-place
turn_of-next-requires-in-loop-next-clause-place g c = λ i is. (c.in_ok-stand.ensures.ok.plays.callers.goes_on i is).0

pub loop-next-preserved : goal.loop-next-preserved
loop-next-preserved g c =
    record {
      playing =
          goes_on_playing g.scene c.args.scripts.now c.args.roles.now c.args.port.now c.loop-next.port
          c.play_turn.new.port c.args.ticks c.loop-next.stand c.in_ok-stand.stand
          c.loop-next.invariant.playing c.in_ok-stand.ensures.ok;
      turn = subst (λ (b : Bool). IsTurn b c.play_turn.new.port (role_numbers c.args.roles.now)
          c.in_ok-stand.stand.going c.turn_of-next-in-loop-next.result)
          c.requires.1.1.1.1 c.turn_of-next-in-loop-next.ensures;
    }

pub end_phase-requires-clause-turn : goal.end_phase-requires-clause-turn
end_phase-requires-clause-turn g c =
    let playing = c.loop-next.invariant.playing in
    let at_end : c.loop-next.next ≡ turn.End =
    elim c.match-matches.branch [
      | in-End w ↦ w.in-End.is
      | in_default w ↦ absurd (false≢true (sym w.matches-is ∙ c.if-not-matches.false))
    ] in
    any_turn c.args.roles.now c.loop-next.port c.loop-next.stand turn.End
    (in_order g.scene c.args.scripts.now c.args.roles.now c.loop-next.port c.loop-next.stand c.loop-next.next
    turn.End playing.plays c.loop-next.invariant.turn at_end)

pub returns-clause-ok : goal.returns-clause-ok
returns-clause-ok g c =
    let playing = c.loop-next.invariant.playing in
    let at_end : c.loop-next.next ≡ turn.End =
    elim c.match-matches.branch [
      | in-End w ↦ w.in-End.is
      | in_default w ↦ absurd (false≢true (sym w.matches-is ∙ c.if-not-matches.false))
    ] in
    IfOk-weaker c.end_phase.result (λ next. PlaysEnd c.args.roles.now c.loop-next.port c.end_phase.new.port
    c.args.putter.now c.end_phase.new.putter c.loop-next.stand next)
    (λ next. EndsAfterLine g.scene c.args.port.now c.end_phase.new.port c.args.putter.now c.end_phase.new.putter next)
    (λ next ends. ends.in_order c.args.port.now (record {
      scene = g.scene;
      scripts = c.args.scripts.now;
      ticks = c.args.ticks;
      playing = playing;
      is_turn = subst (λ (n : Turn). IsTurn (is_of_consoles g.scene.session) c.loop-next.port
          (role_numbers c.args.roles.now) c.loop-next.stand.going n) at_end c.loop-next.invariant.turn;
      ticks_are = c.requires.1.1.0;
    })) c.end_phase.ensures.ok

pub returns-clause-err : goal.returns-clause-err
returns-clause-err g c =
    IfErr-weaker c.end_phase.result (λ d. Denies d c.loop-next.port c.end_phase.new.port)
    (λ d. StopsAfterLine g.scene c.args.port.now c.end_phase.new.port d)
    (λ d denies. stops_of g.scene c.args.scripts.now c.args.roles.now c.args.port.now c.loop-next.port
    c.end_phase.new.port c.args.ticks c.loop-next.stand d c.loop-next.invariant.playing denies c.requires.1.1.0)
    c.end_phase.ensures.err
