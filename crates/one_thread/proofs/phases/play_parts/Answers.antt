use Rattle.std.proofs.Common.{◌≡◌, ◌+◌, map, sym, ap, ◌∙◌, subst}
use Rattle.std.proofs.lemmas.Result.{err_from_is_err_and, IfOk-weaker}
use Rattle.tty_calls.specs.Sessions.{ticks_on}
use Rattle.legal_runs.specs.Legal.{phase_at}
use Rattle.play_base.specs.Roles.{role_in, AreRolesOf}
use Rattle.play_base.specs.Beginning.{IsAtPhase}
use Rattle.play_base.specs.Phases.{HavePlayedInOrder, StopsFull}
use Rattle.one_thread.specs.Stages.{EndsAfterLine, StopsAfterLine}
use Rattle.one_thread.proofs.Orders.{any_line}
use Rattle.one_thread.proofs.StationLemmas.{stopped_in_line, stopped_after_line, err_with, at_next_phase, played_phase}
use Rattle.one_thread.proofs.phases.play_parts.Goals as goal

pub play_line-requires-clause-begins : goal.play_line-requires-clause-begins
play_line-requires-clause-begins g c =
    let v = c.args.station.now in
    any_line c.args.steps.now.items v.port v.putter v.line c.args.run
    (record { scene = g.scene; begins = c.requires.1.0; within = c.requires.0; steps_are = c.requires.1.1.1.0 })

pub play_after_line-requires : goal.play_after_line-requires
play_after_line-requires g c =
    let plays = c.in_ok-next.ensures.ok.in_order
    (record { scene = g.scene; begins = c.requires.1.0; within = c.requires.0; steps_are = c.requires.1.1.1.0 }) in (
      plays.after_line,
      (
        subst (λ k. AreRolesOf g.scene k (map (role_in c.args.scripts.now) c.args.roles.now)) (sym plays.phase)
            c.requires.1.1.1.1.1.0,
        (
          c.requires.1.1.1.1.1.1.0 ∙ ap (λ k. ticks_on g.scene.port (phase_at g.scene.session k)) (sym plays.phase),
          (plays.has_put.ring, c.requires.1.1.1.1.1.1.1),
        ),
      ),
    )

pub returns-in_err-next-clause-err : goal.returns-in_err-next-clause-err
returns-in_err-next-clause-err g c =
    let v = c.args.station.now in
    let p = err_from_is_err_and c.from_residual.result c.from_residual.ensures.1 in
    rw (p.1, p.2) (stopped_in_line c.in_err-next.field-0.0 g.scene v.port.terminal.phase v.port c.play_line.new.port
    v.putter c.play_line.new.putter v.line c.play_line.new.line c.args.run c.requires.0 c.requires.1.0 c.requires.1.1.0
    (c.in_err-next.ensures.err.in_order
    (record { scene = g.scene; begins = c.requires.1.0; within = c.requires.0; steps_are = c.requires.1.1.1.0 })))

pub returns-clause-at_phase : goal.returns-clause-at_phase
returns-clause-at_phase g c =
    let v = c.args.station.now in
    IfOk-weaker c.play_after_line.result
    (λ next. EndsAfterLine g.scene c.play_line.new.port c.play_after_line.new.port
    c.play_line.new.putter c.play_after_line.new.putter next)
    (λ next. IsAtPhase g.scene (v.port.terminal.phase + 1) c.play_after_line.new.port
    c.play_after_line.new.putter c.play_line.new.line next)
    (λ next ends. at_next_phase g.scene v.port.terminal.phase v.port c.play_line.new.port c.play_after_line.new.port
    v.putter c.play_line.new.putter c.play_after_line.new.putter v.line c.play_line.new.line c.args.run
    c.in_ok-next.next next c.requires.1.0
    (c.in_ok-next.ensures.ok.in_order
    (record { scene = g.scene; begins = c.requires.1.0; within = c.requires.0; steps_are = c.requires.1.1.1.0 })) ends)
    c.play_after_line.ensures.ok

pub returns-clause-played : goal.returns-clause-played
returns-clause-played g c =
    let v = c.args.station.now in
    IfOk-weaker c.play_after_line.result
    (λ next. EndsAfterLine g.scene c.play_line.new.port c.play_after_line.new.port
    c.play_line.new.putter c.play_after_line.new.putter next)
    (λ next. HavePlayedInOrder g.scene (v.port.terminal.phase + 1) c.play_after_line.new.port.journal
    c.play_line.new.line.report.overruns.items)
    (λ next ends. played_phase g.scene v.port.terminal.phase v.port c.play_line.new.port c.play_after_line.new.port
    v.putter c.play_line.new.putter c.play_after_line.new.putter v.line c.play_line.new.line c.args.run
    c.in_ok-next.next next c.requires.0 c.requires.1.0 c.requires.1.1.0
    (c.in_ok-next.ensures.ok.in_order
    (record { scene = g.scene; begins = c.requires.1.0; within = c.requires.0; steps_are = c.requires.1.1.1.0 })) ends)
    c.play_after_line.ensures.ok

pub returns-clause-err : goal.returns-clause-err
returns-clause-err g c =
    let v = c.args.station.now in
    err_with (λ d. StopsAfterLine g.scene c.play_line.new.port c.play_after_line.new.port d)
    (λ d. StopsFull d g.scene c.play_after_line.new.port c.play_after_line.new.putter c.play_line.new.line)
    (c.play_after_line.new.putter ≡ c.play_line.new.putter)
    c.play_after_line.result c.play_after_line.ensures.err c.play_after_line.ensures.putter
    (λ d stops same. stopped_after_line d g.scene v.port.terminal.phase v.port c.play_line.new.port
    c.play_after_line.new.port v.putter c.play_line.new.putter c.play_after_line.new.putter v.line c.play_line.new.line
    c.args.run c.in_ok-next.next c.requires.0 c.requires.1.0 c.requires.1.1.0
    (c.in_ok-next.ensures.ok.in_order
    (record { scene = g.scene; begins = c.requires.1.0; within = c.requires.0; steps_are = c.requires.1.1.1.0 }))
    stops same)
