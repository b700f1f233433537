use Rattle.std.proofs.Common.{◌≡◌, ◌+◌, refl}
use Rattle.std.proofs.lemmas.Result.{err_from_is_err_and, IfOk-weaker}
use Rattle.one_thread.proofs.StationLemmas.{err_with}
use Rattle.modem_one.specs.AfterLine.{EndsTurns, StopsTurns}
use Rattle.modem_ports.specs.Between.{IsBetween, IsStoppedBy}
use Rattle.modem_ports.specs.declared.phases.ModemStation.{ModemStation}
use Rattle.modem_ports.proofs.Phased.{frame_of, line_begins, turns_begin, phase_over}
use Rattle.modem_ports.proofs.Stopped.{turns_stop, line_stops}
use Rattle.modem_ports.proofs.phases.play_parts.Goals as goal

pub play_line-played-requires-clause-begins : goal.play_line-played-requires-clause-begins
play_line-played-requires-clause-begins g c = line_begins g.setting c.args.roles.now c.args.at.now c.args.run
    c.args.calls.now c.args.items.now c.args.steps.now.items c.args.ticks c.requires

pub play_line-played-requires-clause-good : goal.play_line-played-requires-clause-good
play_line-played-requires-clause-good g c = c.requires.good

pub play_after_line-ended-requires : goal.play_after_line-ended-requires
play_after_line-ended-requires g c =
    let begins = turns_begin g.setting c.args.roles.now c.args.at.now c.args.run c.args.calls.now c.args.items.now
    c.args.steps.now.items c.args.ticks c.play_line-played.new.port c.play_line-played.new.putter
    c.play_line-played.new.line c.in_ok-run.run' c.requires c.in_ok-run.ensures.ok
    c.known.ensures.port in
    (begins.0, begins.1)

pub returns-in_err-run-clause-err : goal.returns-in_err-run-clause-err
returns-in_err-run-clause-err g c =
    let at = c.args.at.now in
    let new = c.play_line-played.new in
    let left : ModemStation = record {
      names = at.names;
      station = record { port = new.port; putter = new.putter; line = new.line; steps = at.station.steps };
      desk = at.desk;
    } in
    let p = err_from_is_err_and c.from_residual.result c.from_residual.ensures.1 in
    rw (p.1, p.2)
    (line_stops c.in_err-run.field-0.0 g.setting c.args.roles.now at c.args.run c.args.calls.now c.args.items.now
    c.args.steps.now.items c.args.ticks left new.port new.putter new.line
    c.requires c.in_err-run.ensures.err c.known.ensures.port refl refl refl refl)

pub returns-clause-ok : goal.returns-clause-ok
returns-clause-ok g c =
    let at = c.args.at.now in
    let line = c.play_line-played.new in
    let new = c.play_after_line-ended.new in
    let k = at.station.port.terminal.phase in
    IfOk-weaker c.play_after_line-ended.result
    (λ next. EndsTurns (frame_of g.setting line.port c.args.ticks) c.args.roles.now
    new.port line.putter new.putter new.desk next)
    (λ next. IsBetween g.setting.first g.setting.session (k + 1) next
    (record {
      names = at.names;
      station = record { port = new.port; putter = new.putter; line = line.line; steps = at.station.steps };
      desk = new.desk;
    }))
    (λ next ends.
    let over = phase_over g.setting c.args.roles.now at c.args.run c.args.calls.now c.args.items.now
    c.args.steps.now.items c.args.ticks line.port line.putter line.line c.in_ok-run.run' new.port new.putter new.desk
    next c.requires c.in_ok-run.ensures.ok ends in
    record {
      before = over.0;
      phase = over.1;
      port = c.journal-end.ensures.port;
      names = c.requires.between.names;
      steps = c.requires.between.steps;
    })
    c.play_after_line-ended.ensures.ok

pub returns-clause-err : goal.returns-clause-err
returns-clause-err g c =
    let at = c.args.at.now in
    let line = c.play_line-played.new in
    let new = c.play_after_line-ended.new in
    let left : ModemStation = record {
      names = at.names;
      station = record { port = new.port; putter = new.putter; line = line.line; steps = at.station.steps };
      desk = new.desk;
    } in
    err_with (λ d. StopsTurns d (frame_of g.setting line.port c.args.ticks) c.args.roles.now new.port new.desk)
    (λ d. IsStoppedBy d g.setting.first g.setting.session left) (new.putter ≡ line.putter)
    c.play_after_line-ended.result c.play_after_line-ended.ensures.err c.play_after_line-ended.ensures.putter
    (λ d stops same. turns_stop d g.setting c.args.roles.now at c.args.run c.args.calls.now c.args.items.now
    c.args.steps.now.items c.args.ticks line.port line.putter line.line c.in_ok-run.run' left new.port new.putter
    new.desk
    c.requires c.in_ok-run.ensures.ok stops same c.journal-end.ensures.port refl refl refl refl)
