use Rattle.std.proofs.Common.{◌+◌}
use Rattle.tty_port.specs.Shared.{name_of_port}
use Rattle.tty_port.proofs.Outcomes.{on_ok}
use Rattle.many_threads.proofs.PartLemmas.{line_plays}
use Rattle.vt_keyboard.proofs.LineEnd.{runs_of, runs_still}
use Rattle.vt_keyboard.proofs.console_ends.end_console.Goals as goal

pub line_end-seats-requires-clause-seat : goal.line_end-seats-requires-clause-seat
line_end-seats-requires-clause-seat g c = c.requires.line.here

pub line_end-seats-requires-clause-not_over : goal.line_end-seats-requires-clause-not_over
line_end-seats-requires-clause-not_over g c = c.requires.line.not_over

pub line_end-seats-requires-clause-ring : goal.line_end-seats-requires-clause-ring
line_end-seats-requires-clause-ring g c = c.requires.line.ring

pub line_end-seats-requires-clause-sent : goal.line_end-seats-requires-clause-sent
line_end-seats-requires-clause-sent g c = c.requires.line.sent

pub play_clock-seats-requires-clause-seat : goal.play_clock-seats-requires-clause-seat
play_clock-seats-requires-clause-seat g c = c.requires.clock.here

pub play_clock-seats-requires-clause-not_over : goal.play_clock-seats-requires-clause-not_over
play_clock-seats-requires-clause-not_over g c = c.requires.clock.not_over

pub returns : goal.returns
returns g c =
    let n = (name_of_port c.args.shared.now).callers + 1 in
    let old = c.args.seats.now in
    let end = c.args.end.now in
    let now = c.line_end-seats.new.putter in
    let new = c.line_end-seats.new.seat in
    record {
      line = λ steps line played first does.
          let runs = runs_of steps line played first end does in
          record {
            here = c.line_end-seats.ensures.seat;
            ok = on_ok c.line_end-seats.result _ _
                (λ one. line_plays n steps line played first end now old.line new c.requires.line.here.number runs one)
                c.line_end-seats.ensures.ok;
            err =
                runs_still c.line_end-seats.result steps line played first end now runs c.line_end-seats.ensures.putter;
            full = c.line_end-seats.ensures.full;
          };
      clock = record {
        here = c.play_clock-seats.ensures.seat;
        ok = c.play_clock-seats.ensures.ok;
        err = c.play_clock-seats.ensures.err;
        full = c.play_clock-seats.ensures.full;
      };
    }
