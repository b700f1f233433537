use Rattle.std.proofs.Common.{◌≡◌, ℕ, sym, ap, subst}
use Rattle.std.specs.Prelude.{option_map}
use Rattle.tty_calls.specs.Sessions.{session_of}
use Rattle.tty_one.specs.Endings.{texts_of}
use Rattle.tty_one.specs.Reported.{returned}
use Rattle.tty_main.specs.ExitStatus.{IsEnded}
use Rattle.tty_main.proofs.ending.run_words.Goals as goal

pub returns : goal.returns
returns g c =
    let called = c.tty_run-status.ensures in
    let from = c.args.source.now in
    let to = c.args.sink.now in
    let new = c.tty_run-status.new in
    subst (λ (status : ℕ). IsEnded (new.source ≡ from) (texts_of c.args.words.now)
    (g.S.Source.faults from) (g.S.Source.faults new.source) (g.K.Sink.faults to) (g.K.Sink.faults new.sink)
    (g.S.Source.left from) (g.S.Source.left new.source) (g.K.Sink.given to) (g.K.Sink.given new.sink) status)
    (sym c.from.ensures) (
    record {
      back = returned c.tty_run-status.result;
      headline = called.headline;
      consoles_headline = called.consoles_headline;
      other_words = called.other_words;
      known_words = called.known_words;
      read_fault = called.read_fault;
      write_fault = called.write_fault;
      too_long = called.too_long;
      long = called.long;
      told = called.told;
      statuses = called.statuses;
      done = called.done;
      bad_session = called.bad_session;
      not_legal = called.not_legal;
      broken = called.broken;
      no_runs = called.no_runs;
      none_judged = called.none_judged;
      no_entries = called.no_entries;
      no_log = called.no_log;
      no_modem_log = called.no_modem_log;
      none_derived = λ other. ap (option_map session_of) (called.none_derived other);
      rest_left = called.rest;
      complete = called.complete;
      made = called.made;
      unread = called.unread;
      judged = called.judged;
      consoles = called.consoles;
      modem_lines = called.modem_lines;
      processes = called.processes;
    }
    )
