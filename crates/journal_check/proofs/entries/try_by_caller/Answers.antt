use Rattle.std.proofs.Common.{◌<◌, length, arith}
use Rattle.std.specs.Prelude.{slice_index_or}
use Rattle.tty_calls.specs.Plain.{call_of, event_of}
use Rattle.tty_calls.specs.Sessions.{session_of}
use Rattle.journal_check.specs.Scripts.{no_turn}
use Rattle.journal_check.proofs.TurnLemmas.{phase_turn, step_within, table_call}
use Rattle.journal_check.proofs.entries.try_by_caller.Goals as goal

pub call_in-call-requires-clause-within : goal.call_in-call-requires-clause-within
call_in-call-requires-clause-within c =
    let next = c.is_next.ensures.0 c.if-not-is_next.false in
    let known : c.args.caller < length c.args.table.now.turns.now = omega (arith, next.known, c.requires.many) in
    let own = phase_turn c.args.port (session_of c.args.session.now) c.args.terminal.now.terminal.phase c.args.caller
    c.args.table.now.turns.now c.args.entry.now.who c.args.entry.now.step (event_of c.args.entry.now.event)
    c.requires.turns c.requires.by_caller c.requires.in_phase known in
    (step_within c.args.port (session_of c.args.session.now) c.args.terminal.now.terminal.phase c.args.caller
    (slice_index_or c.args.table.now.turns.now c.args.caller no_turn) c.args.entry.now.who c.args.entry.now.step
    (event_of c.args.entry.now.event)
    own c.requires.by_caller c.requires.in_phase c.requires.of_call).1

pub try_of_call-requires-clause-call : goal.try_of_call-requires-clause-call
try_of_call-requires-clause-call c = record {
  number = table_call c.args.port (session_of c.args.session.now) c.args.caller c.args.entry.now.step
      (call_of c.call_in-call.result) c.requires.formed c.call_in-call.ensures;
  bytes = c.is_counted.ensures.0 c.if-not-is_counted.false;
}
