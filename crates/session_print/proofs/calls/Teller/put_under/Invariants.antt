use Rattle.std.proofs.Common.{string_bytes}
use Rattle.session_print.specs.Printing.{noted_answer}
use Rattle.session_print.proofs.Telling.{Stepping}
use Rattle.session_print.proofs.calls.Teller.put_under.Given as goal

abbrev pub invariant-loop-place : goal.invariant-loop-place
invariant-loop-place l =
    Stepping l.self.port (noted_answer l.self.answers) l.name (string_bytes l.initial.text) l.initial.turn.caller
    l.initial.turn.step l.calls.items (string_bytes l.text) (string_bytes l.head.front) (string_bytes l.head.shared)
    l.turn.caller l.turn.step l.place
