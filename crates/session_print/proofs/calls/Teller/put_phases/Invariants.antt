use Rattle.std.proofs.Common.{string_bytes}
use Rattle.session_print.specs.Printing.{noted_answer}
use Rattle.session_print.proofs.Telling.{Phasing}
use Rattle.session_print.proofs.calls.Teller.put_phases.Given as goal

abbrev pub invariant-loop-phase : goal.invariant-loop-phase
invariant-loop-phase l =
    Phasing l.self.port (noted_answer l.self.answers) l.self.names.now (string_bytes l.initial.text)
    l.initial.steps.items l.phases (string_bytes l.text) l.steps.items l.phase-index
