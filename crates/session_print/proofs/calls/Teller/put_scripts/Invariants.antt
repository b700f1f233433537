use Rattle.std.proofs.Common.{string_bytes}
use Rattle.session_print.specs.Printing.{noted_answer}
use Rattle.session_print.proofs.Telling.{Scripting}
use Rattle.session_print.proofs.calls.Teller.put_scripts.Given as goal

abbrev pub invariant-loop-script : goal.invariant-loop-script
invariant-loop-script l =
    Scripting l.self.port (noted_answer l.self.answers) l.self.names.now (string_bytes l.initial.text)
    l.initial.steps.items l.scripts (string_bytes l.text) l.steps.items l.script-index
