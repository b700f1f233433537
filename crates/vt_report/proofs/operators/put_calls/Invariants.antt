use Rattle.std.proofs.Common.{drop, string_bytes}
use Rattle.vt_report.specs.Printing.{HasCalls}
use Rattle.vt_report.proofs.operators.put_calls.Given as goal

abbrev pub invariant-loop-call : goal.invariant-loop-call
invariant-loop-call l =
    HasCalls l.consoles l.states l.name (string_bytes l.initial.text) l.initial.cursor l.calls (string_bytes l.text)
    l.cursor (drop l.call-index l.calls)
