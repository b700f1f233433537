use Rattle.std.proofs.Common.{◌≤◌, drop, length}
use Rattle.passed_calls.specs.Scripts.{mixed}
use Rattle.further_report.specs.Printing.{bytes_of}
use Rattle.further_report.proofs.Lines.{Scripting}
use Rattle.further_report.proofs.scripts.Front.put_calls.Given as goal

abbrev pub invariant-loop-call : goal.invariant-loop-call
invariant-loop-call g l = record {
  calls : Scripting g.C.FurtherCall.verb_text l.self.port l.self.name.now (bytes_of l.self.answers.now)
      l.initial.text.items l.step (mixed 0 l.calls.items l.placed)
      l.text.items l.cursor.step
      (mixed l.cursor.place (drop l.cursor.taken l.calls.items) (drop l.call-index l.placed));
  within : l.cursor.taken ≤ length l.calls.items;
}
