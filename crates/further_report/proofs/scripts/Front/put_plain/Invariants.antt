use Rattle.std.proofs.Common.{◌≡◌, ◌+◌, ◌-◌, ◌++◌, drop, map, take}
use Rattle.session_print.specs.Words.{verb_of}
use Rattle.further_report.specs.Calls.{lines_from}
use Rattle.further_report.specs.Printing.{bytes_of}
use Rattle.further_report.proofs.scripts.Front.put_plain.Given as goal

abbrev pub invariant-loop-place : goal.invariant-loop-place
invariant-loop-place l = record {
  lines : l.text.items
      ++ lines_from l.self.port l.self.name.now (bytes_of l.self.answers.now) l.step
      (map verb_of (take (l.end - l.place) (drop l.place l.calls.items)))
      ≡ l.initial.text.items
      ++ lines_from l.self.port l.self.name.now (bytes_of l.self.answers.now) l.fn.cursor.step
      (map verb_of (take (l.end - l.fn.cursor.taken) (drop l.fn.cursor.taken l.calls.items)));
  at_step : l.step + (l.end - l.place) ≡ l.fn.cursor.step + (l.end - l.fn.cursor.taken);
}
