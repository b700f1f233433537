use Rattle.std.proofs.Common.{drop, map}
use Rattle.tty_calls.specs.Sessions.{script_of}
use Rattle.passed_calls.specs.Scripts.{mixed_scripts}
use Rattle.further_report.specs.Printing.{bytes_of}
use Rattle.further_report.proofs.Pieces.{HasScripts}
use Rattle.further_report.proofs.scripts.Teller.put_scripts.Given as goal

abbrev pub invariant-loop-number : goal.invariant-loop-number
invariant-loop-number g l =
    HasScripts g.C.FurtherCall.verb_text l.self.port l.self.names
    (map (λ texts. bytes_of texts.items) l.self.answers.items) l.initial.text.items l.initial.steps.items
    (mixed_scripts 0 (map script_of l.scripts) l.placed)
    l.text.items l.steps.items (mixed_scripts l.number (map script_of (drop l.number l.scripts)) l.rest)
