use Rattle.std.proofs.Common.{drop, length, map, replicate}
use Rattle.tty_calls.specs.Sessions.{phase_of}
use Rattle.further_report.specs.Printing.{bytes_of, own_in, scripts_beside}
use Rattle.further_report.specs.Modem.{own_verb}
use Rattle.further_report.proofs.Pieces.{HasScripts}
use Rattle.further_report.proofs.modem.put_phases.Given as goal

abbrev pub invariant-loop-place : goal.invariant-loop-place
invariant-loop-place l =
    HasScripts own_verb l.teller.port l.teller.names (map (λ texts. bytes_of texts.items) l.teller.answers.items)
    l.initial.text.items (replicate (length l.teller.names) 0)
    (scripts_beside (map own_in l.parts) 0 (map phase_of l.phases))
    l.text.items l.steps.items (scripts_beside (map own_in l.parts) l.place (map phase_of (drop l.place l.phases)))
