use Rattle.std.proofs.Common.{◌≡◌, ◌++◌, drop, map, string_bytes}
use Rattle.session_print.specs.Ends.{end_of}
use Rattle.vt_report.specs.Report.{consoles_from}
use Rattle.vt_report.proofs.consoles.put_consoles.Given as goal

abbrev pub invariant-loop-console : goal.invariant-loop-console
invariant-loop-console l =
    string_bytes l.text
    ++ consoles_from l.console l.entries (drop l.console l.runs) (map end_of (drop l.console l.ends))
    ≡ string_bytes l.initial.text ++ consoles_from 0 l.entries l.runs (map end_of l.ends)
