use Rattle.std.proofs.Common.{◌≡◌, ◌++◌, drop, map, string_bytes}
use Rattle.tty_calls.specs.Sessions.{session_of}
use Rattle.session_print.specs.Ends.{end_of}
use Rattle.session_print.specs.Report.{ports_from}
use Rattle.session_print.proofs.texts.put_ports.Given as goal

abbrev pub invariant-loop-port : goal.invariant-loop-port
invariant-loop-port l =
    string_bytes l.text
    ++ ports_from l.port (session_of l.session) (drop l.port l.runs) (map end_of (drop l.port l.ends))
    ≡ string_bytes l.initial.text ++ ports_from 0 (session_of l.session) l.runs (map end_of l.ends)
