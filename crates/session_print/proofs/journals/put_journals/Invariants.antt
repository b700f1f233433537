use Rattle.std.proofs.Common.{◌≡◌, ◌++◌, drop, string_bytes}
use Rattle.tty_calls.specs.Sessions.{session_of}
use Rattle.session_print.specs.Journals.{journals_from}
use Rattle.session_print.proofs.journals.put_journals.Given as goal

abbrev pub invariant-loop-port : goal.invariant-loop-port
invariant-loop-port l =
    string_bytes l.text ++ journals_from l.port (session_of l.session) (drop l.port l.runs)
    ≡ string_bytes l.initial.text ++ journals_from 0 (session_of l.session) l.runs
