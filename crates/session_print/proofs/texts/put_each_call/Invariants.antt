use Rattle.std.proofs.Common.{◌≡◌, ◌++◌, drop, map, string_bytes, take}
use Rattle.tty_calls.specs.Sessions.{session_of}
use Rattle.session_print.specs.Report.{calls_from}
use Rattle.session_print.specs.Printing.{sums_on}
use Rattle.session_print.proofs.texts.put_each_call.Given as goal

abbrev pub invariant-loop-port : goal.invariant-loop-port
invariant-loop-port l = record {
  told : string_bytes l.text ++ calls_from l.port (session_of l.session) (drop l.port l.runs)
      ≡ string_bytes l.initial.text ++ calls_from 0 (session_of l.session) l.runs;
  summed : l.sums.items ≡ map sums_on (take l.port l.runs);
}
