use Rattle.std.proofs.Common.{◌≡◌, ◌++◌, drop, flat_map, string_bytes}
use Rattle.session_print.specs.Journals.{overrun_line}
use Rattle.session_print.proofs.journals.put_overruns.Given as goal

abbrev pub invariant-loop-overrun : goal.invariant-loop-overrun
invariant-loop-overrun l =
    string_bytes l.text ++ flat_map overrun_line (drop l.overrun-index l.overruns)
    ≡ string_bytes l.initial.text ++ flat_map overrun_line l.overruns
