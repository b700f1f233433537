use Rattle.std.proofs.Common.{◌≡◌, ◌++◌, drop}
use Rattle.std.specs.Prelude.{string_bytes}
use Rattle.vt_print.specs.Consoles.{row_lines}
use Rattle.vt_print.proofs.rows.put_rows.Given as goal

abbrev pub invariant-loop-r : goal.invariant-loop-r
invariant-loop-r l =
    string_bytes l.text ++ row_lines l.console l.r (drop l.r l.screen.rows)
    ≡ string_bytes l.initial.text ++ row_lines l.console 0 l.screen.rows
